-- Copying a clause off its chain: what one page adds.
use Rattle.std.proofs.Common.{◌≡◌, ℕ, ◌+◌, ◌*◌, ◌/◌, ◌%◌, ◌<◌, ◌≤◌, List, ◌++◌, length, get_or, take, drop, pos, sym, ap, ◌∙◌, append_assoc, arith}
use lib.Seq.{paste}
use borrow.Rule.Slice.PartMut.{put_mid}
use Rattle.std.proofs.Math.Seq.{take-add}
use Rattle.std.proofs.lemmas.List.{length-take-le, length-drop, get_or-take, get_or-drop, take_at, drop_at, drop-drop, take-map, drop-map, map-append, ext_get_or}
use Rattle.cnf.specs.declared.literal.Literal.{Literal}
use Rattle.cnf.specs.Formula.{Clause}
use Rattle.cnf.specs.Tabled.{numbers_of, length_numbers, no_literal, number_at}
use Rattle.pages.specs.declared.page.Page.{Page}
use Rattle.pages.specs.declared.entry.Entry.{Entry}
use Rattle.pages.specs.Chained.{no_page, page_after, entry_clause}
use Rattle.pages.specs.Numbers.{FullOn, clause_length, clause_at_place}

module _ (ps : List Page) (e : Entry) (full : FullOn ps e.pages e.head) (i m : ℕ) (lt : i < e.pages) (le : i * 8 + m ≤ e.size) (eight : m ≤ 8) where
  abbrev c : Clause
  c = entry_clause ps e

  abbrev ls : List Literal
  ls = (get_or ps (page_after ps i e.head) no_page).literals

  -- page i of the chain begins with the clause's literals from 8 * i on
  page_part : numbers_of (take m ls) ≡ take m (drop (i * 8) c)
  page_part =
      let n = clause_length ps e full in
      let whole = full i lt in
      let a = length_numbers (take m ls) ∙ length-take-le m ls (omega arith) in
      let r = length-drop (i * 8) c in
      let b = length-take-le m (drop (i * 8) c) (omega arith) in
      ext_get_or (pos 0) (numbers_of (take m ls)) (take m (drop (i * 8) c)) (omega arith) (λ q l.
      let w : q < m = omega arith in
      let d : (i * 8 + q) / 8 ≡ i = omega arith in
      let s : (i * 8 + q) % 8 ≡ q = omega arith in
      number_at (take m ls) q
      ∙ ap (λ (x : Literal). x.0) (get_or-take m ls q no_literal w)
      ∙ sym
      (get_or-take m (drop (i * 8) c) q (pos 0) w
      ∙ get_or-drop (i * 8) c q (pos 0)
      ∙ clause_at_place ps e full (i * 8 + q) (omega arith)
      ∙ ap (λ k. (get_or (get_or ps (page_after ps k e.head) no_page).literals ((i * 8 + q) % 8) no_literal).0) d
      ∙ ap (λ k. (get_or ls k no_literal).0) s))

  -- after that page so many literals more are written
  pub copied_more : (into was part : List Literal) (p n n' : ℕ) → p ≡ page_after ps i e.head → i * 8 ≤ length was → n ≡ i * 8 → n' ≡ i * 8 + m → part ≡ take m (get_or ps p no_page).literals
      → numbers_of into ≡ paste (numbers_of was) 0 c n → numbers_of (put_mid (i * 8) m into part) ≡ paste (numbers_of was) 0 c n'
  copied_more into was part p n n' at r is is' part_is done =
      let f = λ (x : Literal). x.0 in
      let a = i * 8 in
      let d = numbers_of was in
      let xs = numbers_of into in
      let len = clause_length ps e full in
      let front = length-take-le a c (omega arith) in
      let z : 0 + n ≡ a = omega arith in
      let z' : 0 + n' ≡ a + m = omega arith in
      let now : xs ≡ take a c ++ drop a d = done ∙ ap (λ k. take k c ++ drop (0 + n) d) is ∙ ap (λ k. take a c ++ drop k d) z in
      let part_now : numbers_of part ≡ take m (drop a c) = ap numbers_of part_is ∙ ap (λ k. numbers_of (take m (get_or ps k no_page).literals)) at ∙ page_part in
      map-append f (take a into) (part ++ drop m (drop a into))
      ∙ ap (λ t. numbers_of (take a into) ++ t) (map-append f part (drop m (drop a into)))
      ∙ ap (λ t. t ++ (numbers_of part ++ numbers_of (drop m (drop a into)))) (sym (take-map f a into))
      ∙ ap (λ t. take a xs ++ (numbers_of part ++ t)) (sym (drop-map f m (drop a into)) ∙ ap (drop m) (sym (drop-map f a into)))
      ∙ ap (λ t. take a xs ++ (t ++ drop m (drop a xs))) part_now
      ∙ ap (λ t. take a t ++ (take m (drop a c) ++ drop m (drop a t))) now
      ∙ ap (λ t. t ++ (take m (drop a c) ++ drop m (drop a (take a c ++ drop a d)))) (take_at (take a c) (drop a d) a front)
      ∙ ap (λ t. take a c ++ (take m (drop a c) ++ drop m t)) (drop_at (take a c) (drop a d) a front)
      ∙ ap (λ t. take a c ++ (take m (drop a c) ++ t)) (drop-drop m a d)
      ∙ sym (append_assoc (take a c) (take m (drop a c)) (drop (a + m) d))
      ∙ ap (λ t. t ++ drop (a + m) d) (sym (take-add a m c))
      ∙ sym (ap (λ k. take k c ++ drop (0 + n') d) is' ∙ ap (λ k. take (a + m) c ++ drop k d) z')

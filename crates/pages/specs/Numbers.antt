-- The numbers on a chain of full pages, by their places.
use Rattle.std.specs.Prelude.{◌≡◌, ℕ, zero, suc, ◌-◌, ◌*◌, ◌/◌, ◌%◌, ◌<◌, ◌≤◌, List, length, get_or, take, pos, Some, slice_index_or, refl}
use Rattle.std.proofs.Common.{sym, ap, ◌∙◌, ⊎_elim, arith}
use Rattle.std.proofs.lemmas.List.{length-append, length-take-le, get_or_append_left, get_or-append_right, get_or-take, get_or_past, ext_get_or}
use Rattle.std.proofs.lemmas.Bool.{cases_lt, ne_eqb, cond-false}
use Rattle.cnf.specs.declared.literal.Literal.{Literal}
use Rattle.cnf.specs.Tabled.{numbers_of, length_numbers, no_literal, number_at}
use Rattle.store.specs.Tables.{literal_in}
use Rattle.pages.specs.declared.page.Page.{Page}
use Rattle.pages.specs.declared.entry.Entry.{Entry}
use Rattle.pages.specs.Chained.{no_page, page_next, page_chain, page_after, times_in, chain_numbers, page_numbers, entry_clause, FullPages}
use Rattle.pages.specs.Chains.{SameLinks, after_links, after_below}

-- each page of a chain has eight literals
abbrev pub FullOn : List Page → ℕ → ℕ → Type 0
FullOn ps n h = (i : ℕ) → i < n → length (get_or ps (page_after ps i h) no_page).literals ≡ 8

pub full_on : (ps : List Page) (n h top : ℕ) → FullPages ps top → ((k : ℕ) → top ≤ k → times_in k (page_chain ps n h) ≡ 0) → FullOn ps n h
full_on ps n h top full none i l = full (page_after ps i h) (after_below ps i n h top l none)

-- the chain without its first page
full_rest : (ps : List Page) (n h : ℕ) → FullOn ps (suc n) h → FullOn ps n (page_next ps h)
full_rest ps n h f i l = f (suc i) (omega arith)

page_length : (ps : List Page) (n h : ℕ) → FullOn ps (suc n) h → length (page_numbers ps h) ≡ 8
page_length ps n h f = length_numbers (get_or ps h no_page).literals ∙ f 0 (omega arith)

pub text_length : (ps : List Page) (n h : ℕ) → FullOn ps n h → length (chain_numbers ps n h) ≡ 8 * n
text_length ps zero h f = refl
text_length ps (suc n) h f =
    let a = length-append (page_numbers ps h) (chain_numbers ps n (page_next ps h)) in
    let b = page_length ps n h f in
    let r = text_length ps n (page_next ps h) (full_rest ps n h f) in
    omega arith

pub text_at : (ps : List Page) (n h q : ℕ) → FullOn ps n h → q < 8 * n → slice_index_or (chain_numbers ps n h) q (pos 0) ≡ (get_or (get_or ps (page_after ps (q / 8) h) no_page).literals (q % 8) no_literal).0
text_at ps zero h q f l = absurd (omega arith)
text_at ps (suc n) h q f l =
    let b = page_length ps n h f in
    let here : q < 8 → slice_index_or (chain_numbers ps (suc n) h) q (pos 0) ≡ (get_or (get_or ps (page_after ps (q / 8) h) no_page).literals (q % 8) no_literal).0 =
    λ w. let z : q / 8 ≡ 0 = omega arith in
    let y : q % 8 ≡ q = omega arith in
    get_or_append_left (page_numbers ps h) (chain_numbers ps n (page_next ps h)) (pos 0) q (omega arith)
    ∙ number_at (get_or ps h no_page).literals q
    ∙ sym (ap (λ m. (get_or (get_or ps (page_after ps m h) no_page).literals (q % 8) no_literal).0) z ∙ ap (λ m. (get_or (get_or ps h no_page).literals m no_literal).0) y) in
    let later : 8 ≤ q → slice_index_or (chain_numbers ps (suc n) h) q (pos 0) ≡ (get_or (get_or ps (page_after ps (q / 8) h) no_page).literals (q % 8) no_literal).0 =
    λ w. let z : q / 8 ≡ suc ((q - 8) / 8) = omega arith in
    let y : q % 8 ≡ (q - 8) % 8 = omega arith in
    get_or-append_right (page_numbers ps h) (chain_numbers ps n (page_next ps h)) 8 q (pos 0) b w
    ∙ text_at ps n (page_next ps h) (q - 8) (full_rest ps n h f) (omega arith)
    ∙ sym (ap (λ m. (get_or (get_or ps (page_after ps m h) no_page).literals (q % 8) no_literal).0) z ∙ ap (λ m. (get_or (get_or ps (page_after ps ((q - 8) / 8) (page_next ps h)) no_page).literals m no_literal).0) y) in
    ⊎_elim here later (cases_lt q 8)

-- the literals of an entry
module _ (ps : List Page) (e : Entry) (full : FullOn ps e.pages e.head) where
  fits : e.size ≤ 8 * e.pages
  fits = omega (arith, e.fitting)

  pub clause_length : length (entry_clause ps e) ≡ e.size
  clause_length = length-take-le e.size (chain_numbers ps e.pages e.head) (let t = text_length ps e.pages e.head full in omega (arith, fits))

  pub clause_at_place : (q : ℕ) → q < e.size → slice_index_or (entry_clause ps e) q (pos 0) ≡ (get_or (get_or ps (page_after ps (q / 8) e.head) no_page).literals (q % 8) no_literal).0
  clause_at_place q l =
      get_or-take e.size (chain_numbers ps e.pages e.head) q (pos 0) l ∙ text_at ps e.pages e.head q full (omega (arith, fits))

  pub literal_in_none : (j : ℕ) → e.size < j → literal_in j (Some (entry_clause ps e)) ≡ pos 0
  literal_in_none j l =
      let t = clause_length in
      cond-false _ _ _ (ne_eqb j 0 (λ z. omega arith)) ∙ get_or_past (entry_clause ps e) (j - 1) (pos 0) (omega arith)

  pub literal_in_some : (j : ℕ) → 0 < j → j ≤ e.size → literal_in j (Some (entry_clause ps e)) ≡ (get_or (get_or ps (page_after ps ((j - 1) / 8) e.head) no_page).literals ((j - 1) % 8) no_literal).0
  literal_in_some j p l =
      cond-false _ _ _ (ne_eqb j 0 (λ z. omega arith)) ∙ clause_at_place (j - 1) (omega arith)

-- what is written to a chain by places is the clause
pub written : (ps qs : List Page) (n h : ℕ) (ls : List Literal) → SameLinks ps qs → FullOn qs n h → length ls ≤ 8 * n
    → ((q : ℕ) → q < 8 * n → q < length ls → slice_index_or (get_or qs (page_after ps (q / 8) h) no_page).literals (q % 8) no_literal ≡ slice_index_or ls q no_literal)
    → take (length ls) (chain_numbers qs n h) ≡ numbers_of ls
written ps qs n h ls links full fits text =
    let t = text_length qs n h full in
    let len = length-take-le (length ls) (chain_numbers qs n h) (omega arith) in
    let m = length_numbers ls in
    ext_get_or (pos 0) (take (length ls) (chain_numbers qs n h)) (numbers_of ls) (omega arith)
    (λ q l. let w : q < length ls = omega arith in
    get_or-take (length ls) (chain_numbers qs n h) q (pos 0) w
    ∙ text_at qs n h q full (omega arith)
    ∙ ap (λ k. (get_or (get_or qs k no_page).literals (q % 8) no_literal).0) (after_links ps qs links (q / 8) h)
    ∙ ap (λ (x : Literal). x.0) (text q (omega arith) w)
    ∙ sym (number_at ls q))

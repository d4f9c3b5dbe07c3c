-- Words that are added cell by cell.
use mathlib.Core.List.{map-map}
use Rattle.std.proofs.Common.{◌≡◌, ℕ, ◌+◌, ◌-◌, ◌≤◌, eqb, List, [], ◌∷◌, ◌++◌, map, Option, option_to_list, sym, refl, ap, ◌∙◌, arith}
use Rattle.std.specs.List.{flat_map}
use Rattle.std.proofs.lemmas.List.{append_assoc, append-nil, map-append}
use Rattle.std.proofs.lemmas.Bool.{eq-eqb, ne_eqb, cond-true, cond-false}
use Rattle.futoshiki.specs.Board.{up_to}
use Rattle.futoshiki.proofs.Stepping.{joined_up_more}
use Rattle.words.specs.declared.item.Item.TheVariants.{Board, Given, Claim, Less, End}
use Rattle.words.specs.Layouts.{item_word}
use Rattle.puzzle.specs.Reading.{Puzzle}
use Rattle.drawing.specs.Drawn.{byte_before, drawn_entry, drawn_given, given_word, claim_word, less_word, puzzle_items, puzzle_words}

-- the words that each cell gives, up to one more cell
pub cell_more : (given : ℕ → List ℕ) (i n : ℕ) (x y z : List ℕ) → 1 ≤ i → n ≡ i → y ≡ x ++ flat_map given (up_to (i - 1)) → z ≡ y ++ given i → z ≡ x ++ flat_map given (up_to n)
cell_more given i n x y z h e p q =
    let before = flat_map given (up_to (i - 1)) in
    let last : i - 1 + 1 ≡ i = omega arith in
    q ∙ ap (λ l. l ++ given i) p ∙ append_assoc x before (given i) ∙ ap (λ k. x ++ (before ++ given k)) (sym last)
    ∙ ap (λ l. x ++ l) (sym (joined_up_more given (i - 1))) ∙ ap (λ k. x ++ flat_map given (up_to k)) (last ∙ sym e)

-- the words of what each cell gives
pub words_joined : {A : Type 0} (f : A → ℕ) (g : ℕ → List A) (cells : List ℕ) → flat_map (λ i. map f (g i)) cells ≡ map f (flat_map g cells)
words_joined f g [] = refl
words_joined f g (i ∷ cells) = ap (λ l. map f (g i) ++ l) (words_joined f g cells) ∙ sym (map-append f (g i) (flat_map g cells))

-- the words of two parts, one of each at most
pub two_words : {A : Type 0} (f : A → ℕ) (us vs : List A) (first second : Option ℕ) → option_to_list first ≡ map f us → option_to_list second ≡ map f vs → flat_map option_to_list (first ∷ second ∷ []) ≡ map f (us ++ vs)
two_words f us vs first second p q =
    ap (λ l. option_to_list first ++ l) (append-nil (option_to_list second)) ∙ ap (λ l. l ++ option_to_list second) p ∙ ap (λ l. map f us ++ l) q ∙ sym (map-append f us vs)

-- a cell is given exactly where its bracket is
module _ (N : ℕ) (bytes : List ℕ) (i : ℕ) where
  pub given_drawn : byte_before N bytes i ≡ 91 → drawn_given N bytes i ≡ drawn_entry N bytes i ∷ []
  unfolding drawn_given
  given_drawn e = cond-true (eqb (byte_before N bytes i) 91) (drawn_entry N bytes i ∷ []) [] (eq-eqb (byte_before N bytes i) 91 e)

  pub none_given : (byte_before N bytes i ≡ 91 → ⊥) → drawn_given N bytes i ≡ []
  unfolding drawn_given
  none_given d = cond-false (eqb (byte_before N bytes i) 91) (drawn_entry N bytes i ∷ []) [] (ne_eqb (byte_before N bytes i) 91 d)

-- the words of a puzzle, part by part
regroup : (b : ℕ) (g s c e : List ℕ) → (((b ∷ []) ++ g) ++ s) ++ c ++ e ≡ b ∷ ((g ++ (s ++ c)) ++ e)
regroup b g s c e = simp append_assoc

pub parts_in_order : (P : Puzzle) (u v w x y : List ℕ) → u ≡ item_word (Board 1 P.size) ∷ [] → v ≡ u ++ map given_word P.givens → w ≡ v ++ map less_word P.signs → x ≡ w ++ map claim_word P.claims → y ≡ x ++ item_word End ∷ [] → y ≡ puzzle_words P
parts_in_order P u v w x y eu ev ew ex ey =
    let b = item_word (Board 1 P.size) in
    let g = map given_word P.givens in
    let s = map less_word P.signs in
    let c = map claim_word P.claims in
    let all : map item_word (puzzle_items P) ≡ g ++ (s ++ c) = map-append item_word (map Given P.givens) (map Less P.signs ++ map Claim P.claims)
    ∙ ap (λ l. l ++ map item_word (map Less P.signs ++ map Claim P.claims)) (map-map item_word Given P.givens)
    ∙ ap (λ l. g ++ l) (map-append item_word (map Less P.signs) (map Claim P.claims) ∙ ap (λ l. l ++ map item_word (map Claim P.claims)) (map-map item_word Less P.signs) ∙ ap (λ l. s ++ l) (map-map item_word Claim P.claims)) in
    ey ∙ ap (λ l. l ++ item_word End ∷ []) (ex ∙ ap (λ l. l ++ c) (ew ∙ ap (λ l. l ++ s) (ev ∙ ap (λ l. l ++ g) eu)))
    ∙ regroup b g s c (item_word End ∷ []) ∙ ap (λ l. b ∷ (l ++ item_word End ∷ [])) (sym all)

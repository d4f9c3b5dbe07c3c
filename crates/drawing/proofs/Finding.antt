-- What is found among the records of a drawn board: of a cell, what is drawn there.
use Rattle.std.proofs.Common.{◌≡◌, ℕ, zero, suc, ◌+◌, ◌-◌, ◌*◌, ◌<◌, ◌≤◌, min, max, Bool, true, false, cond, ◌&&◌, ◌||◌, eqb, List, [], ◌∷◌, map, get_or, sym, refl, ap, ◌∙◌, ⊎_elim, arith}
use Rattle.std.specs.List.{range_with_len, flat_map, list_any, AllByRecursion}
use Rattle.std.proofs.ByRecursion.{All-weaker}
use Rattle.std.proofs.Math.Bool.{and-true, or-false}
use Rattle.std.proofs.lemmas.List.Folds.{list_any-append}
use Rattle.std.proofs.lemmas.Bool.{cases_eq, cases_Bool, eq-eqb, ne_eqb, eqb-true, cond-true, cond-false, and_left, and_right, or_from}
use Rattle.futoshiki.specs.declared.sign.Sign.{Sign}
use Rattle.futoshiki.specs.Board.{InRange, up_to}
use Rattle.puzzle.specs.Meaning.{claim_at}
use Rattle.drawing.specs.Drawn.{digit_place, byte_before, byte_right, byte_below, drawn_entry, drawn_given, sign_drawn, sign_right, sign_below, drawn_signs}
use Rattle.drawing.specs.Redrawn.{is_cell, is_given, says_less, is_signed}
use Rattle.drawing.specs.Theorems.{WellDrawn}
use Rattle.drawing.proofs.Signing.{Between, SignOf, signs_sound, right_between, below_between}

module _ {A : Type 0} (test : A → Bool) where
  none_of : (xs : List A) → AllByRecursion (λ x. test x ≡ false) xs → list_any test xs ≡ false
  none_of [] h = refl
  none_of (x ∷ xs) h = or_from (test x) (list_any test xs) h.0 (none_of xs h.1)

  none_joined : (g : ℕ → List A) (b n : ℕ) → ((j : ℕ) → b ≤ j → j < b + n → list_any test (g j) ≡ false) → list_any test (flat_map g (range_with_len b n)) ≡ false
  none_joined g b zero h = refl
  none_joined g b (suc n) h =
      list_any-append test (g b) (flat_map g (range_with_len (b + 1) n))
      ∙ or_from (list_any test (g b)) (list_any test (flat_map g (range_with_len (b + 1) n))) (h b (omega arith) (omega arith)) (none_joined g (b + 1) n (λ j p q. h j (omega arith) (omega arith)))

  -- where only the members of one number pass, they decide
  only_at : (g : ℕ → List A) (i b n : ℕ) → b ≤ i → i < b + n → ((j : ℕ) → b ≤ j → j < b + n → (j ≡ i → ⊥) → list_any test (g j) ≡ false) → list_any test (flat_map g (range_with_len b n)) ≡ list_any test (g i)
  only_at g i b zero p q h = absurd (omega arith)
  only_at g i b (suc n) p q h =
      let rest = flat_map g (range_with_len (b + 1) n) in
      list_any-append test (g b) rest
      ∙ ⊎_elim
      (λ (e : b ≡ i).
      ap (λ t. list_any test (g b) || t) (none_joined g (b + 1) n (λ j l u. h j (omega arith) (omega arith) (λ d. omega arith)))
      ∙ or-false (list_any test (g b)) ∙ ap (λ j. list_any test (g j)) e)
      (λ (d : b ≡ i → ⊥). ap (λ t. t || list_any test rest) (h b (omega arith) (omega arith) d) ∙ only_at g i (b + 1) n (omega arith) (omega arith) (λ j l u. h j (omega arith) (omega arith)))
      (cases_eq b i)

-- a cell is given where its bracket stands
module _ (N : ℕ) (bytes : List ℕ) where
  given_there : (i j : ℕ) → list_any (is_cell i) (drawn_given N bytes j) ≡ (eqb (byte_before N bytes j) 91 && eqb j i)
  unfolding drawn_given drawn_entry
  given_there i j =
      elim (eqb (byte_before N bytes j) 91) as (λ t. list_any (is_cell i) (cond t (drawn_entry N bytes j ∷ []) []) ≡ (t && eqb j i))
      [ true ↦ or-false (eqb j i) | false ↦ refl ]

  pub given_found : (i n : ℕ) → InRange n i → is_given (flat_map (drawn_given N bytes) (up_to n)) i ≡ eqb (byte_before N bytes i) 91
  unfolding is_given
  given_found i n on =
      only_at (is_cell i) (drawn_given N bytes) i 1 n on.0 (let h = on.1 in omega arith)
      (λ j _ _ d. given_there i j ∙ and_right (eqb (byte_before N bytes j) 91) (eqb j i) (ne_eqb j i d))
      ∙ given_there i i ∙ ap (λ t. eqb (byte_before N bytes i) 91 && t) (eq-eqb i i refl) ∙ and-true (eqb (byte_before N bytes i) 91)

  claim_from : (i b n : ℕ) → b ≤ i → i < b + n → claim_at (map (drawn_entry N bytes) (range_with_len b n)) i ≡ get_or bytes (digit_place N i) 0 - 48
  unfolding claim_at drawn_entry
  claim_from i b zero p q = absurd (omega arith)
  claim_from i b (suc n) p q =
      let here = get_or bytes (digit_place N b) 0 - 48 in
      let rest = claim_at (map (drawn_entry N bytes) (range_with_len (b + 1) n)) i in
      ⊎_elim
      (λ (e : b ≡ i). cond-true (eqb b i) here rest (eq-eqb b i e) ∙ ap (λ j. get_or bytes (digit_place N j) 0 - 48) e)
      (λ (d : b ≡ i → ⊥). cond-false (eqb b i) here rest (ne_eqb b i d) ∙ claim_from i (b + 1) n (omega arith) (omega arith))
      (cases_eq b i)

  pub claim_found : (i n : ℕ) → InRange n i → claim_at (map (drawn_entry N bytes) (up_to n)) i ≡ get_or bytes (digit_place N i) 0 - 48
  claim_found i n on = claim_from i 1 n on.0 (let h = on.1 in omega arith)

-- a sign says nothing of other cells
not_says : (x y : ℕ) (s : Sign) → (s.lesser ≡ x → s.greater ≡ y → ⊥) → says_less x y s ≡ false
not_says x y s h =
    ⊎_elim
    (λ (e : s.lesser ≡ x). and_right (eqb s.lesser x) (eqb s.greater y) (ne_eqb s.greater y (h e)))
    (λ (d : s.lesser ≡ x → ⊥). and_left (eqb s.lesser x) (eqb s.greater y) (ne_eqb s.lesser x d))
    (cases_eq s.lesser x)

module _ (b p q i j : ℕ) (apart : i < j) (signs_differ : p ≡ q → ⊥) where
  abbrev less : Sign
  less = record { lesser = i; greater = j }

  abbrev more : Sign
  more = record { lesser = j; greater = i }

  says_itself : (x y : ℕ) → (eqb x x && eqb y y || false) ≡ true
  says_itself x y = ap (λ t. t && eqb y y || false) (eq-eqb x x refl) ∙ ap (λ t. t || false) (eq-eqb y y refl)

  first_said : list_any (says_less i j) (sign_drawn b p q i j) ≡ eqb b p
  first_said =
      ⊎_elim
      (λ (t : eqb b p ≡ true). ap (λ u. list_any (says_less i j) (cond u (less ∷ []) (cond (eqb b q) (more ∷ []) []))) t ∙ says_itself i j ∙ sym t)
      (λ (f : eqb b p ≡ false).
      ap (λ u. list_any (says_less i j) (cond u (less ∷ []) (cond (eqb b q) (more ∷ []) []))) f
      ∙ elim (eqb b q) as (λ u. list_any (says_less i j) (cond u (more ∷ []) []) ≡ false) [ true ↦ none_of (says_less i j) (more ∷ []) (not_says i j more (λ e _. omega arith), tt) | false ↦ refl ]
      ∙ sym f)
      (cases_Bool (eqb b p))

  second_said : list_any (says_less j i) (sign_drawn b p q i j) ≡ eqb b q
  second_said =
      ⊎_elim
      (λ (t : eqb b p ≡ true).
      ap (λ u. list_any (says_less j i) (cond u (less ∷ []) (cond (eqb b q) (more ∷ []) []))) t
      ∙ none_of (says_less j i) (less ∷ []) (not_says j i less (λ e _. omega arith), tt)
      ∙ sym (ne_eqb b q (λ e. signs_differ (sym (eqb-true b p t) ∙ e))))
      (λ (f : eqb b p ≡ false).
      ap (λ u. list_any (says_less j i) (cond u (less ∷ []) (cond (eqb b q) (more ∷ []) []))) f
      ∙ elim (eqb b q) as (λ u. list_any (says_less j i) (cond u (more ∷ []) []) ≡ u) [ true ↦ says_itself j i | false ↦ refl ])
      (cases_Bool (eqb b p))

module _ (N : ℕ) (bytes : List ℕ) (drawn : WellDrawn N bytes) (i : ℕ) (on : InRange (N * N) i) where
  -- only the signs of the lower cell speak of a pair
  of_lower : (x y : ℕ) → min x y ≡ i → is_signed (flat_map (drawn_signs N bytes) (up_to (N * N))) x y ≡ (list_any (says_less x y) (sign_right N bytes i) || list_any (says_less x y) (sign_below N bytes i))
  unfolding is_signed drawn_signs
  of_lower x y e =
      only_at (says_less x y) (drawn_signs N bytes) i 1 (N * N) on.0 (let h = on.1 in omega arith)
      (λ j p q d.
      none_of (says_less x y) (drawn_signs N bytes j)
      (All-weaker (SignOf N j) (λ s. says_less x y s ≡ false) (λ s h. not_says x y s (λ l g. let m = h.0 in omega arith)) (drawn_signs N bytes j) (signs_sound N bytes drawn j (p, omega arith))))
      ∙ list_any-append (says_less x y) (sign_right N bytes i) (sign_below N bytes i)

  none_right : (x y : ℕ) → (max x y ≡ i + 1 → ⊥) → list_any (says_less x y) (sign_right N bytes i) ≡ false
  none_right x y d =
      none_of (says_less x y) (sign_right N bytes i)
      (All-weaker (Between i (i + 1)) (λ s. says_less x y s ≡ false) (λ s h. not_says x y s (λ l g. let m = h.1 in d (omega arith))) (sign_right N bytes i) (right_between N bytes drawn i on))

  none_below : (x y : ℕ) → (max x y ≡ i + N → ⊥) → list_any (says_less x y) (sign_below N bytes i) ≡ false
  none_below x y d =
      none_of (says_less x y) (sign_below N bytes i)
      (All-weaker (Between i (i + N)) (λ s. says_less x y s ≡ false) (λ s h. not_says x y s (λ l g. let m = h.1 in d (omega arith))) (sign_below N bytes i) (below_between N bytes drawn i on))

  from_right : (x y : ℕ) → min x y ≡ i → max x y ≡ i + 1 → is_signed (flat_map (drawn_signs N bytes) (up_to (N * N))) x y ≡ list_any (says_less x y) (sign_right N bytes i)
  from_right x y e f =
      let n = drawn.two_at_least in
      of_lower x y e ∙ ap (λ t. list_any (says_less x y) (sign_right N bytes i) || t) (none_below x y (λ g. omega arith)) ∙ or-false (list_any (says_less x y) (sign_right N bytes i))

  from_below : (x y : ℕ) → min x y ≡ i → max x y ≡ i + N → is_signed (flat_map (drawn_signs N bytes) (up_to (N * N))) x y ≡ list_any (says_less x y) (sign_below N bytes i)
  from_below x y e f =
      let n = drawn.two_at_least in
      of_lower x y e ∙ ap (λ t. t || list_any (says_less x y) (sign_below N bytes i)) (none_right x y (λ g. omega arith))

  abbrev signs_there : List Sign
  signs_there = flat_map (drawn_signs N bytes) (up_to (N * N))

  pub right_less : is_signed signs_there i (i + 1) ≡ eqb (byte_right N bytes i) 60
  right_less = from_right i (i + 1) (omega arith) (omega arith) ∙ first_said (byte_right N bytes i) 60 62 i (i + 1) (omega arith) (λ e. omega arith)

  pub right_more : is_signed signs_there (i + 1) i ≡ eqb (byte_right N bytes i) 62
  right_more = from_right (i + 1) i (omega arith) (omega arith) ∙ second_said (byte_right N bytes i) 60 62 i (i + 1) (omega arith) (λ e. omega arith)

  pub below_less : is_signed signs_there i (i + N) ≡ eqb (byte_below N bytes i) 94
  below_less = let n = drawn.two_at_least in from_below i (i + N) (omega arith) (omega arith) ∙ first_said (byte_below N bytes i) 94 118 i (i + N) (omega arith) (λ e. omega arith)

  pub below_more : is_signed signs_there (i + N) i ≡ eqb (byte_below N bytes i) 118
  below_more = let n = drawn.two_at_least in from_below (i + N) i (omega arith) (omega arith) ∙ second_said (byte_below N bytes i) 94 118 i (i + N) (omega arith) (λ e. omega arith)

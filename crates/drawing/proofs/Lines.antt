-- A search for an unfit place, line by line.
use Rattle.std.proofs.Common.{◌≡◌, ℕ, ◌+◌, ◌-◌, ◌*◌, ◌<◌, ◌≤◌, Bool, true, false, ltb, Option, MatchOption, List, get_or, sym, ap, ◌∙◌, ⊎_elim, mul_comm, add-mul, arith}
use Rattle.std.proofs.lemmas.Nat.{mul-add-lt}
use Rattle.std.proofs.lemmas.Bool.{cases_Bool, ltb-true, ltb-false}
use Rattle.drawing.specs.Drawn.{line_width, whole_length, byte_fits, fits_place, first_unfit}
use Rattle.drawing.proofs.Failing.{stops, passes}
use Rattle.drawing.proofs.Spots.{fits_at}

-- whether a place of line l fits, whose first place is s
abbrev pub fits_here : ℕ → List ℕ → ℕ → ℕ → ℕ → Bool
fits_here N bytes l s k = byte_fits N l (k - s) (get_or bytes k 0) (get_or bytes (k - 2) 0)

-- what a search through the line's places up to e tells: that all fit, or the first that does not
abbrev pub Told : ℕ → List ℕ → ℕ → ℕ → ℕ → Option ℕ → Type 0
Told N bytes l s e o =
    MatchOption o ((k : ℕ) → s ≤ k → k < e → fits_here N bytes l s k ≡ true)
    (λ i. (s ≤ i) × (i < e) × (fits_here N bytes l s i ≡ false) × ((k : ℕ) → s ≤ k → k < i → fits_here N bytes l s k ≡ true))

-- the lines before line l fit, and its places go from s up to e
module _ (N : ℕ) (bytes : List ℕ) (l s e : ℕ) (starts : s ≡ l * line_width N) (ends : e ≡ s + line_width N) (before : (j : ℕ) → j < l * line_width N → fits_place N bytes j ≡ true) where
  abbrev here : ℕ → Bool
  here k = fits_here N bytes l s k

  as_place : (k : ℕ) → s ≤ k → k < e → fits_place N bytes k ≡ here k
  as_place k p q = let at : k ≡ s + (k - s) = omega arith in fits_at N bytes k l (k - s) (omega (arith, at, starts)) (omega (arith, ends))

  up_to_here : (k : ℕ) → k ≤ e → ((j : ℕ) → s ≤ j → j < k → here j ≡ true) → (j : ℕ) → j < k → fits_place N bytes j ≡ true
  up_to_here k m h j q =
      ⊎_elim
      (λ (b : ltb j s ≡ true). let i = ltb-true j s b in before j (omega (arith, i, starts)))
      (λ (b : ltb j s ≡ false). let i = ltb-false j s b in as_place j i (omega arith) ∙ h j i q)
      (cases_Bool (ltb j s))

  -- where its places fit too, the lines up to the next fit
  pub line_passes : ((j : ℕ) → s ≤ j → j < e → here j ≡ true) → (j : ℕ) → j < (l + 1) * line_width N → fits_place N bytes j ≡ true
  line_passes h j q = up_to_here e (omega arith) h j (omega (arith, starts, ends, add-mul l 1 (line_width N)))

  -- its first place that does not fit is the first of all
  module _ (k : ℕ) (after : s ≤ k) (within : k < e) (inside : l < 2 * N + 1) where
    pub line_within : k < whole_length N
    line_within = omega (arith, starts, ends, mul-add-lt l (line_width N) (k - s) (2 * N + 1) inside (omega arith), mul_comm (line_width N) (2 * N + 1))

    pub line_stops : here k ≡ false → ((j : ℕ) → s ≤ j → j < k → here j ≡ true) → k ≡ first_unfit N bytes
    unfolding first_unfit
    line_stops f h = sym (stops (fits_place N bytes) (whole_length N) k line_within (up_to_here k (omega arith) h) (as_place k after within ∙ f))

-- where all lines fit, the first place that does not is the one after the last
pub all_lines : (N : ℕ) (bytes : List ℕ) (l : ℕ) → l ≡ 2 * N + 1 → ((j : ℕ) → j < l * line_width N → fits_place N bytes j ≡ true) → whole_length N ≡ first_unfit N bytes
unfolding first_unfit
all_lines N bytes l e before =
    let all : l * line_width N ≡ whole_length N = ap (λ x. x * line_width N) e in
    sym (passes (fits_place N bytes) (whole_length N) (λ j q. before j (omega (arith, q, all))))

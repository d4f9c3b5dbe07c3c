-- The signs of a drawn board: on the board, between cells that share a side, no pair of cells twice, two to a cell at most.
use Rattle.std.proofs.Common.{◌≡◌, ℕ, ◌+◌, ◌-◌, ◌*◌, ◌/◌, ◌%◌, ◌<◌, ◌≤◌, min, max, true, false, cond, eqb, ◌⊎◌, List, [], ◌∷◌, length, sym, refl, ap, subst, inl, inr, ⊎_elim, add-mul, arith}
use Rattle.std.specs.List.{AllByRecursion}
use Rattle.std.proofs.lemmas.Nat.{mul-add-lt, div-add-mod'}
use Rattle.std.proofs.ByRecursion.{All-append, All-weaker}
use Rattle.std.proofs.lemmas.List.{length-append}
use Rattle.std.proofs.lemmas.Bool.{cases_Bool, eqb-true, cond-true, cond-false}
use Rattle.futoshiki.specs.declared.sign.Sign.{Sign}
use Rattle.futoshiki.specs.Board.{InRange, DifferByOne, SharingSide}
use Rattle.futoshiki.specs.Rules.{OnBoard}
use Rattle.puzzle.specs.Registers.{SamePair, Once}
use Rattle.drawing.specs.Drawn.{byte_right, byte_below, sign_drawn, sign_right, sign_below, drawn_signs}
use Rattle.drawing.specs.Theorems.{WellDrawn}
use Rattle.drawing.proofs.Registering.{once_append, once_short}
use Rattle.drawing.proofs.Spots.{row_below, column_below, right_inside, below_inside}

-- what holds of a sign that a byte draws
all_sign : (P : Sign → Type 0) (b x y i j : ℕ) → (((b ≡ x) ⊎ (b ≡ y)) → P (record { lesser = i; greater = j }) × P (record { lesser = j; greater = i })) → AllByRecursion P (sign_drawn b x y i j)
all_sign P b x y i j h =
    let less : Sign = record { lesser = i; greater = j } in
    let more : Sign = record { lesser = j; greater = i } in
    ⊎_elim
    (λ (t : eqb b x ≡ true). subst (AllByRecursion P) (sym (cond-true (eqb b x) (less ∷ []) (cond (eqb b y) (more ∷ []) []) t)) ((h (inl (eqb-true b x t))).0, tt))
    (λ (f : eqb b x ≡ false).
    subst (AllByRecursion P) (sym (cond-false (eqb b x) (less ∷ []) (cond (eqb b y) (more ∷ []) []) f))
    (⊎_elim
    (λ (t : eqb b y ≡ true). subst (AllByRecursion P) (sym (cond-true (eqb b y) (more ∷ []) [] t)) ((h (inr (eqb-true b y t))).1, tt))
    (λ (g : eqb b y ≡ false). subst (AllByRecursion P) (sym (cond-false (eqb b y) (more ∷ []) [] g)) tt)
    (cases_Bool (eqb b y))))
    (cases_Bool (eqb b x))

few_signs : (b x y i j : ℕ) → length (sign_drawn b x y i j) ≤ 1
few_signs b x y i j =
    let less : Sign = record { lesser = i; greater = j } in
    let more : Sign = record { lesser = j; greater = i } in
    elim (eqb b x) as (λ t. length (cond t (less ∷ []) (cond (eqb b y) (more ∷ []) [])) ≤ 1)
    [ true ↦ omega arith | false ↦ elim (eqb b y) as (λ t. length (cond t (more ∷ []) []) ≤ 1) [ true ↦ omega arith | false ↦ omega arith ] ]

-- a sign between cells i and j, in one order or the other
abbrev pub Between : ℕ → ℕ → Sign → Type 0
Between i j s = (min s.lesser s.greater ≡ i) × (max s.lesser s.greater ≡ j)

pub same_cells : (s t : Sign) → SamePair s t → (min s.lesser s.greater ≡ min t.lesser t.greater) × (max s.lesser s.greater ≡ max t.lesser t.greater)
same_cells s t h =
    ⊎_elim
    (λ w. let p = w.0 in let q = w.1 in (omega arith, omega arith))
    (λ w. let p = w.0 in let q = w.1 in (omega arith, omega arith))
    h

-- a sign of cell i is on the board, between cells that share a side, the lower of which is i
abbrev pub SignOf : ℕ → ℕ → Sign → Type 0
SignOf N i s = (min s.lesser s.greater ≡ i) × OnBoard N s × SharingSide N s.lesser s.greater

swapped : {a b : ℕ} → DifferByOne a b → DifferByOne b a
swapped h = ⊎_elim inr inl h

turned : (N i j : ℕ) → SharingSide N i j → SharingSide N j i
turned N i j s = record {
  row_i = s.row_j;
  column_i = s.column_j;
  row_j = s.row_i;
  column_j = s.column_i;
  row_i_on = s.row_j_on;
  column_i_on = s.column_j_on;
  row_j_on = s.row_i_on;
  column_j_on = s.column_i_on;
  place_i = s.place_j;
  place_j = s.place_i;
  beside = ⊎_elim (λ w. inl (sym w.0, swapped w.1)) (λ w. inr (sym w.0, swapped w.1)) s.beside;
}

-- a sign of cell i, and the other cell of it
abbrev SoundSign : ℕ → ℕ → ℕ → Sign → Type 0
SoundSign N i j s = Between i j s × OnBoard N s × SharingSide N s.lesser s.greater

both_orders : (N i j : ℕ) → i < j → InRange (N * N) i → InRange (N * N) j → SharingSide N i j → SoundSign N i j (record { lesser = i; greater = j }) × SoundSign N i j (record { lesser = j; greater = i })
both_orders N i j l p q s = (((omega arith, omega arith), (p, q), s), ((omega arith, omega arith), (q, p), turned N i j s))

module _ (N : ℕ) (bytes : List ℕ) (drawn : WellDrawn N bytes) (i : ℕ) (on : InRange (N * N) i) where
  abbrev r : ℕ
  r = (i - 1) / N

  abbrev c : ℕ
  c = (i - 1) % N

  many : 2 ≤ N
  many = drawn.two_at_least

  beside_right : c + 1 < N → (i + 1 ≤ N * N) × SharingSide N i (i + 1)
  beside_right h =
      let n = many in
      let p = row_below N i (omega arith) on in
      let whole = div-add-mod' (i - 1) N in
      let back : r + 1 - 1 ≡ r = omega arith in
      let here : i ≡ (r + 1 - 1) * N + (c + 1) = omega (arith, ap (λ k. k * N) back) in (
        omega (arith, mul-add-lt r N (c + 1) N p h),
        record {
          row_i = r + 1;
          column_i = c + 1;
          row_j = r + 1;
          column_j = c + 1 + 1;
          row_i_on = (omega arith, omega arith);
          column_i_on = (omega arith, omega arith);
          row_j_on = (omega arith, omega arith);
          column_j_on = (omega arith, omega arith);
          place_i = here;
          place_j = omega arith;
          beside = inl (refl, inl refl);
        },
      )

  beside_below : r + 1 < N → (i + N ≤ N * N) × SharingSide N i (i + N)
  beside_below h =
      let n = many in
      let q = column_below N i (omega arith) on in
      let whole = div-add-mod' (i - 1) N in
      let back : r + 1 - 1 ≡ r = omega arith in
      let here : i ≡ (r + 1 - 1) * N + (c + 1) = omega (arith, ap (λ k. k * N) back) in
      let next : r + 1 + 1 - 1 ≡ r + 1 = omega arith in
      let row = add-mul r 1 N in (
        omega (arith, mul-add-lt (r + 1) N c N h q),
        record {
          row_i = r + 1;
          column_i = c + 1;
          row_j = r + 1 + 1;
          column_j = c + 1;
          row_i_on = (omega arith, omega arith);
          column_i_on = (omega arith, omega arith);
          row_j_on = (omega arith, omega arith);
          column_j_on = (omega arith, omega arith);
          place_i = here;
          place_j = omega (arith, ap (λ k. k * N) next);
          beside = inr (refl, inl refl);
        },
      )

  right_sound : AllByRecursion (SoundSign N i (i + 1)) (sign_right N bytes i)
  right_sound =
      all_sign (SoundSign N i (i + 1)) (byte_right N bytes i) 60 62 i (i + 1)
      (λ s. let w = beside_right (right_inside N bytes drawn i on s) in both_orders N i (i + 1) (omega arith) on (omega arith, w.0) w.1)

  below_sound : AllByRecursion (SoundSign N i (i + N)) (sign_below N bytes i)
  below_sound =
      all_sign (SoundSign N i (i + N)) (byte_below N bytes i) 94 118 i (i + N)
      (λ s. let w = beside_below (below_inside N bytes drawn i on s) in let n = many in both_orders N i (i + N) (omega arith) on (omega arith, w.0) w.1)

  pub right_between : AllByRecursion (Between i (i + 1)) (sign_right N bytes i)
  right_between = All-weaker (SoundSign N i (i + 1)) (Between i (i + 1)) (λ s h. h.0) (sign_right N bytes i) right_sound

  pub below_between : AllByRecursion (Between i (i + N)) (sign_below N bytes i)
  below_between = All-weaker (SoundSign N i (i + N)) (Between i (i + N)) (λ s h. h.0) (sign_below N bytes i) below_sound

  pub signs_sound : AllByRecursion (SignOf N i) (drawn_signs N bytes i)
  unfolding drawn_signs
  signs_sound =
      All-append (SignOf N i) (sign_right N bytes i) (sign_below N bytes i)
      (All-weaker (SoundSign N i (i + 1)) (SignOf N i) (λ s h. (h.0.0, h.1, h.2)) (sign_right N bytes i) right_sound)
      (All-weaker (SoundSign N i (i + N)) (SignOf N i) (λ s h. (h.0.0, h.1, h.2)) (sign_below N bytes i) below_sound)

  -- the sign right of a cell and the one below it stand between other cells
  pub cell_signs_once : Once SamePair (drawn_signs N bytes i)
  unfolding drawn_signs
  cell_signs_once =
      once_append SamePair (sign_right N bytes i) (sign_below N bytes i)
      (once_short SamePair (sign_right N bytes i) (few_signs (byte_right N bytes i) 60 62 i (i + 1)))
      (once_short SamePair (sign_below N bytes i) (few_signs (byte_below N bytes i) 94 118 i (i + N)))
      (All-weaker (SoundSign N i (i + 1)) (λ x. AllByRecursion (λ y. SamePair x y → ⊥) (sign_below N bytes i))
      (λ x hx. All-weaker (SoundSign N i (i + N)) (λ y. SamePair x y → ⊥)
      (λ y hy s. let e = (same_cells x y s).1 in let p = hx.0.1 in let q = hy.0.1 in let n = many in omega arith)
      (sign_below N bytes i) below_sound)
      (sign_right N bytes i) right_sound)

pub two_signs : (N : ℕ) (bytes : List ℕ) (i : ℕ) → length (drawn_signs N bytes i) ≤ 2
unfolding drawn_signs
two_signs N bytes i =
    omega (arith, length-append (sign_right N bytes i) (sign_below N bytes i), few_signs (byte_right N bytes i) 60 62 i (i + 1), few_signs (byte_below N bytes i) 94 118 i (i + N))

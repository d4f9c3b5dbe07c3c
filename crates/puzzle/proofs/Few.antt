-- No more records than keys: at most N × N entries, and twice as many signs.
use Rattle.std.proofs.Common.{◌≡◌, ℕ, zero, suc, ◌+◌, ◌-◌, ◌*◌, ◌≤◌, min, Bool, true, false, cond, eqb, ◌⊎◌, List, [], ◌∷◌, length, sym, refl, ap, ◌∙◌, inl, inr, suc-mul, arith}
use Rattle.std.specs.List.{AllByRecursion}
use Rattle.std.proofs.lemmas.Bool.{eqb-true, eqb-false, eq-eqb, ne_eqb, or_left, or_right, or_from}
use Rattle.std.proofs.ByRecursion.{All-weaker}
use Rattle.futoshiki.specs.declared.sign.Sign.{Sign}
use Rattle.futoshiki.specs.Board.{InRange, cell_at, differ_by_one, SharingSide}
use Rattle.futoshiki.specs.Rules.{OnBoard}
use Rattle.futoshiki.proofs.Lists.{all_both}
use Rattle.words.specs.declared.entry.Entry.{Entry}
use Rattle.puzzle.specs.Registers.{Once, SameCell, SamePair}
use Rattle.puzzle.specs.Accepted.{EntryOn}

module _ {A : Type 0} (key : A → ℕ) where
  -- without the first member that has key v
  without : ℕ → List A → List A
  without v [] = []
  without v (x ∷ xs) = cond (eqb (key x) v) xs (x ∷ without v xs)

  shorter : (v : ℕ) (xs : List A) → length xs ≤ suc (length (without v xs))
  unfolding without
  shorter v [] = omega arith
  shorter v (x ∷ xs) = elim (eqb (key x) v) as (λ b. length (x ∷ xs) ≤ suc (length (cond b xs (x ∷ without v xs)))) [ true ↦ omega arith | false ↦ omega (arith, shorter v xs) ]

  all_without : (P : A → Type 0) (v : ℕ) (xs : List A) → AllByRecursion P xs → AllByRecursion P (without v xs)
  unfolding without
  all_without P v [] h = tt
  all_without P v (x ∷ xs) h = elim (eqb (key x) v) as (λ b. AllByRecursion P (cond b xs (x ∷ without v xs))) [ true ↦ h.1 | false ↦ (h.0, all_without P v xs h.1) ]

  once_without : (v : ℕ) (xs : List A) → Once (λ x y. key x ≡ key y) xs → Once (λ x y. key x ≡ key y) (without v xs)
  unfolding without
  once_without v [] h = tt
  once_without v (x ∷ xs) h = elim (eqb (key x) v) as (λ b. Once (λ x y. key x ≡ key y) (cond b xs (x ∷ without v xs))) [ true ↦ h.1 | false ↦ (all_without (λ y. key x ≡ key y → ⊥) v xs h.0, once_without v xs h.1) ]

  lower : (n : ℕ) (xs : List A) → Once (λ x y. key x ≡ key y) xs → AllByRecursion (λ x. InRange (suc n) (key x)) xs → AllByRecursion (λ x. InRange n (key x)) (without (suc n) xs)
  unfolding without
  lower n [] o h = tt
  lower n (x ∷ xs) o h = go (lower n xs o.1 h.1) (eqb (key x) (suc n)) refl
    where
      go : AllByRecursion (λ x. InRange n (key x)) (without (suc n) xs) → (b : Bool) → eqb (key x) (suc n) ≡ b → AllByRecursion (λ x. InRange n (key x)) (cond b xs (x ∷ without (suc n) xs))
      go ih true e =
          let k = eqb-true (key x) (suc n) e in
          all_both (λ y. key x ≡ key y → ⊥) (λ y. InRange (suc n) (key y)) (λ y. InRange n (key y)) (λ y d w. (w.0, omega arith)) xs o.0 h.1
      go ih false e =
          let d = eqb-false (key x) (suc n) e in
          ((h.0.0, omega arith), ih)

  -- records with keys from 1 to n, no key twice, are at most n
  few : (n : ℕ) (xs : List A) → Once (λ x y. key x ≡ key y) xs → AllByRecursion (λ x. InRange n (key x)) xs → length xs ≤ n
  few zero [] o h = omega arith
  few zero (x ∷ xs) o h = absurd (omega arith)
  few (suc n) xs o h = omega (arith, shorter (suc n) xs, few n (without (suc n) xs) (once_without (suc n) xs o) (lower n xs o h))

pub few_entries : (N : ℕ) (es : List Entry) → Once SameCell es → AllByRecursion (EntryOn N) es → length es ≤ N * N
few_entries N es o h = few (λ (e : Entry). e.cell) (N * N) es o (All-weaker (EntryOn N) (λ e. InRange (N * N) e.cell) (λ e b. b.0) es h)

-- cells that share a side differ by 1 or by N
abbrev Across : ℕ → ℕ → ℕ → Type 0
Across N i j = (i + N ≡ j) ⊎ (j + N ≡ i)

next_row : (N r s c i j : ℕ) → 1 ≤ r → i ≡ cell_at N r c → j ≡ cell_at N s c → r + 1 ≡ s → i + N ≡ j
next_row N r s c i j p e f h =
    let k : s - 1 ≡ suc (r - 1) = omega arith in
    omega (arith, ap (λ x. x * N) k, suc-mul (r - 1) N)

distances : (N i j : ℕ) → SharingSide N i j → Across 1 i j ⊎ Across N i j
distances N i j s =
    elim s.beside [
      | inl p ↦ let e = ap (λ x. (x - 1) * N) p.0 in elim p.1 [ inl q ↦ inl (inl (omega (arith, s.place_i, s.place_j))) | inr q ↦ inl (inr (omega (arith, s.place_i, s.place_j))) ]
      | inr p ↦ elim p.1 [
        | inl q ↦ inr (inl (next_row N s.row_i s.row_j s.column_j i j s.row_i_on.0 (s.place_i ∙ ap (cell_at N s.row_i) p.0) s.place_j q))
        | inr q ↦ inr (inr (next_row N s.row_j s.row_i s.column_i j i s.row_j_on.0 (s.place_j ∙ ap (cell_at N s.row_j) (sym p.0)) s.place_i q))
      ]
    ]

-- a number for a sign's pair of cells: the lower cell, and N × N more for a pair in a column
weight : ℕ → Sign → ℕ
weight N s = cond (differ_by_one s.lesser s.greater) (min s.lesser s.greater) (N * N + min s.lesser s.greater)

weighs : (N : ℕ) (s : Sign) → 2 ≤ N → SharingSide N s.lesser s.greater → (Across 1 s.lesser s.greater × (weight N s ≡ min s.lesser s.greater)) ⊎ (Across N s.lesser s.greater × (weight N s ≡ N * N + min s.lesser s.greater))
unfolding weight
weighs N s h r =
    elim (distances N s.lesser s.greater r) [
      | inl d ↦ elim d [
        | inl q ↦ inl (inl q, rw (or_left (eqb (s.lesser + 1) s.greater) (eqb (s.greater + 1) s.lesser) (eq-eqb (s.lesser + 1) s.greater q)))
        | inr q ↦ inl (inr q, rw (or_right (eqb (s.lesser + 1) s.greater) (eqb (s.greater + 1) s.lesser) (eq-eqb (s.greater + 1) s.lesser q)))
      ]
      | inr d ↦ inr (d, rw (or_from (eqb (s.lesser + 1) s.greater) (eqb (s.greater + 1) s.lesser) (ne_eqb (s.lesser + 1) s.greater (λ e. elim d [ inl q ↦ omega arith | inr q ↦ omega arith ])) (ne_eqb (s.greater + 1) s.lesser (λ e. elim d [ inl q ↦ omega arith | inr q ↦ omega arith ]))))
    ]

-- what is known of a sign of the board
abbrev Stands : ℕ → Sign → Type 0
Stands N s = OnBoard N s × SharingSide N s.lesser s.greater

across_same : (d : ℕ) (s u : Sign) → Across d s.lesser s.greater → Across d u.lesser u.greater → min s.lesser s.greater ≡ min u.lesser u.greater → SamePair s u
across_same d s u a b e =
    elim a [
      | inl p ↦ elim b [ inl q ↦ inl (omega arith, omega arith) | inr q ↦ inr (omega arith, omega arith) ]
      | inr p ↦ elim b [ inl q ↦ inr (omega arith, omega arith) | inr q ↦ inl (omega arith, omega arith) ]
    ]

same_weight : (N : ℕ) → 2 ≤ N → (s u : Sign) → Stands N s → Stands N u → weight N s ≡ weight N u → SamePair s u
same_weight N h s u a b e =
    elim (weighs N s h a.1) [
      | inl p ↦ elim (weighs N u h b.1) [
        | inl q ↦ across_same 1 s u p.0 q.0 (omega (arith, p.1, q.1))
        | inr q ↦ absurd (omega (arith, p.1, q.1))
      ]
      | inr p ↦ elim (weighs N u h b.1) [
        | inl q ↦ absurd (omega (arith, p.1, q.1))
        | inr q ↦ across_same N s u p.0 q.0 (omega (arith, p.1, q.1))
      ]
    ]

weight_within : (N : ℕ) → 2 ≤ N → (s : Sign) → Stands N s → InRange (2 * (N * N)) (weight N s)
weight_within N h s a = elim (weighs N s h a.1) [ inl p ↦ (omega (arith, p.1), omega (arith, p.1)) | inr p ↦ (omega (arith, p.1), omega (arith, p.1)) ]

once_by : (N : ℕ) → 2 ≤ N → (ss : List Sign) → AllByRecursion (Stands N) ss → Once SamePair ss → Once (λ s u. weight N s ≡ weight N u) ss
once_by N h [] a o = tt
once_by N h (s ∷ ss) a o = (
  all_both (Stands N) (λ u. SamePair s u → ⊥) (λ u. weight N s ≡ weight N u → ⊥) (λ u b d e. d (same_weight N h s u a.0 b e)) ss a.1 o.0,
  once_by N h ss a.1 o.1,
)

pub few_signs : (N : ℕ) → 2 ≤ N → (ss : List Sign) → AllByRecursion (OnBoard N) ss → AllByRecursion (λ s. SharingSide N s.lesser s.greater) ss → Once SamePair ss → length ss ≤ 2 * (N * N)
few_signs N h ss on sh o =
    let a = all_both (OnBoard N) (λ s. SharingSide N s.lesser s.greater) (Stands N) (λ s x y. (x, y)) ss on sh in
    few (weight N) (2 * (N * N)) ss (once_by N h ss a o) (All-weaker (Stands N) (λ s. InRange (2 * (N * N)) (weight N s)) (weight_within N h) ss a)

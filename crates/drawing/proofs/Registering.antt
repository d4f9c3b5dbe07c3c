-- Records that are made cell by cell: once each, few enough, and one for each cell.
use Rattle.std.proofs.Common.{◌≡◌, ℕ, zero, suc, ◌+◌, ◌*◌, ◌<◌, ◌≤◌, List, [], ◌∷◌, ◌++◌, map, length, sym, subst, inl, inr, ⊎_elim, mul-suc, arith}
use Rattle.std.specs.List.{range_with_len, flat_map, AllByRecursion}
use Rattle.std.proofs.ByRecursion.{All-append, All-weaker}
use Rattle.std.proofs.lemmas.List.{length-append}
use Rattle.std.proofs.lemmas.Bool.{cases_eq}
use Rattle.futoshiki.proofs.Lists.{all_joined, all_counting}
use Rattle.puzzle.specs.Registers.{Once, Any}

pub once_append : {A : Type 0} (Same : A → A → Type 0) (xs ys : List A) → Once Same xs → Once Same ys → AllByRecursion (λ x. AllByRecursion (λ y. Same x y → ⊥) ys) xs → Once Same (xs ++ ys)
once_append Same [] ys p q h = q
once_append Same (x ∷ xs) ys p q h = (All-append (λ y. Same x y → ⊥) xs ys p.0 h.0, once_append Same xs ys p.1 q h.1)

-- members that are made number by number, and know their number, are once each
module _ {A : Type 0} (Same : A → A → Type 0) (Of : ℕ → A → Type 0) (apart : (i j : ℕ) (x y : A) → Of i x → Of j y → Same x y → i ≡ j) where
  abbrev Later : ℕ → A → Type 0
  Later b x = (j : ℕ) × (b ≤ j) × Of j x

  later : (g : ℕ → List A) (b n : ℕ) → ((i : ℕ) → b ≤ i → i < b + n → AllByRecursion (Of i) (g i)) → AllByRecursion (Later b) (flat_map g (range_with_len b n))
  later g b n h =
      all_joined (Later b) g (range_with_len b n) (all_counting (λ i. AllByRecursion (Later b) (g i)) b n (λ i p q. All-weaker (Of i) (Later b) (λ x o. (i, p, o)) (g i) (h i p q)))

  pub once_joined : (g : ℕ → List A) (b n : ℕ) → ((i : ℕ) → b ≤ i → i < b + n → AllByRecursion (Of i) (g i)) → ((i : ℕ) → b ≤ i → i < b + n → Once Same (g i)) → Once Same (flat_map g (range_with_len b n))
  once_joined g b zero h o = tt
  once_joined g b (suc n) h o =
      let rest = flat_map g (range_with_len (b + 1) n) in
      let after = later g (b + 1) n (λ i p q. h i (omega arith) (omega arith)) in
      once_append Same (g b) rest (o b (omega arith) (omega arith)) (once_joined g (b + 1) n (λ i p q. h i (omega arith) (omega arith)) (λ i p q. o i (omega arith) (omega arith)))
      (All-weaker (Of b) (λ x. AllByRecursion (λ y. Same x y → ⊥) rest)
      (λ x ox. All-weaker (Later (b + 1)) (λ y. Same x y → ⊥) (λ y l s. let e = apart b l.0 x y ox l.2 s in let p = l.1 in omega arith) rest after)
      (g b) (h b (omega arith) (omega arith)))

-- one member at most is there once
pub once_short : {A : Type 0} (Same : A → A → Type 0) (xs : List A) → length xs ≤ 1 → Once Same xs
once_short Same [] h = tt
once_short Same (x ∷ []) h = (tt, tt)
once_short Same (x ∷ y ∷ xs) h = absurd (omega arith)

-- a list with so many members for each number
pub length_joined : {A : Type 0} (g : ℕ → List A) (m b n : ℕ) → ((i : ℕ) → length (g i) ≤ m) → length (flat_map g (range_with_len b n)) ≤ m * n
length_joined g m b zero h = omega arith
length_joined g m b (suc n) h = omega (arith, length-append (g b) (flat_map g (range_with_len (b + 1) n)), h b, length_joined g m (b + 1) n h, mul-suc m n)

-- one for each number: each number is there
pub any_counted : {A : Type 0} (P : A → Type 0) (f : ℕ → A) (b n i : ℕ) → b ≤ i → i < b + n → P (f i) → Any P (map f (range_with_len b n))
any_counted P f b zero i p q h = absurd (omega arith)
any_counted P f b (suc n) i p q h =
    ⊎_elim (λ (e : b ≡ i). inl (subst (λ k. P (f k)) (sym e) h)) (λ (d : b ≡ i → ⊥). inr (any_counted P f (b + 1) n i (omega arith) (omega arith) h)) (cases_eq b i)

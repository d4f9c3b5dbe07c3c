-- What the two kinds of clauses of the listing say of an assignment.
use Rattle.std.proofs.Common.{◌≡◌, ℕ, zero, suc, ◌+◌, ◌-◌, ◌<◌, ◌≤◌, Bool, true, false, not, ◌||◌, List, [], ◌∷◌, map, get_or, pos, neg_ℤ, sym, refl, ap, ◌∙◌, ⊎_elim, arith}
use Rattle.std.specs.List.{range_with_len, AllByRecursion}
use Rattle.std.proofs.lemmas.Bool.{and_parts, and_from, or_cases, or_left, or_right, cases_eq, both_ways}
use Rattle.cnf.specs.Formula.{Clause, Assignment, value_of, literal_true, clause_true, all_true}
use Rattle.futoshiki.specs.Listing.{not_both, one_of}

-- variables x and y are not both true
abbrev pub NotBoth : Assignment → ℕ → ℕ → Type 0
NotBoth a x y = value_of a x ≡ true → value_of a y ≡ true → ⊥

module _ (a : Assignment) where
  -- the value of a variable by its place
  pub value_placed : (x : ℕ) → 1 ≤ x → value_of a x ≡ get_or a (x - 1) false
  value_placed zero h = absurd (omega arith)
  value_placed (suc k) h = ap (λ i. get_or a i false) (omega arith)

  -- all clauses are true, as a test of all and of each
  pub all_true_from : (cs : List Clause) → AllByRecursion (λ c. clause_true a c ≡ true) cs → all_true a cs ≡ true
  all_true_from [] h = refl
  all_true_from (c ∷ cs) h = and_from (clause_true a c) (all_true a cs) h.0 (all_true_from cs h.1)

  pub each_true : (cs : List Clause) → all_true a cs ≡ true → AllByRecursion (λ c. clause_true a c ≡ true) cs
  each_true [] h = tt
  each_true (c ∷ cs) h = let w = and_parts (clause_true a c) (all_true a cs) h in (w.0, each_true cs w.1)

  asserted : (x : ℕ) → 1 ≤ x → literal_true a (pos x) ≡ value_of a x
  asserted zero h = absurd (omega arith)
  asserted (suc k) h = refl

  denied : (x : ℕ) → 1 ≤ x → literal_true a (neg_ℤ (pos x)) ≡ not (value_of a x)
  denied zero h = absurd (omega arith)
  denied (suc k) h = refl

  pub not_both_true : (x y : ℕ) → 1 ≤ x → 1 ≤ y → NotBoth a x y → clause_true a (not_both x y) ≡ true
  not_both_true x y p q h = rw (denied x p, denied y q) (go (value_of a x) (value_of a y) h)
    where
      go : (s t : Bool) → (s ≡ true → t ≡ true → ⊥) → (not s || (not t || false)) ≡ true
      go true true h = absurd (h refl refl)
      go true false h = refl
      go false t h = refl

  pub not_both_from : (x y : ℕ) → 1 ≤ x → 1 ≤ y → clause_true a (not_both x y) ≡ true → NotBoth a x y
  not_both_from x y p q h u w = both_ways (clause_true a (not_both x y)) (rw (denied x p, denied y q, u, w)) h

  pub one_of_true : (g : ℕ → ℕ) (b n k : ℕ) → b ≤ k → k < b + n → 1 ≤ g k → value_of a (g k) ≡ true → clause_true a (one_of (map g (range_with_len b n))) ≡ true
  one_of_true g b zero k p q r h = absurd (omega arith)
  one_of_true g b (suc n) k p q r h =
      ⊎_elim
      (λ (e : k ≡ b). or_left _ _ (ap (λ i. literal_true a (pos (g i))) (sym e) ∙ asserted (g k) r ∙ h))
      (λ (d : k ≡ b → ⊥). or_right (literal_true a (pos (g b))) _ (one_of_true g (b + 1) n k (omega arith) (omega arith) r h))
      (cases_eq k b)

  pub one_of_from : (g : ℕ → ℕ) (b n : ℕ) → ((k : ℕ) → b ≤ k → 1 ≤ g k) → clause_true a (one_of (map g (range_with_len b n))) ≡ true → (k : ℕ) × (b ≤ k) × (k < b + n) × (value_of a (g k) ≡ true)
  one_of_from g b zero r h = absurd (both_ways false refl h)
  one_of_from g b (suc n) r h =
      ⊎_elim
      (λ (e : literal_true a (pos (g b)) ≡ true). (b, omega arith, omega arith, sym (asserted (g b) (r b (omega arith))) ∙ e))
      (λ (e : clause_true a (one_of (map g (range_with_len (b + 1) n))) ≡ true).
      let t = one_of_from g (b + 1) n (λ k p. r k (omega arith)) e in
      (t.0, omega arith, omega arith, t.3))
      (or_cases _ _ h)

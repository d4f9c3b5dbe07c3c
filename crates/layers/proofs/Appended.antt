-- Two listings, one after the other: what is told of them, their models, and when they are lawful. Assumes nothing.
use Rattle.std.proofs.Common.{◌≡◌, ℕ, ◌+◌, ◌-◌, ◌<◌, ◌≤◌, min, true, ◌&&◌, ◌↔◌, List, [], ◌∷◌, ◌++◌, length, get_or, sym, refl, ap, ◌∙◌, ⊎_elim, arith}
use Rattle.std.proofs.lemmas.List.{length-append, get_or_append_left, get_or-append_right}
use Rattle.std.proofs.Math.Bool.{and_assoc}
use Rattle.std.proofs.lemmas.Bool.{cases_lt, and_parts, and_from}
use Rattle.cnf.specs.Formula.{Clause, Assignment, clause_true, all_true, Model, Lawful, proper_clause, all_proper}
use Rattle.cnf.specs.Told.{told_clauses, clause_at}
use Rattle.cnf.proofs.Asked.{clause_past, clause_in}

pub told_append : (cs ds : List Clause) → told_clauses (cs ++ ds) ≡ min (told_clauses cs + told_clauses ds) 65537
told_append cs ds = let e = length-append cs ds in omega arith

-- m is the number of clauses that the first listing tells
module _ (cs ds : List Clause) (k m : ℕ) (is : m ≡ told_clauses cs) where
  -- a clause of the first listing
  pub clause_below : k ≤ m → clause_at (cs ++ ds) k ≡ clause_at cs k
  clause_below h =
      ⊎_elim
      (λ far. clause_past (cs ++ ds) k far ∙ sym (clause_past cs k far))
      (λ near.
      ⊎_elim
      (λ p. clause_in (cs ++ ds) k p near ∙ get_or_append_left cs ds [] (k - 1) (omega arith) ∙ sym (clause_in cs k p near))
      (λ z. let e : k ≡ 0 = omega arith in rw e refl)
      (cases_lt 0 k))
      (cases_lt 65536 k)

  -- a clause of the second
  pub clause_above : m < k → k ≤ 65536 → clause_at (cs ++ ds) k ≡ clause_at ds (k - m)
  clause_above h near =
      let e : k - 1 - length cs ≡ k - m - 1 = omega arith in
      clause_in (cs ++ ds) k (omega arith) near
      ∙ get_or-append_right cs ds (length cs) (k - 1) [] refl (omega arith)
      ∙ ap (λ i. get_or ds i []) e
      ∙ sym (clause_in ds (k - m) (omega arith) (omega arith))

-- what a join is told of
pub ruleset appended = (told_append, clause_below, clause_above)

-- the clauses of both are true when those of each are
pub true_append : (a : Assignment) (cs ds : List Clause) → all_true a (cs ++ ds) ≡ (all_true a cs && all_true a ds)
true_append a [] ds = refl
true_append a (c ∷ cs) ds = ap (λ b. clause_true a c && b) (true_append a cs ds) ∙ sym (and_assoc (clause_true a c) (all_true a cs) (all_true a ds))

-- and proper when those of each are
pub proper_append : (n : ℕ) (cs ds : List Clause) → all_proper n (cs ++ ds) ≡ (all_proper n cs && all_proper n ds)
proper_append n [] ds = refl
proper_append n (c ∷ cs) ds = ap (λ b. proper_clause n c && b) (proper_append n cs ds) ∙ sym (and_assoc (proper_clause n c) (all_proper n cs) (all_proper n ds))

module _ (n : ℕ) (cs ds : List Clause) where
  -- the models of both are those of the first that make the clauses of the second true
  pub model_append : (a : Assignment) → Model n (cs ++ ds) a ↔ (Model n cs a × (all_true a ds ≡ true))
  model_append a =
      let e = true_append a cs ds in (
        λ m. let w = and_parts (all_true a cs) (all_true a ds) (sym e ∙ m.holds) in (record { total = m.total; holds = w.0 }, w.1),
        λ m. record { total = m.0.total; holds = e ∙ and_from (all_true a cs) (all_true a ds) m.0.holds m.1 },
      )

  -- both are lawful when the first is, the clauses of the second are proper, and the two are few enough
  pub lawful_append : Lawful n (cs ++ ds) ↔ (Lawful n cs × (all_proper n ds ≡ true) × (length cs + length ds ≤ 65535))
  lawful_append =
      let e = proper_append n cs ds in
      let l = length-append cs ds in (
        λ w.
            let few = w.few_clauses in
            let p = and_parts (all_proper n cs) (all_proper n ds) (sym e ∙ w.clauses_proper) in
            (record { some_variable = w.some_variable; few_variables = w.few_variables; few_clauses = omega arith; clauses_proper = p.0 }, p.1, omega arith),
        λ w.
            let few = w.2 in
            record {
              some_variable = w.0.some_variable;
              few_variables = w.0.few_variables;
              few_clauses = omega arith;
              clauses_proper = e ∙ and_from (all_proper n cs) (all_proper n ds) w.0.clauses_proper w.1;
            },
      )

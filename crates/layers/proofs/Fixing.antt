-- Literals as clauses of their own: what is told of them, and what they do to the models. Assumes nothing.
use Rattle.std.proofs.Common.{◌≡◌, ℕ, ◌-◌, ◌<◌, ◌≤◌, true, false, ◌&&◌, ◌||◌, leb, List, [], ◌∷◌, length, get_or, ℤ, pos, refl, ap, ◌∙◌, ⊎_elim, arith}
use Rattle.std.specs.List.{AllByRecursion}
use Rattle.std.proofs.lemmas.List.{length-map, get_or-map}
use Rattle.std.proofs.lemmas.Bool.{false≢true, and_parts, and_from, or_cases, or_left, cases_lt, leb-true, le-leb}
use Rattle.cnf.specs.Formula.{Clause, Assignment, variable_of, literal_true, all_true, fresh_literal, all_proper}
use Rattle.cnf.specs.Told.{clause_at, literal_at}
use Rattle.layers.specs.Fixed.{units_of, NamesVariable, FixMeans}
use Rattle.cnf.specs.declared.literal.Literal.{Literal}
use Rattle.cnf.specs.Tabled.{numbers_of}
use Rattle.cnf.proofs.Asked.{clause_in, literal_none}
use Rattle.cnf.proofs.Cuts.{no_literal, length_numbers, number_at}
use Rattle.layers.proofs.Appended.{model_append, lawful_append}

-- clause k is number k alone
pub alone_at : (ls : List ℤ) (k : ℕ) → 0 < k → k ≤ 65536 → k - 1 < length ls → clause_at (units_of ls) k ≡ get_or ls (k - 1) (pos 0) ∷ []
alone_at ls k p near h = clause_in (units_of ls) k p near ∙ get_or-map (λ l. l ∷ []) ls (k - 1) (pos 0) [] h

pub unit_at : (ls : List Literal) (k : ℕ) → 1 ≤ k → k ≤ 65536 → k ≤ length ls → clause_at (units_of (numbers_of ls)) k ≡ (get_or ls (k - 1) no_literal).0 ∷ []
unit_at ls k p near h =
    let e = length_numbers ls in
    alone_at (numbers_of ls) k p near (omega arith) ∙ ap (λ l. l ∷ []) (number_at ls (k - 1))

-- a clause of one literal tells 0 at each place but the first
pub one_literal : (l : ℤ) (j : ℕ) → (j ≡ 1 → ⊥) → literal_at j (l ∷ []) ≡ pos 0
one_literal l j ne =
    ⊎_elim
    (λ h. literal_none (l ∷ []) j (omega arith))
    (λ z. let e : j ≡ 0 = omega arith in rw e refl)
    (cases_lt 0 j)

-- what is told of literals as clauses
pub ruleset units = (unit_at, one_literal)

-- the literals are true exactly when their clauses are
module _ (a : Assignment) where
  units_true : (ls : List ℤ) → AllByRecursion (λ l. literal_true a l ≡ true) ls → all_true a (units_of ls) ≡ true
  units_true [] h = refl
  units_true (l ∷ ls) h = and_from _ _ (or_left (literal_true a l) false h.0) (units_true ls h.1)

  true_units : (ls : List ℤ) → all_true a (units_of ls) ≡ true → AllByRecursion (λ l. literal_true a l ≡ true) ls
  true_units [] h = tt
  true_units (l ∷ ls) h =
      let w = and_parts (literal_true a l || false) (all_true a (units_of ls)) h in
      (⊎_elim (λ e. e) (λ e. absurd (false≢true e)) (or_cases (literal_true a l) false w.0), true_units ls w.1)

-- and they name variables from 1 to n exactly when these are proper
module _ (n : ℕ) where
  units_proper : (ls : List ℤ) → AllByRecursion (NamesVariable n) ls → all_proper n (units_of ls) ≡ true
  units_proper [] h = refl
  units_proper (l ∷ ls) h =
      and_from _ _
      (and_from _ _ (and_from _ _ (and_from _ _ (le-leb 1 (variable_of l) h.0.0) (le-leb (variable_of l) n h.0.1)) refl) refl)
      (units_proper ls h.1)

  proper_units : (ls : List ℤ) → all_proper n (units_of ls) ≡ true → AllByRecursion (NamesVariable n) ls
  proper_units [] h = tt
  proper_units (l ∷ ls) h =
      let w = and_parts (fresh_literal n [] l && true) (all_proper n (units_of ls)) h in
      let f = and_parts (fresh_literal n [] l) true w.0 in
      let v = and_parts (leb 1 (variable_of l) && leb (variable_of l) n) true f.0 in
      let u = and_parts (leb 1 (variable_of l)) (leb (variable_of l) n) v.0 in
      ((leb-true 1 (variable_of l) u.0, leb-true (variable_of l) n u.1), proper_units ls w.1)

pub fix_means : (n : ℕ) (cs : List Clause) (ls : List ℤ) → FixMeans n cs ls
fix_means n cs ls =
    let w = lawful_append n cs (units_of ls) in
    let l = length-map ls (λ l. l ∷ []) in
    record {
      models = λ a.
          let m = model_append n cs (units_of ls) a in
          (λ x. ((m.0 x).0, true_units a ls (m.0 x).1), λ x. m.1 (x.0, units_true a ls x.1));
      lawful = (
        λ x. let y = w.0 x in let few = y.2 in (y.0, proper_units n ls y.1, omega arith),
        λ x. let few = x.2 in w.1 (x.0, units_proper n ls x.1, omega arith),
      );
    }

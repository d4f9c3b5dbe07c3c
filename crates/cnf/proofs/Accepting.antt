-- What an accepted check says; the check of a source accepts just the lawful ones.
use Rattle.std.proofs.Common.{◌≡◌, ℕ, ◌+◌, ◌-◌, ◌<◌, ◌≤◌, Bool, true, false, ◌&&◌, leb, ◌↔◌, List, [], ◌∷◌, length, get_or, Ok, Err, sym, refl, ap, ◌∙◌, arith}
use Rattle.std.specs.List.{AllByRecursion}
use Rattle.std.proofs.lemmas.Bool.Decides.{nat_tests}
use Rattle.std.proofs.lemmas.Bool.{and_parts, and_from}
use Rattle.cnf.specs.declared.fault.Fault.{Fault}
use Rattle.cnf.specs.declared.fault.Fault.TheVariants.{Unlawful}
use Rattle.cnf.specs.Formula.{Clause, Lawful, proper_clause, all_proper}
use Rattle.cnf.specs.Faults.{Answer, accepted, ◌then◌, check_for}
use Rattle.cnf.specs.Told.{told_variables, told_clauses, clause_at}
use Rattle.cnf.specs.Checks.{clauses_lawful, lawful_answer}
use Rattle.cnf.specs.Words.{Within, Distinct, LawfulWords}
use Rattle.cnf.specs.Laws.{LawfulTold}
use Rattle.cnf.proofs.Asked.{clause_in}
use Rattle.cnf.proofs.Firsts.{first_fails, none_fails, test_of_all, tells_first, tells_by}
use Rattle.cnf.proofs.Proper.{properly}

-- both of two checks accept where one after the other does
pub then_parts : (a b : Answer) → (a then b) ≡ accepted → (a ≡ accepted) × (b ≡ accepted)
then_parts (Ok tt) b h = (refl, h)
then_parts (Err f) b h = absurd cc

pub then_from : (a b : Answer) → a ≡ accepted → (a then b) ≡ b
then_from a b e = ap (λ x. x then b) e

pub check_passed : (b : Bool) (f : Fault) → check_for b f ≡ accepted → b ≡ true
check_passed true f h = refl
check_passed false f h = absurd cc

pub passed_then : (b : Bool) (f : Fault) (a : Answer) → b ≡ true → (check_for b f then a) ≡ a
passed_then b f a e = ap (λ t. check_for t f then a) e

all_proper_each : (n : ℕ) (cs : List Clause) → (all_proper n cs ≡ true) ↔ AllByRecursion (λ c. proper_clause n c ≡ true) cs
all_proper_each n cs = test_of_all (proper_clause n) (all_proper n) refl (λ c ds. refl) cs

-- whether the numbers of a source are lawful
abbrev pub numbers_fit : ℕ → List Clause → Bool
numbers_fit n cs = leb 1 n && leb n 1024 && leb (length cs) 65535

numbers_parts : (n : ℕ) (cs : List Clause) → numbers_fit n cs ≡ true → (1 ≤ n) × (n ≤ 1024) × (length cs ≤ 65535)
numbers_parts n cs h = (grind (arith, nat_tests), grind (arith, nat_tests), grind (arith, nat_tests))

-- where the numbers are lawful, the clauses decide
module _ (n : ℕ) (cs : List Clause) (some : 1 ≤ n) (small : n ≤ 1024) (few : length cs ≤ 65535) where
  pub clauses_decide : lawful_answer n cs ≡ clauses_lawful n 1 cs
  clauses_decide =
      passed_then (numbers_fit n cs) (Unlawful 0) (clauses_lawful n 1 cs) (grind (arith, nat_tests))

-- the numbers that a source tells are lawful, and the clauses before clause k are proper
module _ (n : ℕ) (cs : List Clause) (t m : ℕ) (tn : t ≡ told_variables n) (tm : m ≡ told_clauses cs) (some : t ≡ 0 → ⊥) (small : t ≤ 1024) (few : m ≤ 65535) where
  decide : lawful_answer n cs ≡ clauses_lawful t 1 cs
  decide =
      let e : n ≡ t = omega arith in
      clauses_decide n cs (omega arith) (omega arith) (omega arith) ∙ ap (λ v. clauses_lawful v 1 cs) e

  module _ (k : ℕ) (proper : (i : ℕ) → i < k → 0 < i → proper_clause t (clause_at cs i) ≡ true) where
    proper_so : (i : ℕ) → i < k → 0 < i → i ≤ m → proper_clause t (get_or cs (i - 1) []) ≡ true
    proper_so i l p h = ap (proper_clause t) (sym (clause_in cs i p (omega arith))) ∙ proper i l p

    pub lawful_stops : 0 < k → k ≤ m → proper_clause t (clause_at cs k) ≡ false → lawful_answer n cs ≡ Err (Unlawful k)
    lawful_stops p h e =
        decide
        ∙ first_fails (proper_clause t) Unlawful cs [] k (λ i l q. proper_so i l q (omega arith)) p (omega arith)
        (ap (proper_clause t) (sym (clause_in cs k p (omega arith))) ∙ e)

    pub lawful_holds : m < k → lawful_answer n cs ≡ accepted
    lawful_holds h =
        decide
        ∙ none_fails (proper_clause t) Unlawful cs [] (m + 1) (λ i l q. proper_so i (omega arith) q (omega arith)) (omega arith)

pub lawful_accepted : (n : ℕ) (cs : List Clause) → (lawful_answer n cs ≡ accepted) ↔ Lawful n cs
lawful_accepted n cs =
    let each = (tells_first (proper_clause n) Unlawful cs).all_pass in (
      λ h.
          let w = then_parts (check_for (numbers_fit n cs) (Unlawful 0)) (clauses_lawful n 1 cs) h in
          let m = numbers_parts n cs (check_passed (numbers_fit n cs) (Unlawful 0) w.0) in
          record { some_variable = m.0; few_variables = m.1; few_clauses = m.2; clauses_proper = (all_proper_each n cs).1 (each.0 w.1) },
      λ l.
          clauses_decide n cs l.some_variable l.few_variables l.few_clauses ∙ each.1 ((all_proper_each n cs).0 l.clauses_proper),
    )

worded : (n : ℕ) (cs : List Clause) → all_proper n cs ≡ true → AllByRecursion (Within n) cs × AllByRecursion Distinct cs
worded n [] h = (tt, tt)
worded n (c ∷ cs) h =
    let w = and_parts (proper_clause n c) (all_proper n cs) h in
    let p = (properly n c).0 w.0 in
    let r = worded n cs w.1 in
    ((p.0, r.0), (p.1, r.1))

of_worded : (n : ℕ) (cs : List Clause) → AllByRecursion (Within n) cs → AllByRecursion Distinct cs → all_proper n cs ≡ true
of_worded n [] w d = refl
of_worded n (c ∷ cs) w d =
    and_from (proper_clause n c) (all_proper n cs) ((properly n c).1 (w.0, d.0)) (of_worded n cs w.1 d.1)

-- a lawful source, in words
pub lawful_worded : (n : ℕ) (cs : List Clause) → Lawful n cs ↔ LawfulWords n cs
lawful_worded n cs = (
  λ l.
      let w = worded n cs l.clauses_proper in
      record { some_variable = l.some_variable; few_variables = l.few_variables; few_clauses = l.few_clauses; clauses_within = w.0; clauses_distinct = w.1 },
  λ l.
      record { some_variable = l.some_variable; few_variables = l.few_variables; few_clauses = l.few_clauses; clauses_proper = of_worded n cs l.clauses_within l.clauses_distinct },
)

pub lawful_tells : (n : ℕ) (cs : List Clause) (answer : Answer) → answer ≡ lawful_answer n cs → LawfulTold n cs answer
lawful_tells n cs answer e =
    let a = lawful_accepted n cs in
    let w = lawful_worded n cs in
    record {
      accepts = (λ h. a.0 (sym e ∙ h), λ l. e ∙ a.1 l);
      accepts_worded = (λ h. w.0 (a.0 (sym e ∙ h)), λ l. e ∙ a.1 (w.1 l));
      first_bad = λ p q r. tells_by (proper_clause n) Unlawful cs answer (e ∙ clauses_decide n cs p q r);
    }

-- What the checks of a claim answer: the source is lawful, the claim has its form, and no clause is false under it.
use Rattle.std.specs.Prelude.{ℕ, suc, Bool, cond, ◌&&◌, ◌||◌, List, [], ◌∷◌, ◌++◌, map, length, take, pos, ◌==◌, nat_eq, nat_le}
use Rattle.cnf.specs.declared.fault.Fault.{Fault}
use Rattle.cnf.specs.declared.fault.Fault.TheVariants.{Unlawful, ClaimForm, ClaimFalse}
use Rattle.cnf.specs.Formula.{Clause, Assignment, clause_true, proper_clause}
use Rattle.cnf.specs.Faults.{Answer, accepted, ◌then◌, check_for}

-- every element must pass a test; the first that does not is refused with its place, the places counted from p
abbrev pub each_passes : {X : Type 0} → (X → Bool) → (ℕ → Fault) → ℕ → List X → Answer
each_passes test fault p [] = accepted
each_passes test fault p (x ∷ xs) = check_for (test x) (fault p) then each_passes test fault (suc p) xs

-- the clauses from place p on: the first that is not proper
abbrev pub clauses_lawful : ℕ → ℕ → List Clause → Answer
clauses_lawful n p cs = each_passes (proper_clause n) Unlawful p cs

-- whether a source is lawful: its numbers, then its clauses in order
abbrev pub lawful_answer : ℕ → List Clause → Answer
lawful_answer n cs =
    check_for (nat_le 1 n && nat_le n 1024 && nat_le (length cs) 65535) (Unlawful 0) then clauses_lawful n 1 cs

-- 0 or 1
abbrev pub is_bit : ℕ → Bool
is_bit b = b == 0 || b == 1

-- the bytes from place p on: the first that is neither 0 nor 1
abbrev pub bytes_fit : ℕ → List ℕ → Answer
bytes_fit p bytes = each_passes is_bit ClaimForm p bytes

-- whether a claim has its form: n bytes, n at most 1,024, each 0 or 1
abbrev pub form_answer : ℕ → List ℕ → Answer
form_answer n bytes = check_for (nat_le n 1024 && length bytes == n) (ClaimForm 0) then bytes_fit 1 bytes

-- the assignment that a claim's bytes give: 1 for true
abbrev pub assignment_of : List ℕ → Assignment
assignment_of bytes = map (λ b. nat_eq b 1) bytes

-- the clauses from place p on: the first that is false under an assignment
abbrev pub clauses_hold : Assignment → ℕ → List Clause → Answer
clauses_hold a p cs = each_passes (clause_true a) ClaimFalse p cs

-- a clause as it is told: a longer one ends after 1,024 literals with a 0
abbrev pub told_clause : Clause → Clause
told_clause c = cond (nat_le (length c) 1024) c (take 1024 c ++ pos 0 ∷ [])

-- a listing as it is told: a longer one ends after 65,536 clauses with an empty one
abbrev pub told_listing : List Clause → List Clause
told_listing cs = cond (nat_le (length cs) 65536) (map told_clause cs) (map told_clause (take 65536 cs) ++ [] ∷ [])

-- what is checked before a session opens with a claim: the source, the claim's form, every clause under the claim
abbrev pub claim_answer : ℕ → List Clause → List ℕ → Answer
claim_answer n cs bytes =
    lawful_answer n cs then form_answer n bytes then clauses_hold (assignment_of bytes) 1 cs

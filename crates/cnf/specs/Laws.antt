-- What the answers of the checks say, in the subject's words.
use Rattle.std.specs.Prelude.{◌≡◌, ℕ, ◌+◌, ◌≤◌, Bool, true, false, ◌⊎◌, ◌↔◌, List, ◌∷◌, ◌++◌, length, Err}
use Rattle.std.specs.List.{AllByRecursion}
use Rattle.cnf.specs.declared.fault.Fault.{Fault}
use Rattle.cnf.specs.declared.fault.Fault.TheVariants.{Unlawful}
use Rattle.cnf.specs.Formula.{Clause, Model, Lawful, proper_clause}
use Rattle.cnf.specs.Faults.{Answer, accepted}
use Rattle.cnf.specs.Checks.{assignment_of}
use Rattle.cnf.specs.Words.{LawfulWords}

-- the element at place p, counted from 1, is the first that fails a test
pub record FirstFailing {X : Type 0} (test : X → Bool) (xs : List X) (p : ℕ) : Type 0 where
  pub passing : List X
  pub failing : X
  pub others : List X
  pub parts : xs ≡ passing ++ failing ∷ others
  pub place : p ≡ length passing + 1
  pub passes : AllByRecursion (λ x. test x ≡ true) passing
  pub fails : test failing ≡ false

-- an answer tells the first element that fails a test: accepted exactly when all pass, else refused with that place
pub record TellsFirst {X : Type 0} (test : X → Bool) (fault : ℕ → Fault) (xs : List X) (answer : Answer) : Type 0 where
  pub all_pass : (answer ≡ accepted) ↔ AllByRecursion (λ x. test x ≡ true) xs
  pub first_fails : (p : ℕ) → FirstFailing test xs p → answer ≡ Err (fault p)

-- an answer tells whether a source is lawful, and where its numbers are, the first clause that is not proper
pub record LawfulTold (n : ℕ) (cs : List Clause) (answer : Answer) : Type 0 where
  pub accepts : (answer ≡ accepted) ↔ Lawful n cs
  pub accepts_worded : (answer ≡ accepted) ↔ LawfulWords n cs
  pub first_bad : 1 ≤ n → n ≤ 1024 → length cs ≤ 65535 → TellsFirst (proper_clause n) Unlawful cs answer

-- a claim stands: the source is lawful, and the claim, in bytes of 0 and 1, is one of its models
pub record ClaimStands (n : ℕ) (cs : List Clause) (bytes : List ℕ) : Type 0 where
  pub lawful : Lawful n cs
  pub bits : AllByRecursion (λ b. (b ≡ 0) ⊎ (b ≡ 1)) bytes
  pub solves : Model n cs (assignment_of bytes)

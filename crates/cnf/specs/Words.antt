-- What a lawful source is, in words: where the variables of its clauses lie, and that no clause names one twice.
use Rattle.std.specs.Prelude.{ℕ, ◌≤◌, ◌≢◌, List, [], ◌∷◌, length}
use Rattle.std.specs.List.{AllByRecursion}
use Rattle.cnf.specs.Formula.{Clause, variable_of}

-- every literal of a clause names a variable from 1 to n
abbrev pub Within : ℕ → Clause → Type 0
Within n [] = Unit {0}
Within n (l ∷ c) = (1 ≤ variable_of l) × (variable_of l ≤ n) × Within n c

-- no literal of a clause names v
abbrev pub Apart : ℕ → Clause → Type 0
Apart v [] = Unit {0}
Apart v (l ∷ c) = (variable_of l ≢ v) × Apart v c

-- no two literals of a clause name the same variable
abbrev pub Distinct : Clause → Type 0
Distinct [] = Unit {0}
Distinct (l ∷ c) = Apart (variable_of l) c × Distinct c

-- a lawful source: 1 to 1,024 variables, at most 65,535 clauses, each within the variables and naming none twice
pub record LawfulWords (n : ℕ) (cs : List Clause) : Type 0 where
  pub some_variable : 1 ≤ n
  pub few_variables : n ≤ 1024
  pub few_clauses : length cs ≤ 65535
  pub clauses_within : AllByRecursion (Within n) cs
  pub clauses_distinct : AllByRecursion Distinct cs

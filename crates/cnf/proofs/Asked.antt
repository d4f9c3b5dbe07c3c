-- Reading clauses of a listing and literals of a clause, inside and outside the caps.
use Rattle.std.proofs.Common.{◌≡◌, ℕ, ◌-◌, ◌<◌, ◌≤◌, List, [], length, get_or, pos, arith}
use Rattle.std.proofs.lemmas.List.{get_or_past}
use Rattle.std.proofs.lemmas.Bool.Decides.{nat_tests}
use Rattle.cnf.specs.Formula.{Clause}
use Rattle.cnf.specs.Told.{clause_at, literal_at}

pub clause_past : (cs : List Clause) (k : ℕ) → 65536 < k → clause_at cs k ≡ []
clause_past cs k h = grind (arith, nat_tests)

pub clause_in : (cs : List Clause) (k : ℕ) → 0 < k → k ≤ 65536 → clause_at cs k ≡ get_or cs (k - 1) []
clause_in cs k p h = grind (arith, nat_tests)

pub literal_in : (c : Clause) (j : ℕ) → 0 < j → j ≤ 1024 → literal_at j c ≡ get_or c (j - 1) (pos 0)
literal_in c j p h = grind (arith, nat_tests)

pub literal_past : (c : Clause) (j : ℕ) → 1024 < j → literal_at j c ≡ pos 0
literal_past c j h = grind (arith, nat_tests)

-- a place after a clause's last literal
pub literal_none : (c : Clause) (j : ℕ) → length c < j → literal_at j c ≡ pos 0
literal_none c j h = grind (arith, nat_tests, get_or_past)

-- a clause without literals
pub literal_empty : (j : ℕ) → literal_at j [] ≡ pos 0
literal_empty j = grind (arith, nat_tests)

-- What a source tells of its number of variables and its listing, with the caps.
use Rattle.std.specs.Prelude.{ℕ, ◌-◌, min, cond, ◌||◌, List, [], length, ℤ, pos, ◌==◌, nat_lt, slice_index_or}
use Rattle.cnf.specs.Formula.{Clause}

-- the number of variables, or 1,025 when larger
abbrev pub told_variables : ℕ → ℕ
told_variables n = min n 1025

-- the listing's length, or 65,537 when larger
abbrev pub told_clauses : List Clause → ℕ
told_clauses cs = min (length cs) 65537

-- clause k, counted from 1; without literals outside the listing and past clause 65,536
abbrev pub clause_at : List Clause → ℕ → Clause
clause_at cs k = cond (k == 0 || nat_lt 65536 k) [] (slice_index_or cs (k - 1) [])

-- a clause's length, or 1,025 when larger
abbrev pub capped_length : Clause → ℕ
capped_length c = min (length c) 1025

-- literal j of a clause, counted from 1; 0 outside the clause and past place 1,024
abbrev pub literal_at : ℕ → Clause → ℤ
literal_at j c = cond (j == 0 || nat_lt 1024 j) (pos 0) (slice_index_or c (j - 1) (pos 0))

-- the length of clause k
abbrev pub told_length : List Clause → ℕ → ℕ
told_length cs k = capped_length (clause_at cs k)

-- literal j of clause k
abbrev pub told_literal : List Clause → ℕ → ℕ → ℤ
told_literal cs k j = literal_at j (clause_at cs k)

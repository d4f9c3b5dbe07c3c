use Rattle.std.proofs.Common.{◌≡◌, ℕ, ◌<◌, true}
use Rattle.cnf.specs.Formula.{clause_true}
use Rattle.cnf.specs.Told.{clause_at}
use Rattle.cnf.specs.Checks.{assignment_of, told_clause}
use Rattle.cnf.proofs.model.check_model.Given as goal

-- each clause before clause k is true
abbrev pub invariant-loop-k : goal.invariant-loop-k
invariant-loop-k g l = (i : ℕ) → i < l.k → 0 < i → clause_true (assignment_of l.claim) (told_clause (clause_at (g.S.Source.listing l.source) i)) ≡ true

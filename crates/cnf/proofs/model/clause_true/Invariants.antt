use Rattle.std.proofs.Common.{◌≡◌, ℕ, ◌<◌, false}
use Rattle.cnf.specs.Formula.{literal_true}
use Rattle.cnf.specs.Told.{told_literal}
use Rattle.cnf.specs.Checks.{assignment_of}
use Rattle.cnf.proofs.model.clause_true.Given as goal

-- each literal before place j is false
abbrev pub invariant-loop-j : goal.invariant-loop-j
invariant-loop-j g l = (i : ℕ) → i < l.j → 0 < i → literal_true (assignment_of l.claim) (told_literal (g.S.Source.listing l.source) l.k.0 i) ≡ false

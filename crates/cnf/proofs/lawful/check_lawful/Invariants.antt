use Rattle.std.proofs.Common.{◌≡◌, ℕ, ◌<◌, true, length, get_or}
use Rattle.cnf.specs.Formula.{proper_clause}
use Rattle.cnf.specs.Told.{clause_at}
use Rattle.cnf.proofs.lawful.check_lawful.Given as goal

-- each stamp is below k, and each clause before clause k is proper
abbrev pub invariant-loop-k : goal.invariant-loop-k
invariant-loop-k g l =
    (length l.seen ≡ 1025)
    × ((v : ℕ) → get_or l.seen v 0 < l.k)
    × ((i : ℕ) → i < l.k → 0 < i → proper_clause l.n (clause_at (g.S.Source.listing l.source) i) ≡ true)

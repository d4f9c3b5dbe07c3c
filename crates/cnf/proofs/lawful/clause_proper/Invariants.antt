use Rattle.cnf.specs.Told.{clause_at}
use Rattle.cnf.proofs.Stamps.{Walk}
use Rattle.cnf.proofs.lawful.clause_proper.Given as goal

abbrev pub invariant-loop-j : goal.invariant-loop-j
invariant-loop-j g l = Walk l.n l.k.0 (clause_at (g.S.Source.listing l.source) l.k.0) l.j l.seen

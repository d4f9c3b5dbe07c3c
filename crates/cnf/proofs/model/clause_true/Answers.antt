use Rattle.std.proofs.Common.{sym, arith, below_more}
use Rattle.cnf.specs.Told.{clause_at}
use Rattle.cnf.specs.Checks.{assignment_of}
use Rattle.cnf.proofs.Truths.{true_at, false_before}
use Rattle.cnf.proofs.model.clause_true.Goals as goal

pub returns-then-literal_true : goal.returns-then-literal_true
returns-then-literal_true g c =
    let a = assignment_of c.args.claim.now in
    let cl = clause_at (g.S.Source.listing c.args.source.now) c.args.k.0 in
    sym (true_at a cl c.loop-j.j (omega arith) (omega arith) (cc))

pub returns-else-literal_true : goal.returns-else-literal_true
returns-else-literal_true g c =
    let a = assignment_of c.args.claim.now in
    let cl = clause_at (g.S.Source.listing c.args.source.now) c.args.k.0 in
    sym (false_before a cl _ (omega arith) (below_more _ _ c.loop-j.invariant (λ _. cc)))

pub returns : goal.returns
returns g c =
    let a = assignment_of c.args.claim.now in
    let cl = clause_at (g.S.Source.listing c.args.source.now) c.args.k.0 in
    sym (false_before a cl _ (omega arith) c.loop-j.invariant)

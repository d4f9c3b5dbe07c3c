use Rattle.std.proofs.Common.{sym, ◌∙◌, arith, below_more}
use Rattle.cnf.specs.Checks.{assignment_of}
use Rattle.cnf.proofs.Truths.{model_stops, model_holds, model_tells}
use Rattle.cnf.proofs.model.check_model.Goals as goal

pub returns-then-not-clause_true : goal.returns-then-not-clause_true
returns-then-not-clause_true g c =
    let a = assignment_of c.args.claim.now in
    let cs = g.S.Source.listing c.args.source.now in
    let e = model_stops cs a c.loop-k.k c.loop-k.invariant (omega arith) (omega arith) (sym c.clause_true.ensures ∙ c.if-not-clause_true.true) in
    record { answer = sym e; first = model_tells (g.S.Source.vars c.args.source.now) cs a _ (sym e) }

pub loop-k-preserved : goal.loop-k-preserved
loop-k-preserved g c = below_more _ _ c.loop-k.invariant (λ _. sym c.clause_true.ensures ∙ c.if-not-clause_true.false)

pub returns-else-not-clause_true : goal.returns-else-not-clause_true
returns-else-not-clause_true g c =
    let a = assignment_of c.args.claim.now in
    let cs = g.S.Source.listing c.args.source.now in
    let true_upto = below_more _ _ c.loop-k.invariant (λ _. sym c.clause_true.ensures ∙ c.if-not-clause_true.false) in
    let e = model_holds cs a _ true_upto (omega arith) in
    record { answer = sym e; first = model_tells (g.S.Source.vars c.args.source.now) cs a _ (sym e) }

pub returns : goal.returns
returns g c =
    let a = assignment_of c.args.claim.now in
    let cs = g.S.Source.listing c.args.source.now in
    let e = model_holds cs a _ c.loop-k.invariant (omega arith) in
    record { answer = sym e; first = model_tells (g.S.Source.vars c.args.source.now) cs a _ (sym e) }

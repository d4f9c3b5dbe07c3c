-- The numbers first, then one clause a turn.
use Rattle.std.proofs.Common.{◌≡◌, Err, refl, sym, arith, rules, below_more}
use Rattle.cnf.specs.declared.fault.Fault.TheVariants.{Unlawful}
use Rattle.cnf.specs.Faults.{Answer}
use Rattle.cnf.specs.Checks.{lawful_answer}
use Rattle.cnf.proofs.Accepting.{lawful_stops, lawful_holds, lawful_tells}
use Rattle.cnf.proofs.Stamps.{stamps_fresh}
use Rattle.cnf.proofs.lawful.check_lawful.Goals as goal

pub loop-k-init : goal.loop-k-init
loop-k-init g c = (refl, stamps_fresh 1025, λ i l p. absurd (omega arith))

pub returns-then-n-eq0 : goal.returns-then-n-eq0
returns-then-n-eq0 g c =
    let n = g.S.Source.vars c.args.source.now in
    let cs = g.S.Source.listing c.args.source.now in
    let e : ◌≡◌ {A = Answer} (Err (Unlawful 0)) (lawful_answer n cs) = search rules in
    record { answer = e; law = lawful_tells n cs _ e }

pub returns-then-not-clause_proper : goal.returns-then-not-clause_proper
returns-then-not-clause_proper g c =
    let n = g.S.Source.vars c.args.source.now in
    let cs = g.S.Source.listing c.args.source.now in
    let e = lawful_stops n cs c.variables-n.result c.clauses-m.result c.variables-n.ensures c.clauses-m.ensures c.if-n-eq0.false c.if-n-gt-VARIABLES.false c.if-m-gt-CLAUSES.false c.loop-k.k c.loop-k.invariant.2 (omega arith) (omega arith) (cc) in
    record { answer = sym e; law = lawful_tells n cs _ (sym e) }

pub returns-else-not-clause_proper : goal.returns-else-not-clause_proper
returns-else-not-clause_proper g c =
    let n = g.S.Source.vars c.args.source.now in
    let cs = g.S.Source.listing c.args.source.now in
    let upto = below_more _ _ c.loop-k.invariant.2 (λ _. cc) in
    let e = lawful_holds n cs c.variables-n.result c.clauses-m.result c.variables-n.ensures c.clauses-m.ensures c.if-n-eq0.false c.if-n-gt-VARIABLES.false c.if-m-gt-CLAUSES.false _ upto (omega arith) in
    record { answer = sym e; law = lawful_tells n cs _ (sym e) }

pub returns-else-m-gt-CLAUSES : goal.returns-else-m-gt-CLAUSES
returns-else-m-gt-CLAUSES g c =
    let n = g.S.Source.vars c.args.source.now in
    let cs = g.S.Source.listing c.args.source.now in
    let e = lawful_holds n cs c.variables-n.result c.clauses-m.result c.variables-n.ensures c.clauses-m.ensures c.if-n-eq0.false c.if-n-gt-VARIABLES.false c.if-m-gt-CLAUSES.false _ c.loop-k.invariant.2 (omega arith) in
    record { answer = sym e; law = lawful_tells n cs _ (sym e) }

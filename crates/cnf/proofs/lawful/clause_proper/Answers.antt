-- One walk over the clause: a variable that it named has its stamp.
use Rattle.std.proofs.Common.{◌≤◌, length, arith}
use Rattle.cnf.specs.Told.{clause_at}
use Rattle.cnf.proofs.Stamps.{walk_start, walk_outside, walk_twice, walk_more, walk_end, told_long}
use Rattle.cnf.proofs.lawful.clause_proper.Goals as goal

pub returns-then-len-n : goal.returns-then-len-n
returns-then-len-n g c =
    let d = clause_at (g.S.Source.listing c.args.source.now) c.args.k.0 in
    record { answer = told_long c.args.n d c.requires.few (omega arith); stamps = λ v. let h = c.requires.fresh v in omega arith }

pub loop-j-init : goal.loop-j-init
loop-j-init g c = walk_start _ _ _ _ c.told-seen c.requires.fresh

pub returns-then-not-names : goal.returns-then-not-names
returns-then-not-names g c =
    let d = clause_at (g.S.Source.listing c.args.source.now) c.args.k.0 in
    let h : c.loop-j.j ≤ length d = omega arith in
    record { answer = walk_outside _ _ d _ _ c.loop-j.invariant _ (omega arith) h (omega arith) c.literal-l.ensures _ c.names.ensures c.if-not-names.true; stamps = c.loop-j.invariant.upto }

pub returns-then-seen-v : goal.returns-then-seen-v
returns-then-seen-v g c =
    let d = clause_at (g.S.Source.listing c.args.source.now) c.args.k.0 in
    let h : c.loop-j.j ≤ length d = omega arith in
    record { answer = walk_twice _ _ d _ _ c.loop-j.invariant _ (omega arith) h (omega arith) c.literal-l.ensures _ c.size-v.ensures c.if-seen-v.true; stamps = c.loop-j.invariant.upto }

pub loop-j-preserved : goal.loop-j-preserved
loop-j-preserved g c =
    let d = clause_at (g.S.Source.listing c.args.source.now) c.args.k.0 in
    let h : c.loop-j.j ≤ length d = omega arith in
    walk_more _ _ d _ _ c.loop-j.invariant _ (omega arith) h (omega arith) c.literal-l.ensures _ c.size-v.ensures c.requires.few _ c.names.ensures c.if-not-names.false c.if-seen-v.false

pub returns-else-seen-v : goal.returns-else-seen-v
returns-else-seen-v g c =
    let d = clause_at (g.S.Source.listing c.args.source.now) c.args.k.0 in
    let h : c.loop-j.j ≤ length d = omega arith in
    let w = walk_more _ _ d _ _ c.loop-j.invariant _ (omega arith) h (omega arith) c.literal-l.ensures _ c.size-v.ensures c.requires.few _ c.names.ensures c.if-not-names.false c.if-seen-v.false in
    record { answer = walk_end _ _ d _ _ w (omega arith); stamps = w.upto }

pub returns-else-len-n : goal.returns-else-len-n
returns-else-len-n g c =
    let d = clause_at (g.S.Source.listing c.args.source.now) c.args.k.0 in
    record { answer = walk_end _ _ d _ _ c.loop-j.invariant (omega arith); stamps = c.loop-j.invariant.upto }

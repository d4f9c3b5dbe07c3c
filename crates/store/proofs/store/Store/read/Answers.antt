use Rattle.std.proofs.Common.{take, arith}
use Rattle.std.proofs.lemmas.List.{length-take-le}
use Rattle.store.specs.Tables.{lookup}
use Rattle.store.specs.Copies.{turn, all_written}
use Rattle.store.proofs.store.Store.read.Goals as goal

pub loop-j-preserved : goal.loop-j-preserved
loop-j-preserved g c =
    let l = length-take-le c.min-written.result c.args.into.now (omega arith) in
    turn (lookup c.args.id.0 (g.Self.Store.table c.args.self.now)) c.in_ok-len.len c.loop-j.j c.loop-j.slot-items (take c.min-written.result c.args.into.now) c.literal.result c.in_ok-len.ensures (omega arith) c.loop-j-test.true c.loop-j.invariant c.literal.ensures

pub returns-clause-written : goal.returns-clause-written
returns-clause-written g c =
    let l = length-take-le c.min-written.result c.args.into.now (omega arith) in
    all_written (lookup c.args.id.0 (g.Self.Store.table c.args.self.now)) c.in_ok-len.len c.min-written.result c.loop-j.j c.args.into.now c.loop-j.slot-items c.in_ok-len.ensures c.min-written.ensures (omega arith) c.loop-j.invariant

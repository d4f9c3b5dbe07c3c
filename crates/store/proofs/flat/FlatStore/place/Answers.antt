use Rattle.std.proofs.Common.{◌+◌, ◌/◌, ◌<◌, length, vec_items, arith}
use Rattle.store.specs.Rows.{rows_of}
use Rattle.store.specs.Places.{place_within}
use Rattle.store.specs.Stands.{length_rows, past, not_past}
use Rattle.store.proofs.flat.FlatStore.place.Goals as goal

pub loop-low-init : goal.loop-low-init
loop-low-init c =
    let es = vec_items c.args.self.now.entries in
    let p = place_within c.args.id (rows_of es) in
    let n = length_rows es in
    let m = c.args.self.now.entries.ok.0 in
    (omega arith, omega arith, omega arith)

pub loop-low-preserved-then-index-id : goal.loop-low-preserved-then-index-id
loop-low-preserved-then-index-id c =
    let s = c.args.self.now in
    let es = vec_items s.entries in
    let m = (c.loop-low.low + c.loop-low.high) / 2 in
    let n = s.entries.ok.0 in
    let h : m < length es = omega arith in
    (past c.args.id es s.ordered m c.index.result.now h c.index.ensures c.if-index-id.true, c.loop-low.invariant.1, c.loop-low.invariant.2)

pub loop-low-preserved : goal.loop-low-preserved
loop-low-preserved c =
    let s = c.args.self.now in
    let es = vec_items s.entries in
    let m = (c.loop-low.low + c.loop-low.high) / 2 in
    let n = s.entries.ok.0 in
    let h : m < length es = omega arith in
    (c.loop-low.invariant.0, not_past c.args.id es s.ordered m c.index.result.now h c.index.ensures c.if-index-id.false, omega arith)

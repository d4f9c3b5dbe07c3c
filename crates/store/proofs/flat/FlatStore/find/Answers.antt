use Rattle.std.proofs.Common.{vec_items, arith}
use Rattle.store.specs.Rows.{rows_of}
use Rattle.store.specs.Places.{place_within}
use Rattle.store.specs.Stands.{length_rows, absent_end, absent_other}
use Rattle.store.proofs.flat.FlatStore.find.Goals as goal

pub returns-then-at-len : goal.returns-then-at-len
returns-then-at-len c =
    let s = c.args.self.now in
    let es = vec_items s.entries in
    let n = s.entries.ok.0 in
    let w = place_within c.args.id.0 (rows_of es) in
    let m = length_rows es in
    (c.place-at.ensures, omega arith, absent_end c.args.id.0 es s.ordered c.place-at.result c.place-at.ensures (omega arith))

pub returns-then-index-id : goal.returns-then-index-id
returns-then-index-id c =
    let s = c.args.self.now in
    let es = vec_items s.entries in
    let n = s.entries.ok.0 in
    (c.place-at.ensures, omega arith, absent_other c.args.id.0 es s.ordered c.place-at.result c.index.result.now c.place-at.ensures (omega arith) c.index.ensures c.if-index-id.true)

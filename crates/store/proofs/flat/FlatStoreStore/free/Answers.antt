use Rattle.std.proofs.Common.{vec_items, arith}
use Rattle.store.specs.Stands.{free_rows}
use Rattle.store.proofs.flat.FlatStoreStore.free.Goals as goal

pub returns : goal.returns
returns c =
    let s = c.args.self.now in
    let f = free_rows (vec_items s.entries) in
    let m = s.entries.ok.0 in
    omega arith

use Rattle.store.specs.Laws.{LawfulTable}
use Rattle.store.proofs.Lawful.{table_laws}
use Rattle.store.proofs.laws.store_laws.Goals as goal

pub returns : goal.returns
returns g c =
    let t = g.S.Store.table c.args.store.now in
    let w : LawfulTable g.S.Store.kind t = record { in_order = g.met.S.Store.ascending c.args.store.now; within_units = g.met.S.Store.within c.args.store.now } in
    record { lawful = w; laws = λ i d. table_laws g.S.Store.kind t i d w }

use Rattle.std.proofs.Common.{◌≡◌}
use Rattle.cnf.specs.Tabled.{numbers_of}
use Rattle.store.specs.Tables.{lookup}
use Rattle.store.specs.Copies.{written}
use Rattle.store.proofs.store.Store.read.Given as goal

abbrev pub invariant-loop-j : goal.invariant-loop-j
invariant-loop-j g l =
    numbers_of l.slot-items ≡ written l.j (lookup l.id.0 (g.Self.Store.table l.self)) (numbers_of l.initial.slot-items)

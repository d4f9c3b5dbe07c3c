use Rattle.std.proofs.Common.{◌-◌, ◌≤◌, vec_items, vec_len}
use Rattle.store.specs.Rows.{rows_of, place_in}
use Rattle.store.proofs.flat.FlatStore.place.Given as goal

abbrev pub invariant-loop-low : goal.invariant-loop-low
invariant-loop-low l =
    let p = place_in l.id (rows_of (vec_items l.self.entries)) in
    (l.low ≤ p) × (p ≤ l.high) × (l.high ≤ vec_len l.self.entries)

abbrev pub decreases-loop-low : goal.decreases-loop-low
decreases-loop-low l = l.high - l.low

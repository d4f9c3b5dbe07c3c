use Rattle.std.proofs.Common.{◌≡◌, ◌+◌, ◌-◌, ◌≤◌, eqb, ◌++◌, map, vec_items}
use Rattle.futoshiki.specs.Board.{up_to}
use Rattle.puzzle.specs.Meaning.{byte_of}
use Rattle.puzzle.proofs.claim.push_cell.Given as goal

abbrev pub invariant-loop-v : goal.invariant-loop-v
invariant-loop-v l = (l.v ≤ l.v-end + 1) × (vec_items l.bytes ≡ vec_items l.initial.bytes ++ map byte_of (map (eqb l.value) (up_to (l.v - 1))))

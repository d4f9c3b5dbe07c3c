use Rattle.std.proofs.Common.{◌≡◌, ◌+◌, ◌-◌, ◌≤◌}
use Rattle.std.specs.List.{range_with_len}
use Rattle.futoshiki.specs.Board.{up_to}
use Rattle.register.specs.Held.{records_in}
use Rattle.puzzle.specs.Reading.{all_claimed}
use Rattle.puzzle.proofs.enter.all_claimed.Given as goal

abbrev pub invariant-loop-cell : goal.invariant-loop-cell
invariant-loop-cell l = record {
  within : l.cell ≤ l.n + 1;
  left : all_claimed (records_in l.claims) (range_with_len l.cell (l.n + 1 - l.cell)) ≡ all_claimed (records_in l.claims) (up_to l.n);
}

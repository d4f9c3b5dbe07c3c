use Rattle.std.proofs.Common.{◌≡◌, ◌+◌, ◌-◌, ◌*◌, ◌≤◌, map, vec_items}
use Rattle.futoshiki.specs.Board.{up_to}
use Rattle.fillings.specs.Fillings.{filling_assignment}
use Rattle.puzzle.specs.Meaning.{claim_at, byte_of}
use Rattle.puzzle.proofs.claim.claim_of.Given as goal

abbrev pub invariant-loop-cell : goal.invariant-loop-cell
invariant-loop-cell l = (l.cell ≤ l.side.n * l.side.n + 1) × (vec_items l.bytes ≡ map byte_of (filling_assignment l.side.n (map (claim_at l.claims) (up_to (l.cell - 1)))))

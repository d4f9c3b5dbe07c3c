use Rattle.std.proofs.Common.{◌*◌, map}
use Rattle.futoshiki.specs.Board.{up_to}
use Rattle.futoshiki.specs.Listing.{some_value}
use Rattle.futoshiki.specs.Drafts.{GoesOn}
use Rattle.futoshiki.proofs.draft.Draft.some_values.Given as goal

abbrev pub invariant-loop-i : goal.invariant-loop-i
invariant-loop-i l = GoesOn l.initial.self l.self (map (some_value l.side.n) (up_to l.i)) (9 * l.i)

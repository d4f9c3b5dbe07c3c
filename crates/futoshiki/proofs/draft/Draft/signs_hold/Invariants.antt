use Rattle.std.proofs.Common.{◌*◌, take}
use Rattle.std.specs.List.{flat_map}
use Rattle.futoshiki.specs.Listing.{sign_clauses}
use Rattle.futoshiki.specs.Drafts.{GoesOn}
use Rattle.futoshiki.proofs.draft.Draft.signs_hold.Given as goal

abbrev pub invariant-loop-s : goal.invariant-loop-s
invariant-loop-s l = GoesOn l.initial.self l.self (flat_map (sign_clauses l.side.n) (take l.s-index l.signs)) (162 * l.s-index)

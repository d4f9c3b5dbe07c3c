use Rattle.std.proofs.Common.{◌+◌, ◌-◌, ◌*◌, map}
use Rattle.std.specs.List.{flat_map}
use Rattle.futoshiki.specs.Board.{up_to}
use Rattle.futoshiki.specs.Listing.{not_both}
use Rattle.futoshiki.specs.Drafts.{GoesOn}
use Rattle.futoshiki.proofs.draft.Draft.sign_holds.Given as goal

abbrev pub invariant-loop-a : goal.invariant-loop-a
invariant-loop-a l = GoesOn l.initial.self l.self (flat_map (λ a. map (λ b. not_both (l.lesser + a) (l.greater + b)) (up_to a)) (up_to (l.a - 1))) (18 * (l.a - 1))

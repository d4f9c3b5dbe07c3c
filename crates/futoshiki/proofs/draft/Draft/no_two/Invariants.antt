use Rattle.std.proofs.Common.{◌+◌, ◌-◌, ◌*◌}
use Rattle.std.specs.List.{flat_map}
use Rattle.futoshiki.specs.Board.{up_to}
use Rattle.futoshiki.specs.Drafts.{GoesOn, not_with}
use Rattle.futoshiki.proofs.draft.Draft.no_two.Given as goal

abbrev pub invariant-loop-j : goal.invariant-loop-j
invariant-loop-j l =
    GoesOn l.initial.self l.self
    (flat_map (λ j. not_with (l.first + (j - 1) * l.step) (l.first + (j - 1) * l.step) l.step (l.count - j)) (up_to (l.j - 1)))
    (18 * (l.j - 1))

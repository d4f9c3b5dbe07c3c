use Rattle.std.proofs.Common.{◌+◌, ◌-◌, ◌*◌}
use Rattle.std.specs.List.{flat_map}
use Rattle.futoshiki.specs.Board.{up_to}
use Rattle.futoshiki.specs.Drafts.{GoesOn, no_two_stepped}
use Rattle.futoshiki.proofs.draft.Draft.no_two_along.Given as goal

abbrev pub invariant-loop-a : goal.invariant-loop-a
invariant-loop-a l =
    GoesOn l.initial.self l.self
    (flat_map (λ a. flat_map (λ b. no_two_stepped ((a - 1) * l.outer + (b - 1) * l.inner + 1) l.step l.side.n) (up_to l.side.n)) (up_to l.a))
    (1458 * l.a)

abbrev pub invariant-loop-b : goal.invariant-loop-b
invariant-loop-b l =
    GoesOn l.initial.self l.self
    (flat_map (λ b. no_two_stepped (l.a * l.outer + (b - 1) * l.inner + 1) l.step l.side.n) (up_to l.b))
    (162 * l.b)

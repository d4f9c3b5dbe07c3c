use Rattle.std.proofs.Common.{◌-◌, ◌*◌}
use Rattle.futoshiki.specs.Drafts.{GoesOn, not_with}
use Rattle.futoshiki.proofs.draft.Draft.not_with.Given as goal

abbrev pub invariant-loop-k : goal.invariant-loop-k
invariant-loop-k l = GoesOn l.initial.self l.self (not_with l.x l.y l.step (l.k - 1)) (2 * (l.k - 1))

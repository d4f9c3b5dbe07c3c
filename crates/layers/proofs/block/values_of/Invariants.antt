use Rattle.std.proofs.Common.{◌≡◌, length, take}
use Rattle.cnf.specs.Checks.{assignment_of}
use Rattle.layers.proofs.block.values_of.Given as goal

abbrev pub invariant-loop-i : goal.invariant-loop-i
invariant-loop-i l = (length l.all ≡ length l.claim) × (take l.i l.all ≡ assignment_of (take l.i l.claim))

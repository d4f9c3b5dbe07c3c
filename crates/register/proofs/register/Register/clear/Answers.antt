use Rattle.std.proofs.Common.{replicate, sym, ap, ◌∙◌, arith}
use Rattle.std.proofs.lemmas.List.{take_all, length-take-le}
use Rattle.register.proofs.Blanks.{blanked}
use Rattle.register.proofs.register.Register.clear.Goals as goal

pub returns-clause-table : goal.returns-clause-table
returns-clause-table g c =
    let s = c.args.self.now in
    let i = c.loop-slot.slot-index in
    let l = length-take-le s.used s.slots.now s.fits in
    let every = sym (take_all i c.loop-slot.slot-items (omega arith)) ∙ c.loop-slot.invariant ∙ ap (λ k. replicate k s.blank) (omega arith) in
    blanked s.blank s.slots.now s.used s.fits s.rest c.loop-slot.slot-items every

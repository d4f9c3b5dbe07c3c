use Rattle.std.proofs.Common.{◌+◌, ◌-◌, ◌*◌, refl, arith}
use Rattle.std.proofs.lemmas.Nat.{mul-le}
use Rattle.futoshiki.specs.Drafts.{not_with}
use Rattle.futoshiki.proofs.Growing.{group_turn}
use Rattle.futoshiki.proofs.draft.Draft.no_two.Goals as goal

pub not_with-requires : goal.not_with-requires
not_with-requires c =
    let few = c.loop-j.invariant.few_literals in
    let next = mul-le (c.loop-j.j - 1) c.args.step 8 81 (omega arith) (omega arith) in
    record { room = omega arith; small = (omega arith, omega arith, omega arith, omega arith) }

pub loop-j-preserved : goal.loop-j-preserved
loop-j-preserved c =
    let a = c.args in
    group_turn a.self.now c.loop-j.self c.not_with.new.self c.loop-j.j 18 (omega arith) (λ k. not_with (a.first + (k - 1) * a.step) (a.first + (k - 1) * a.step) a.step (a.count - k)) c.loop-j.invariant c.in_ok-not_with.ensures refl

use Rattle.std.proofs.Common.{◌+◌, ◌*◌, refl, arith}
use Rattle.std.proofs.lemmas.Nat.{mul-le}
use Rattle.futoshiki.specs.Listing.{not_both}
use Rattle.futoshiki.proofs.Growing.{goes_nowhere, one_turn}
use Rattle.futoshiki.proofs.draft.Draft.not_with.Goals as goal

pub loop-k-init : goal.loop-k-init
loop-k-init c = goes_nowhere c.args.self.now

pub not_both-requires : goal.not_both-requires
not_both-requires c =
    let few = c.loop-k.invariant.few_literals in
    let next = mul-le c.loop-k.k c.args.step 9 81 (omega arith) (omega arith) in
    record { room = omega arith; small = (omega arith, omega arith) }

pub loop-k-preserved : goal.loop-k-preserved
loop-k-preserved c =
    one_turn c.args.self.now c.loop-k.self c.not_both.new.self c.loop-k.k 2 (omega arith) (λ k. not_both c.args.x (c.args.y + k * c.args.step)) c.loop-k.invariant c.in_ok-not_both.ensures refl

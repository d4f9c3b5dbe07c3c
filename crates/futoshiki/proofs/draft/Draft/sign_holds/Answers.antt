use Rattle.std.proofs.Common.{◌+◌, ◌-◌, ◌*◌, ◌≤◌, map, arith}
use Rattle.std.proofs.lemmas.Nat.{mul-le}
use Rattle.futoshiki.specs.Board.{up_to}
use Rattle.futoshiki.specs.Listing.{not_both}
use Rattle.futoshiki.proofs.Stepping.{not_with_one}
use Rattle.futoshiki.proofs.Growing.{group_turn}
use Rattle.futoshiki.proofs.draft.Draft.sign_holds.Goals as goal

pub not_with-requires : goal.not_with-requires
not_with-requires c =
    let few = c.loop-a.invariant.few_literals in
    let on = c.requires.on in
    let square = mul-le c.args.side.n c.args.side.n 9 9 (omega arith) (omega arith) in
    let l : c.from.result - 1 ≤ 80 = omega (arith, on.0.1, c.from.ensures) in
    let g : c.from-2.result - 1 ≤ 80 = omega (arith, on.1.1, c.from-2.ensures) in
    let lesser = mul-le (c.from.result - 1) c.args.side.n 80 9 l (omega arith) in
    let greater = mul-le (c.from-2.result - 1) c.args.side.n 80 9 g (omega arith) in
    record { room = omega arith; small = (omega arith, omega arith, omega arith, omega arith) }

pub loop-a-preserved : goal.loop-a-preserved
loop-a-preserved c =
    let n = c.args.side.n in
    let lesser = (c.from.result - 1) * n in
    let greater = (c.from-2.result - 1) * n in
    let a = c.loop-a.a in
    group_turn c.args.self.now c.loop-a.self c.not_with.new.self a 18 (omega arith) (λ k. map (λ b. not_both (lesser + k) (greater + b)) (up_to k)) c.loop-a.invariant c.in_ok-not_with.ensures
    (not_with_one (lesser + a) greater a)

use Rattle.std.proofs.Common.{◌≡◌, ◌+◌, ◌-◌, ◌*◌, w32, to_z, ap, ◌∙◌, arith}
use Rattle.std.proofs.lemmas.Int.{ints}
use Rattle.std.proofs.lemmas.Nat.{mul-le}
use Rattle.puzzle.proofs.posing.literal.Goals as goal

pub returns : goal.returns
returns c =
    let g = c.args.g in
    let few = mul-le (g.cell - 1) c.args.side.n 65535 9 (omega arith) c.args.side.most in
    let n = (g.cell - 1) * c.args.side.n + g.value in
    let number : c.saturating_sub.result * c.number.result + c.from-2.result ≡ n = grind arith in
    ap (to_z w32) number ∙ omega (arith, ints)

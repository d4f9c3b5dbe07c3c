use Rattle.std.proofs.Common.{◌≡◌, ◌*◌, arith}
use Rattle.std.proofs.lemmas.Nat.{mul-le}
use Rattle.futoshiki.specs.Listing.{some_value}
use Rattle.futoshiki.proofs.Stepping.{cell_one_of}
use Rattle.futoshiki.proofs.Growing.{one_more, ones_done}
use Rattle.futoshiki.proofs.draft.Draft.some_values.Goals as goal

pub one_of-requires : goal.one_of-requires
one_of-requires c =
    let few = c.loop-i.invariant.few_literals in
    let cell = mul-le c.loop-i.i c.args.side.n 81 9 (omega arith) (omega arith) in
    record { room = omega arith; small = (omega arith, omega arith) }

pub loop-i-preserved : goal.loop-i-preserved
loop-i-preserved c =
    one_more c.args.self.now c.loop-i.self c.one_of.new.self c.loop-i.i 9 (some_value c.args.side.n) c.loop-i.invariant c.in_ok-one_of.ensures
    (cell_one_of c.args.side.n c.loop-i.i)

pub returns : goal.returns
returns c =
    let n = c.args.side.n in
    let cells = c.cells-i-end.ensures in
    let all : c.loop-i.i ≡ n * n = omega (arith, cells.number) in
    ones_done c.args.self.now c.loop-i.self c.loop-i.i (n * n) 9 729 all (omega (arith, cells.number, cells.few)) (some_value n) c.loop-i.invariant

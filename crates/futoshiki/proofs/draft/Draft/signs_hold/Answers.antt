use Rattle.std.proofs.Common.{arith}
use Rattle.std.proofs.ByRecursion.{All-get_or}
use Rattle.futoshiki.specs.Rules.{OnBoard}
use Rattle.futoshiki.specs.Listing.{sign_clauses}
use Rattle.futoshiki.proofs.Growing.{each_more, each_done}
use Rattle.futoshiki.proofs.draft.Draft.signs_hold.Goals as goal

pub sign_holds-requires : goal.sign_holds-requires
sign_holds-requires c =
    let few = c.loop-s.invariant.few_literals in
    record { room = omega arith; on = All-get_or (OnBoard c.args.side.n) c.args.signs.now c.loop-s.s-index (record { lesser = 0; greater = 0 }) c.loop-s-test.true c.requires.on }

pub loop-s-preserved : goal.loop-s-preserved
loop-s-preserved c =
    each_more (sign_clauses c.args.side.n) c.args.signs.now c.args.self.now c.loop-s.self c.loop-s.s-index 162 c.sign_holds.new.self (record { lesser = 0; greater = 0 }) c.loop-s-test.true c.loop-s.invariant c.in_ok-sign_holds.ensures

pub returns : goal.returns
returns c =
    each_done (sign_clauses c.args.side.n) c.args.signs.now c.args.self.now c.loop-s.self c.loop-s.s-index 162 26244 c.loop-s-test.false (omega arith) c.loop-s.invariant

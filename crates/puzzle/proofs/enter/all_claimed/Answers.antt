use Rattle.std.proofs.Common.{◌+◌, sym, ◌∙◌, arith}
use Rattle.register.specs.Held.{records_in}
use Rattle.puzzle.proofs.Claiming.{cell_claimed, cell_unclaimed, none_left}
use Rattle.puzzle.proofs.enter.all_claimed.Goals as goal

pub returns-then-not-contains : goal.returns-then-not-contains
returns-then-not-contains c =
    sym (cell_unclaimed (records_in c.args.claims.now) c.args.n c.loop-cell.cell (omega arith) (sym c.contains.ensures ∙ c.if-not-contains.true)) ∙ c.loop-cell.invariant.left

pub loop-cell-preserved : goal.loop-cell-preserved
loop-cell-preserved c = record {
  within = omega arith;
  left = sym (cell_claimed (records_in c.args.claims.now) c.args.n c.loop-cell.cell (omega arith) (sym c.contains.ensures ∙ c.if-not-contains.false)) ∙ c.loop-cell.invariant.left;
}

pub returns : goal.returns
returns c = sym (none_left (records_in c.args.claims.now) c.args.n c.loop-cell.cell (omega arith)) ∙ c.loop-cell.invariant.left

pub returns-else-not-contains : goal.returns-else-not-contains
returns-else-not-contains c =
    sym (none_left (records_in c.args.claims.now) c.args.n (c.loop-cell.cell + 1) (omega arith))
    ∙ sym (cell_claimed (records_in c.args.claims.now) c.args.n c.loop-cell.cell (omega arith) (sym c.contains.ensures ∙ c.if-not-contains.false))
    ∙ c.loop-cell.invariant.left

use Rattle.std.proofs.Common.{rules, tests}
use Rattle.std.proofs.lemmas.Iterator.{YieldsList-from_slice}
use Rattle.std.proofs.lemmas.Iterator.Search.{any_from_yields_List}
use Rattle.drawing.specs.Redrawn.{is_cell, is_given}
use Rattle.drawing.proofs.shown.Shown.is_given.Goals as goal

pub returns : goal.returns
unfolding is_given
returns c = any_from_yields_List (is_cell c.args.cell) _ _ _ c.any.ensures.ran (YieldsList-from_slice c.args.self.now.board.givens.now cc) (λ x b q k. search (rules, tests))

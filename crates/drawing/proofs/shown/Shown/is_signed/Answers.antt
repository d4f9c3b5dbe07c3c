use Rattle.std.proofs.Common.{rules, tests}
use Rattle.std.proofs.lemmas.Iterator.{YieldsList-from_slice}
use Rattle.std.proofs.lemmas.Iterator.Search.{any_from_yields_List}
use Rattle.drawing.specs.Redrawn.{says_less, is_signed}
use Rattle.drawing.proofs.shown.Shown.is_signed.Goals as goal

pub returns : goal.returns
unfolding is_signed
returns c = any_from_yields_List (says_less c.args.lesser c.args.greater) _ _ _ c.any.ensures.ran (YieldsList-from_slice c.args.self.now.board.signs.now cc) (λ x b q k. search (rules, tests))

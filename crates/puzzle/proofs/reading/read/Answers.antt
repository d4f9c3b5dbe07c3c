use Rattle.puzzle.specs.Filled.{tables_lent}
use Rattle.puzzle.proofs.Whole.{taken_is, taken_lists}
use Rattle.puzzle.proofs.Refusals.{refused_lists}
use Rattle.puzzle.proofs.Enough.{tables_suffice}
use Rattle.puzzle.proofs.Solving.{stands}
use Rattle.puzzle.proofs.reading.read.Goals as goal

pub returns-clause-forms : goal.returns-clause-forms
returns-clause-forms c =
    let t = tables_lent c.args.givens.now c.args.claims.now c.args.signs.now in
    let ws = c.args.words.now in
    record { taken_list = taken_lists t ws; refused_list = refused_lists t ws; tables_suffice = λ a b d p. tables_suffice t a b d ws p }

pub returns-clause-means : goal.returns-clause-means
returns-clause-means c =
    let t = tables_lent c.args.givens.now c.args.claims.now c.args.signs.now in
    λ P h. stands P (taken_is t c.args.words.now P h).sound

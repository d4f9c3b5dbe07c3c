use Rattle.drawing.specs.Drawn.{less_word, sign_right, sign_below, drawn_signs}
use Rattle.drawing.proofs.Rounds.{two_words}
use Rattle.drawing.proofs.board.fn.Board.list_signs.list_words.Goals as goal

pub returns : goal.returns
unfolding drawn_signs
returns c =
    let board = c.args.cell.board in
    let N = board.drawing.grid.side in
    let bytes = board.drawing.text.now in
    two_words less_word (sign_right N bytes c.args.cell.number) (sign_below N bytes c.args.cell.number) c.right_word.result c.below_word.result c.right_word.ensures c.below_word.ensures

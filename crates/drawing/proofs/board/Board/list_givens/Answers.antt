use Rattle.std.proofs.Common.{ℕ, ◌*◌, ◌++◌, List, map, ap, ◌∙◌}
use Rattle.std.proofs.lemmas.Result.{on_ok_weaker}
use Rattle.futoshiki.specs.Board.{up_to}
use Rattle.drawing.specs.declared.board.Board.{Board}
use Rattle.drawing.specs.Drawn.{given_word, drawn_given}
use Rattle.drawing.proofs.Rounds.{words_joined}
use Rattle.drawing.proofs.board.Board.list_givens.Goals as goal

pub returns : goal.returns
returns c =
    let N = c.args.self.now.drawing.grid.side in
    let bytes = c.args.self.now.drawing.text.now in
    let given : ℕ → List ℕ = λ i. map given_word (drawn_given N bytes i) in
    on_ok_weaker c.list_words.result
    (λ listed.
    listed given (λ cell on r p. let there : Board → List ℕ = λ b. map given_word (drawn_given b.drawing.grid.side b.drawing.text.now cell.number) in p.1 ∙ ap there on)
    ∙ ap (λ l. c.args.words.now.items ++ l) (words_joined given_word (drawn_given N bytes) (up_to (N * N))))
    c.list_words.ensures

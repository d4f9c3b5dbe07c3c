use Rattle.std.proofs.Common.{◌≡◌, ◌-◌, [], ◌∷◌, map, get_or, sym, ap, ◌∙◌}
use Rattle.drawing.specs.Drawn.{given_word, byte_before}
use Rattle.drawing.proofs.Rounds.{given_drawn, none_given}
use Rattle.drawing.proofs.cells.Cell.given_word.Goals as goal

pub returns-then-byte_at-eq91 : goal.returns-then-byte_at-eq91
returns-then-byte_at-eq91 c =
    let N = c.args.self.now.board.drawing.grid.side in
    let bytes = c.args.self.now.board.drawing.text.now in
    let mark : c.byte_at.result ≡ byte_before N bytes c.args.self.now.number = c.byte_at.ensures ∙ ap (λ k. get_or bytes (k - 1) 0) c.place_of.ensures.is in
    ap (λ w. w ∷ []) (c.word_of.ensures ∙ ap given_word c.entry.ensures.is) ∙ ap (map given_word) (sym (given_drawn N bytes c.args.self.now.number (sym mark ∙ c.if-byte_at-eq91.true)))

pub returns-else-byte_at-eq91 : goal.returns-else-byte_at-eq91
returns-else-byte_at-eq91 c =
    let N = c.args.self.now.board.drawing.grid.side in
    let bytes = c.args.self.now.board.drawing.text.now in
    let mark : c.byte_at.result ≡ byte_before N bytes c.args.self.now.number = c.byte_at.ensures ∙ ap (λ k. get_or bytes (k - 1) 0) c.place_of.ensures.is in
    ap (map given_word) (sym (none_given N bytes c.args.self.now.number (λ e. c.if-byte_at-eq91.false (mark ∙ e))))

use mathlib.Core.List.{map-map}
use Rattle.std.proofs.Common.{ℕ, ◌*◌, ◌++◌, List, [], ◌∷◌, sym, ap, ◌∙◌}
use Rattle.std.proofs.lemmas.Result.{on_ok_weaker}
use Rattle.std.proofs.lemmas.List.Concat.{flat_map_single}
use Rattle.futoshiki.specs.Board.{up_to}
use Rattle.drawing.specs.declared.board.Board.{Board}
use Rattle.drawing.specs.Drawn.{claim_word, drawn_entry}
use Rattle.drawing.proofs.board.Board.list_claims.Goals as goal

pub returns : goal.returns
returns c =
    let N = c.args.self.now.drawing.grid.side in
    let bytes = c.args.self.now.drawing.text.now in
    let given : ℕ → List ℕ = λ i. claim_word (drawn_entry N bytes i) ∷ [] in
    on_ok_weaker c.list_words.result
    (λ listed.
    listed given (λ cell on r p. let there : Board → List ℕ = λ b. claim_word (drawn_entry b.drawing.grid.side b.drawing.text.now cell.number) ∷ [] in p.1 ∙ ap there on)
    ∙ ap (λ l. c.args.words.now.items ++ l) (flat_map_single (λ i. claim_word (drawn_entry N bytes i)) (up_to (N * N)) ∙ sym (map-map claim_word (drawn_entry N bytes) (up_to (N * N)))))
    c.list_words.ensures

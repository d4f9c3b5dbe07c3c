use Rattle.std.proofs.Common.{◌≡◌, [], ◌∷◌, ◌++◌, vec_items, ap, ◌∙◌, rules}
use Rattle.drawing.specs.Drawn.{drawn_puzzle}
use Rattle.drawing.proofs.Rounds.{parts_in_order}
use Rattle.drawing.proofs.taken.all_words.Goals as goal

pub returns : goal.returns
unfolding drawn_puzzle
returns c =
    let first : vec_items c.push.new.self ≡ c.word_of.result ∷ [] = search rules in
    let last : vec_items c.push-2.new.self ≡ vec_items c.list_claims.new.words ++ c.word_of-2.result ∷ [] = search rules in
    parts_in_order (drawn_puzzle c.args.board.now.drawing.grid.side c.args.board.now.drawing.text.now) (vec_items c.push.new.self) (vec_items c.list_givens.new.words) (vec_items c.list_signs.new.words) (vec_items c.list_claims.new.words) (vec_items c.push-2.new.self)
    (first ∙ ap (λ w. w ∷ []) c.word_of.ensures)
    c.in_ok-list_givens.ensures
    c.in_ok-list_signs.ensures
    c.in_ok-list_claims.ensures
    (last ∙ ap (λ w. vec_items c.list_claims.new.words ++ w ∷ []) c.word_of-2.ensures)

use Rattle.std.proofs.Common.{◌≡◌, [], ◌∷◌, ◌++◌, vec_items, ap, ◌∙◌, arith, rules}
use Rattle.puzzle.specs.Poses.{puzzle_in}
use Rattle.drawing.specs.Drawn.{whole_length}
use Rattle.drawing.proofs.Redrawing.{one_byte_more, no_text, whole_text}
use Rattle.drawing.proofs.Showing.{draws_right}
use Rattle.drawing.proofs.shown.drawing_of.Goals as goal

pub returns-in_default : goal.returns-in_default
returns-in_default c =
    let a = c.args in
    let none = c.new-text.ensures.items ∙ no_text (puzzle_in a.board) c.in_default.ensures in
    record { shown = none; stands = draws_right }

pub loop-k-preserved : goal.loop-k-preserved
loop-k-preserved c =
    let a = c.args in
    let pushed : vec_items c.push.new.self ≡ vec_items c.loop-k.text ++ c.byte_for.result ∷ [] = search rules in
    one_byte_more (puzzle_in a.board) c.loop-k.k c.byte_for.result (vec_items c.loop-k.text) (vec_items c.push.new.self) c.loop-k.invariant pushed c.byte_for.ensures

pub returns : goal.returns
returns c =
    let a = c.args in
    let size = c.places-k-end.ensures.is ∙ ap whole_length c.in-Some.ensures.0 in
    let all = whole_text (puzzle_in a.board) c.loop-k.k (vec_items c.loop-k.text) c.in-Some.ensures.1 (omega arith) c.loop-k.invariant in
    record { shown = all; stands = draws_right }

pub returns-in_err-push : goal.returns-in_err-push
returns-in_err-push c = record { shown = search rules; stands = draws_right }

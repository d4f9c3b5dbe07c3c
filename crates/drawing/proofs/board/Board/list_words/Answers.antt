use Rattle.std.proofs.Common.{◌≡◌, ◌+◌, ◌-◌, ◌*◌, ◌++◌, vec_items, refl, ap, ◌∙◌, arith}
use Rattle.std.specs.List.{flat_map}
use Rattle.futoshiki.specs.Board.{up_to}
use Rattle.drawing.proofs.Rounds.{cell_more}
use Rattle.drawing.proofs.board.Board.list_words.Goals as goal
use Rattle.drawing.proofs.board.Board.list_words.Goals.{else-loop-number-test, then-loop-number-test+in_ok-push_words+else-number-cells}

pub loop-number-preserved : goal.loop-number-preserved
loop-number-preserved g c = (
  omega arith,
  λ given step.
      cell_more given c.loop-number.number (c.loop-number.number + 1 - 1) (vec_items c.args.words.now) (vec_items c.loop-number.words) (vec_items c.push_words.new.words) (omega arith) (omega arith) (c.loop-number.invariant.1 given step)
      (c.in_ok-push_words.ensures ∙ ap (λ l. vec_items c.loop-number.words ++ l) (step _ refl c.words_of.result c.words_of.ensures)),
)

pub returns : goal.returns
returns g c = λ given step.
    let before = vec_items c.args.words.now in
    let N = c.args.self.now.drawing.grid.side in
    let cells = N * N in
    elim c.loop-number-test.branch [
      | else-loop-number-test w ↦
          let most = c.loop-number.invariant.0 in
          let all : c.loop-number.number - 1 ≡ cells = omega arith in
          ap vec_items w.words-is ∙ c.loop-number.invariant.1 given step ∙ ap (λ n. before ++ flat_map given (up_to n)) all
      | then-loop-number-test+in_ok-push_words+else-number-cells w ↦
          ap vec_items w.words-is
          ∙ cell_more given c.loop-number.number cells before (vec_items c.loop-number.words) (vec_items w.push_words.new.words) (omega arith) (omega arith) (c.loop-number.invariant.1 given step)
          (w.in_ok-push_words.ensures ∙ ap (λ l. vec_items c.loop-number.words ++ l) (step _ refl w.words_of.result w.words_of.ensures))
    ]

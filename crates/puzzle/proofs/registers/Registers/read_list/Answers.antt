use Rattle.std.proofs.Common.{Err, sym, ap, ◌∙◌}
use Rattle.std.proofs.lemmas.Result.{err_from_is_err_and}
use Rattle.puzzle.specs.Steps.{tables_held, verdict_with}
use Rattle.puzzle.proofs.Opening.{no_word, no_item, opens_none, opens_board}
use Rattle.puzzle.proofs.registers.Registers.read_list.Goals as goal

pub returns-in_default-clause-answer : goal.returns-in_default-clause-answer
returns-in_default-clause-answer c = no_word (tables_held c.args.self.now) c.args.words.now c.in_default.ensures.cases

pub returns-in_default-decode-clause-answer : goal.returns-in_default-decode-clause-answer
returns-in_default-decode-clause-answer c =
    rw c.in-Some.ensures.cases.0 (no_item (tables_held c.args.self.now) c.in-Some.first.now c.in-Some.rest.now (sym c.in_default-decode.ensures.answer))

pub returns-in_err-side-clause-answer : goal.returns-in_err-side-clause-answer
returns-in_err-side-clause-answer c =
    let p = err_from_is_err_and c.from_residual.result c.from_residual.ensures.1 in
    let stop = opens_none (tables_held c.args.self.now) c.in-Some.first.now c.in-Some.rest.now c.in-Some-decode.item (sym c.in-Some-decode.ensures.answer) c.in_err-side.field-0.0 c.in_err-side.ensures in
    ap (λ r. verdict_with r c.args.self.now) (p.1 ∙ ap Err p.2) ∙ rw c.in-Some.ensures.cases.0 stop

pub returns-in_err-read_rest-clause-answer : goal.returns-in_err-read_rest-clause-answer
returns-in_err-read_rest-clause-answer c =
    let p = err_from_is_err_and c.from_residual-in_err-read_rest.result c.from_residual-in_err-read_rest.ensures.1 in
    let on = opens_board (tables_held c.args.self.now) c.in-Some.first.now c.in-Some.rest.now c.in-Some-decode.item (sym c.in-Some-decode.ensures.answer) c.in_ok-side.side.n c.in_ok-side.ensures in
    ap (λ r. verdict_with r c.read_rest.new.self) (p.1 ∙ ap Err p.2) ∙ c.in_err-read_rest.ensures.answer ∙ rw c.in-Some.ensures.cases.0 (sym on)

pub returns-clause-answer : goal.returns-clause-answer
returns-clause-answer c =
    let on = opens_board (tables_held c.args.self.now) c.in-Some.first.now c.in-Some.rest.now c.in-Some-decode.item (sym c.in-Some-decode.ensures.answer) c.in_ok-side.side.n c.in_ok-side.ensures in
    c.in_ok-read_rest.ensures.answer ∙ rw c.in-Some.ensures.cases.0 (sym on)

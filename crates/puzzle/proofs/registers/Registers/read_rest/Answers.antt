use Rattle.std.proofs.Common.{◌≡◌, ◌+◌, cond, length, Ok, Err, sym, refl, ap, ◌∙◌, subst, arith}
use Rattle.std.proofs.lemmas.Result.{err_from_is_err_and}
use Rattle.cnf.specs.declared.fault.Fault.TheVariants.{EndWord}
use Rattle.puzzle.specs.Reading.{Tables, State, item_answer}
use Rattle.puzzle.specs.Steps.{puzzle_held, state_held, tables_held, verdict_of}
use Rattle.puzzle.proofs.Underway.{UnderWay, few_words, no_item, turned_away, goes_on, all_read}
use Rattle.puzzle.proofs.Stepping.{tables_same, tables_on, state_after}
use Rattle.puzzle.proofs.registers.Registers.read_rest.Goals as goal

pub overflow_cast-place : goal.overflow_cast-place
overflow_cast-place c = let few = few_words c.args.side c.loop-i.invariant.under_way in omega arith

pub overflow_add-place : goal.overflow_add-place
overflow_add-place c = let few = few_words c.args.side c.loop-i.invariant.under_way in omega arith

pub returns-in_default-clause-answer : goal.returns-in_default-clause-answer
returns-in_default-clause-answer c = no_item c.args.side c.loop-i.invariant.under_way c.loop-i-test.true (sym c.in_default.ensures.answer)

pub returns-in_err-take-clause-answer : goal.returns-in_err-take-clause-answer
returns-in_err-take-clause-answer c =
    let v = c.loop-i.invariant in
    let N = c.args.side.n in
    let p = err_from_is_err_and c.from_residual.result c.from_residual.ensures.1 in
    let refuses = ap (λ (t : Tables). item_answer t (state_held N c.loop-i.ended c.loop-i.self) (c.loop-i.i + 2) c.in-Some.item) (sym (tables_same v.tables)) ∙ sym c.in_err-take.ensures.answer in
    let stop = turned_away c.args.side v.under_way c.loop-i-test.true c.in-Some.item (sym c.in-Some.ensures.answer) c.in_err-take.field-0.0 refuses in
    ap (λ r. verdict_of r (puzzle_held N c.take.new.self)) (p.1 ∙ ap Err p.2) ∙ stop

pub loop-i-preserved : goal.loop-i-preserved
loop-i-preserved c =
    let v = c.loop-i.invariant in
    let N = c.args.side.n in
    let st = state_held N c.loop-i.ended c.loop-i.self in
    let f = c.in_ok-take.ensures in
    let takes = ap (λ (t : Tables). item_answer t st (c.loop-i.i + 2) c.in-Some.item) (sym (tables_same v.tables)) ∙ sym f.answer in
    let on = goes_on c.args.side v.under_way c.loop-i-test.true c.in-Some.item (sym c.in-Some.ensures.answer) takes in
    let after = state_after st (puzzle_held N c.take.new.self) c.in-Some.item c.ends-ended.result f.puzzle c.ends-ended.ensures in
    record {
      under_way = subst (λ (x : State). UnderWay (tables_held c.args.self.now) c.args.words.now N x (c.loop-i.i + 1)) (sym after) on;
      tables = tables_on v.tables f.tables;
    }

pub overflow_cast-result : goal.overflow_cast-result
overflow_cast-result c = let few = few_words c.args.side c.loop-i.invariant.under_way in omega arith

pub overflow_add-result : goal.overflow_add-result
overflow_add-result c = let few = few_words c.args.side c.loop-i.invariant.under_way in omega arith

pub returns-then-not-ended-clause-answer : goal.returns-then-not-ended-clause-answer
returns-then-not-ended-clause-answer c =
    let n = length c.args.words.now in
    let at_end : n + 2 ≡ c.loop-i.i + 2 = omega arith in
    let open_end : Err (EndWord (n + 2)) ≡ cond c.loop-i.ended (Ok (puzzle_held c.args.side.n c.loop-i.self)) (Err (EndWord (c.loop-i.i + 2))) = rw (c.if-not-ended.true, at_end) refl in
    open_end ∙ all_read c.args.side c.loop-i.invariant.under_way c.loop-i-test.false

pub returns-clause-answer : goal.returns-clause-answer
returns-clause-answer c =
    let P = puzzle_held c.args.side.n c.loop-i.self in
    let at_end : Ok P ≡ cond c.loop-i.ended (Ok P) (Err (EndWord (c.loop-i.i + 2))) = rw c.if-not-ended.false refl in
    at_end ∙ all_read c.args.side c.loop-i.invariant.under_way c.loop-i-test.false

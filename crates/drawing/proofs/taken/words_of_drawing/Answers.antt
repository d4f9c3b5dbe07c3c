use Rattle.std.proofs.Common.{◌≡◌, is_ok, Ok, sym, ap, ◌∙◌, arith}
use Rattle.std.proofs.lemmas.Result.{err_from_is_err_and}
use Rattle.drawing.specs.Drawn.{drawn_words, drawn_answer}
use Rattle.drawing.proofs.Answering.{refused_at_end, sided_by, told_at, unfit_answer, longer_answer, whole_answer, well_drawn}
use Rattle.drawing.proofs.Standing.{drawing_stands}
use Rattle.drawing.proofs.taken.words_of_drawing.Goals as goal
use Rattle.drawing.proofs.taken.words_of_drawing.Goals.{then-place-end-via-then-place-end, then-place-end-via-else-place-end+then-text-end}

pub returns-in_default : goal.returns-in_default
returns-in_default c = record {
  answer = refused_at_end c.args.text.now c.line_length-characters.result c.line_length-characters.ensures.is c.in_default.ensures;
  stands = drawing_stands c.args.text.now;
}

pub returns-then-place-end : goal.returns-then-place-end
returns-then-place-end c =
    let bytes = c.args.text.now in
    let N = c.in-Some.grid.side in
    let h = c.in-Some.ensures in
    let p = c.unfit_place-place.ensures.is in
    let e = c.places-end.ensures.is in
    record {
      answer = sided_by bytes c.line_length-characters.result N c.line_length-characters.ensures.is h.0 h.1
          ∙ told_at bytes N c.unfit_place-place.result c.spot_of-line.result.0 c.spot_of-line.result.1 p c.spot_of-line.ensures.line c.spot_of-line.ensures.column
          (elim c.then-place-end.branch [ then-place-end-via-then-place-end w ↦ unfit_answer bytes N (let t = w.if-place-end.true in omega arith) | then-place-end-via-else-place-end+then-text-end w ↦ longer_answer bytes N (let t = w.if-text-end.true in omega arith) ]);
      stands = drawing_stands bytes;
    }

pub invariant_of-all_words : goal.invariant_of-all_words
invariant_of-all_words c =
    let p = c.unfit_place-place.ensures.is in
    let e = c.places-end.ensures.is in
    record { drawn = well_drawn c.args.text.now c.in-Some.grid.side c.in-Some.ensures.2 c.in-Some.grid.most (omega arith) (omega arith) }

pub returns-in_err-all_words : goal.returns-in_err-all_words
returns-in_err-all_words c =
    let bytes = c.args.text.now in
    let N = c.in-Some.grid.side in
    let h = c.in-Some.ensures in
    let p = c.unfit_place-place.ensures.is in
    let e = c.places-end.ensures.is in
    let taken : drawn_answer bytes ≡ Ok (drawn_words N bytes) = sided_by bytes c.line_length-characters.result N c.line_length-characters.ensures.is h.0 h.1
    ∙ whole_answer bytes N (omega arith) (omega arith) in
    let q = err_from_is_err_and c.from_residual.result c.from_residual.ensures.1 in
    record { answer = rw (q.1, q.2) (ap is_ok taken); stands = drawing_stands bytes }

pub returns : goal.returns
returns c =
    let bytes = c.args.text.now in
    let N = c.in-Some.grid.side in
    let h = c.in-Some.ensures in
    let p = c.unfit_place-place.ensures.is in
    let e = c.places-end.ensures.is in
    record {
      answer = sided_by bytes c.line_length-characters.result N c.line_length-characters.ensures.is h.0 h.1
          ∙ whole_answer bytes N (omega arith) (omega arith) ∙ ap Ok (sym c.in_ok-all_words.ensures);
      stands = drawing_stands bytes;
    }

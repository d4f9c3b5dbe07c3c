use Rattle.std.proofs.Common.{ℕ, ◌-◌, get_or, ap, ◌∙◌, arith}
use Rattle.std.proofs.lemmas.Nat.{mul-le}
use Rattle.words.specs.declared.entry.Entry.{Entry}
use Rattle.drawing.specs.Drawn.{drawn_entry}
use Rattle.drawing.proofs.Spots.{digit_drawn}
use Rattle.drawing.proofs.cells.Cell.entry.Goals as goal

pub overflow_sub-result : goal.overflow_sub-result
overflow_sub-result c =
    let cell = c.args.self.now in
    let bytes = cell.board.drawing.text.now in
    let e = c.byte_at-digit.ensures ∙ ap (λ k. get_or bytes k 0) c.place_of.ensures.is in
    let d = digit_drawn cell.board.drawing.grid.side bytes cell.board.drawn cell.number cell.on in
    omega arith

pub returns : goal.returns
unfolding drawn_entry
returns c =
    let cell = c.args.self.now in
    let N = cell.board.drawing.grid.side in
    let bytes = cell.board.drawing.text.now in
    let e = c.byte_at-digit.ensures ∙ ap (λ k. get_or bytes k 0) c.place_of.ensures.is in
    let d = digit_drawn N bytes cell.board.drawn cell.number cell.on in
    let h = cell.board.drawing.grid.most in
    let m = mul-le N N 9 9 h h in
    let on = cell.on in
    let entry : ℕ → Entry = λ b. record { cell = cell.number; value = b - 48 } in
    record { is = ap entry e; small = (omega arith, omega arith) }

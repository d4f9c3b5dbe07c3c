use Rattle.std.proofs.Common.{◌∙◌}
use Rattle.puzzle.specs.Poses.{puzzle_in}
use Rattle.drawing.specs.Redrawn.{}
use Rattle.drawing.proofs.Redrawing.{feed_at, frame_at, row_at}
use Rattle.drawing.proofs.shown.Shown.byte_for.Goals as goal

pub returns-then-column-self : goal.returns-then-column-self
returns-then-column-self c =
    let s = c.args.self.now in
    feed_at s.grid.side (puzzle_in s.board) s.same c.args.k c.spot_of-line.result.0 c.spot_of-line.result.1 c.spot_of-line.ensures.line c.spot_of-line.ensures.column c.if-column-self.true

pub returns-then-line-eq0 : goal.returns-then-line-eq0
returns-then-line-eq0 c =
    let s = c.args.self.now in
    c.frame_byte.ensures ∙ frame_at s.grid.side (puzzle_in s.board) s.same c.args.k c.spot_of-line.result.0 c.spot_of-line.result.1 c.spot_of-line.ensures.line c.spot_of-line.ensures.column c.if-column-self.false c.if-line-eq0.true

pub returns-else-line-eq0 : goal.returns-else-line-eq0
returns-else-line-eq0 c =
    let s = c.args.self.now in
    c.row_byte.ensures ∙ row_at s.grid.side (puzzle_in s.board) s.same c.args.k c.spot_of-line.result.0 c.spot_of-line.result.1 c.spot_of-line.ensures.line c.spot_of-line.ensures.column c.if-column-self.false c.if-line-eq0.false

use Rattle.std.proofs.Common.{◌≡◌, ℕ, ◌*◌, ◌<◌, true}
use Rattle.drawing.specs.Drawn.{fits_place, line_width}
use Rattle.drawing.proofs.frame.Drawing.unfit_place.Given as goal

abbrev pub invariant-loop-line : goal.invariant-loop-line
invariant-loop-line l = (j : ℕ) → j < l.line-counter * line_width l.self.grid.side → fits_place l.self.grid.side l.self.text.now j ≡ true

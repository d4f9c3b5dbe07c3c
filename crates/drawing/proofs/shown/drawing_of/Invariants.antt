use Rattle.std.proofs.Common.{◌≡◌, map, vec_items}
use Rattle.std.specs.List.{range_with_len}
use Rattle.puzzle.specs.Poses.{puzzle_in}
use Rattle.drawing.specs.Redrawn.{drawn_byte}
use Rattle.drawing.proofs.shown.drawing_of.Given as goal

abbrev pub invariant-loop-k : goal.invariant-loop-k
invariant-loop-k l = vec_items l.text ≡ map (drawn_byte (puzzle_in l.board)) (range_with_len 0 l.k)

use Rattle.std.proofs.Common.{◌≡◌, ℕ, ◌+◌, ◌-◌, ◌≤◌, List, ◌++◌, option_to_list, vec_items}
use Rattle.std.specs.List.{flat_map}
use Rattle.futoshiki.specs.Board.{up_to}
use Rattle.drawing.specs.declared.cells.Cell.{Cell}
use Rattle.drawing.proofs.board.Board.list_words.Given as goal

abbrev pub invariant-loop-number : goal.invariant-loop-number
invariant-loop-number g l =
    (l.number ≤ l.cells + 1)
    × ((given : ℕ → List ℕ) → ((cell : Cell) → cell.board ≡ l.board → (r : List _) → goal.F-post g l.words_of cell r → flat_map option_to_list r ≡ given cell.number) → vec_items l.words ≡ vec_items l.initial.words ++ flat_map given (up_to (l.number - 1)))

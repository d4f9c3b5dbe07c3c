-- The text that draws a board with its givens, its claims and its signs, place by place.
use Rattle.std.specs.Prelude.{ℕ, ◌+◌, ◌-◌, ◌*◌, ◌/◌, ◌%◌, Bool, cond, ◌&&◌, List, [], map, ◌==◌, nat_le, nat_lt}
use Rattle.std.specs.List.{range_with_len, list_any}
use Rattle.futoshiki.specs.declared.sign.Sign.{Sign}
use Rattle.words.specs.declared.entry.Entry.{Entry}
use Rattle.puzzle.specs.Reading.{Puzzle}
use Rattle.puzzle.specs.Meaning.{claim_at}
use Rattle.drawing.specs.Drawn.{line_width, whole_length}

-- whether an entry is of cell i
abbrev pub is_cell : ℕ → Entry → Bool
is_cell i e = e.cell == i

-- whether a cell is given
unfoldable pub is_given : List Entry → ℕ → Bool
is_given gs i = list_any (is_cell i) gs

-- whether a sign, or some sign, says that cell i holds less than cell j
abbrev pub says_less : ℕ → ℕ → Sign → Bool
says_less i j s = s.lesser == i && s.greater == j

unfoldable pub is_signed : List Sign → ℕ → ℕ → Bool
is_signed ss i j = list_any (says_less i j) ss

-- the byte between two cells: that the first holds less, that the second does, or no sign
abbrev pub byte_between : List Sign → ℕ → ℕ → ℕ → ℕ → ℕ → ℕ
byte_between ss i j first_less second_less no_sign = cond (is_signed ss i j) first_less (cond (is_signed ss j i) second_less no_sign)

-- the cell whose row and column, from 0, are these
abbrev pub cell_in : ℕ → ℕ → ℕ → ℕ
cell_in N row_at column_at = row_at * N + column_at + 1

-- the byte in a column of a frame line: under a cell and between two rows their sign
abbrev pub frame_byte : ℕ → List Sign → ℕ → ℕ → ℕ
frame_byte N ss line_at column_at =
    cond (column_at % 4 == 0) 43
    (cond (column_at % 4 == 2 && nat_lt 0 line_at && nat_lt line_at (2 * N))
    (byte_between ss (cell_in N (line_at / 2 - 1) (column_at / 4)) (cell_in N (line_at / 2 - 1) (column_at / 4) + N) 94 118 45) 45)

-- the byte in a column of a row of cells: between two cells their sign; in a cell its value, in brackets where it is given
abbrev pub row_byte : ℕ → Puzzle → ℕ → ℕ → ℕ
row_byte N P line_at column_at =
    cond (column_at % 4 == 0)
    (cond (nat_lt 0 column_at && nat_lt column_at (4 * N)) (byte_between P.signs (cell_in N (line_at / 2) (column_at / 4 - 1)) (cell_in N (line_at / 2) (column_at / 4 - 1) + 1) 60 62 124) 124)
    (cond (column_at % 4 == 1) (cond (is_given P.givens (cell_in N (line_at / 2) (column_at / 4))) 91 32)
    (cond (column_at % 4 == 2) (48 + claim_at P.claims (cell_in N (line_at / 2) (column_at / 4)) % 10)
    (cond (is_given P.givens (cell_in N (line_at / 2) (column_at / 4))) 93 32)))

-- the byte in a line and a column
abbrev pub byte_in : ℕ → Puzzle → ℕ → ℕ → ℕ
byte_in N P line_at column_at = cond (column_at == 4 * N + 1) 10 (cond (line_at % 2 == 0) (frame_byte N P.signs line_at column_at) (row_byte N P line_at column_at))

-- the byte at a place
unfoldable pub drawn_byte : Puzzle → ℕ → ℕ
drawn_byte P k = byte_in P.size P (k / line_width P.size) (k % line_width P.size)

-- the text of a board of side 9 at most; none of a larger one
unfoldable pub drawn_text : Puzzle → List ℕ
drawn_text P = cond (nat_le P.size 9) (map (drawn_byte P) (range_with_len 0 (whole_length P.size))) []

-- A board with its solution, drawn as a text: 2N + 1 lines of 4N + 1 characters, frame lines and rows of cells in turn, each with a line feed.
use Rattle.std.specs.Prelude.{ℕ, zero, suc, ◌+◌, ◌-◌, ◌*◌, ◌/◌, ◌%◌, Bool, cond, not, ◌&&◌, ◌||◌, List, [], ◌∷◌, ◌++◌, map, length, Ok, Err, Result, ◌==◌, nat_le, nat_lt, slice_index, slice_index_or}
use Rattle.std.specs.List.{flat_map}
use Rattle.futoshiki.specs.declared.sign.Sign.{Sign}
use Rattle.futoshiki.specs.Board.{up_to}
use Rattle.words.specs.declared.entry.Entry.{Entry}
use Rattle.words.specs.declared.item.Item.{Item}
use Rattle.words.specs.declared.item.Item.TheVariants.{Board, Given, Claim, Less, End}
use Rattle.words.specs.Layouts.{item_word}
use Rattle.puzzle.specs.Reading.{Puzzle}

-- the first of n numbers from a on that fails a test, or the number after them
abbrev pub first_failing : (ℕ → Bool) → ℕ → ℕ → ℕ
first_failing test a zero = a
first_failing test a (suc n) = cond (test a) (first_failing test (a + 1) n) a

-- the characters of the first line: the bytes before the first line feed, or all where there is none; only 38 are looked at, one more than the longest line has
unfoldable pub first_line : List ℕ → ℕ
first_line bytes = first_failing (λ k. not (slice_index_or bytes k 10 == 10)) 0 38

-- whether a line of so many characters is as long as those of a side from 2 to 9
abbrev pub line_of_side : ℕ → Bool
line_of_side k = k % 4 == 1 && nat_le 2 (k / 4) && nat_le (k / 4) 9

-- a line with its line feed
abbrev pub line_width : ℕ → ℕ
line_width N = 4 * N + 2

-- the places of a whole drawing; place k is in line k / (4N + 2) and column k % (4N + 2), both from 0
abbrev pub whole_length : ℕ → ℕ
whole_length N = (2 * N + 1) * line_width N

-- whether a byte may stand in a column of a frame line: a sign only between two rows, in the middle under a cell
abbrev pub frame_fits : ℕ → ℕ → ℕ → ℕ → Bool
frame_fits N line_at column_at b =
    cond (column_at % 4 == 0) (b == 43)
    (b == 45 || (column_at % 4 == 2 && nat_lt 0 line_at && nat_lt line_at (2 * N) && (b == 94 || b == 118)))

-- whether a byte may stand in a column of a row of cells, by the byte two places before it: a sign only between two cells, a closing bracket exactly where an opening one stands
abbrev pub row_fits : ℕ → ℕ → ℕ → ℕ → Bool
row_fits N column_at b opening =
    cond (column_at % 4 == 0) (b == 124 || (nat_lt 0 column_at && nat_lt column_at (4 * N) && (b == 60 || b == 62)))
    (cond (column_at % 4 == 1) (b == 32 || b == 91)
    (cond (column_at % 4 == 2) (nat_le 49 b && nat_le b (48 + N))
    (b == cond (opening == 91) 93 32)))

-- whether a byte may stand in a line and a column
abbrev pub byte_fits : ℕ → ℕ → ℕ → ℕ → ℕ → Bool
byte_fits N line_at column_at b opening =
    cond (column_at == 4 * N + 1) (b == 10)
    (cond (line_at % 2 == 0) (frame_fits N line_at column_at b) (row_fits N column_at b opening))

-- whether the byte at a place may stand there
unfoldable pub fits_place : ℕ → List ℕ → ℕ → Bool
fits_place N bytes k = byte_fits N (k / line_width N) (k % line_width N) (slice_index bytes k) (slice_index bytes (k - 2))

-- the first place that does not fit; where all fit, the place after the last
unfoldable pub first_unfit : ℕ → List ℕ → ℕ
first_unfit N bytes = first_failing (fits_place N bytes) 0 (whole_length N)

-- the place of a cell's digit; cells are counted from 1 in reading order
abbrev pub digit_place : ℕ → ℕ → ℕ
digit_place N i = (2 * ((i - 1) / N) + 1) * line_width N + (4 * ((i - 1) % N) + 2)

-- the bytes before a cell's digit, right of the cell, and below it
abbrev pub byte_before : ℕ → List ℕ → ℕ → ℕ
byte_before N bytes i = slice_index bytes (digit_place N i - 1)

abbrev pub byte_right : ℕ → List ℕ → ℕ → ℕ
byte_right N bytes i = slice_index bytes (digit_place N i + 2)

abbrev pub byte_below : ℕ → List ℕ → ℕ → ℕ
byte_below N bytes i = slice_index bytes (digit_place N i + line_width N)

-- a cell with the value that is drawn in it
unfoldable pub drawn_entry : ℕ → List ℕ → ℕ → Entry
drawn_entry N bytes i = record { cell = i; value = slice_index bytes (digit_place N i) - 48 }

-- a cell in brackets is given
unfoldable pub drawn_given : ℕ → List ℕ → ℕ → List Entry
drawn_given N bytes i = cond (byte_before N bytes i == 91) (drawn_entry N bytes i ∷ []) []

-- the sign that a byte draws between two cells, by the byte that says that the first holds less and the one that says that the second does
abbrev pub sign_drawn : ℕ → ℕ → ℕ → ℕ → ℕ → List Sign
sign_drawn b first_less second_less i j =
    cond (b == first_less) (record { lesser = i; greater = j } ∷ []) (cond (b == second_less) (record { lesser = j; greater = i } ∷ []) [])

-- the sign right of a cell, < or >, and the one below it, ^ or v
abbrev pub sign_right : ℕ → List ℕ → ℕ → List Sign
sign_right N bytes i = sign_drawn (byte_right N bytes i) 60 62 i (i + 1)

abbrev pub sign_below : ℕ → List ℕ → ℕ → List Sign
sign_below N bytes i = sign_drawn (byte_below N bytes i) 94 118 i (i + N)

-- a cell's signs: first the one to its right
unfoldable pub drawn_signs : ℕ → List ℕ → ℕ → List Sign
drawn_signs N bytes i = sign_right N bytes i ++ sign_below N bytes i

-- the puzzle that a text draws, cell by cell in reading order
unfoldable pub drawn_puzzle : ℕ → List ℕ → Puzzle
drawn_puzzle N bytes = record {
  size = N;
  givens = flat_map (drawn_given N bytes) (up_to (N * N));
  claims = map (drawn_entry N bytes) (up_to (N * N));
  signs = flat_map (drawn_signs N bytes) (up_to (N * N));
}

-- a puzzle's records: its givens, its signs, its claims
abbrev pub puzzle_items : Puzzle → List Item
puzzle_items P = map Given P.givens ++ (map Less P.signs ++ map Claim P.claims)

-- its words: a board's, those of its records, the end word
abbrev pub puzzle_words : Puzzle → List ℕ
puzzle_words P = item_word (Board 1 P.size) ∷ (map item_word (puzzle_items P) ++ item_word End ∷ [])

-- the words of a given, a claim and a sign
abbrev pub given_word : Entry → ℕ
given_word e = item_word (Given e)

abbrev pub claim_word : Entry → ℕ
claim_word e = item_word (Claim e)

abbrev pub less_word : Sign → ℕ
less_word s = item_word (Less s)

-- the words of the puzzle that a text draws
abbrev pub drawn_words : ℕ → List ℕ → List ℕ
drawn_words N bytes = puzzle_words (drawn_puzzle N bytes)

-- the line and the column of a place, counted from 1; after the last place that is line 2N + 2, column 1
abbrev pub told_place : ℕ → ℕ → ℕ × ℕ
told_place N k = (k / line_width N + 1, k % line_width N + 1)

-- whether each place fits and the text has no more bytes
abbrev pub all_drawn : ℕ → List ℕ → Bool
all_drawn N bytes = nat_le (whole_length N) (first_unfit N bytes) && nat_le (length bytes) (whole_length N)

-- the answer to a text whose first line is that of side N: its words, or the first place that does not fit
abbrev pub side_answer : ℕ → List ℕ → Result (List ℕ) (ℕ × ℕ)
side_answer N bytes = cond (all_drawn N bytes) (Ok (drawn_words N bytes)) (Err (told_place N (first_unfit N bytes)))

-- the side that the first line is drawn for
abbrev pub drawn_side : List ℕ → ℕ
drawn_side bytes = first_line bytes / 4

-- the answer to a text: its words, or the line and the column where it is refused; a first line that is no side's is refused where it ends, or after its 38th character
unfoldable pub drawn_answer : List ℕ → Result (List ℕ) (ℕ × ℕ)
drawn_answer bytes = cond (line_of_side (first_line bytes)) (side_answer (drawn_side bytes) bytes) (Err (1, first_line bytes + 1))

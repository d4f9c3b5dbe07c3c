-- A board of side 2 as a text, and texts that are refused, as computed answers.
use Rattle.std.specs.Prelude.{◌≡◌, ℕ, List, [], ◌∷◌, ◌++◌, map, Ok, Err, codes, Result}
use Rattle.drawing.specs.Drawn.{drawn_answer, drawn_puzzle}
use Rattle.drawing.specs.Redrawn.{drawn_text}

-- a line with its line feed
abbrev pub lined : List ℕ → List ℕ → List ℕ
lined l rest = l ++ 10 ∷ rest

-- cell 1 holds less than cell 2, cell 2 more than cell 4, and cell 4 is given
abbrev pub sample_drawing : List ℕ
sample_drawing = lined (codes "+---+---+") (lined (codes "| 1 < 2 |") (lined (codes "+---+-v-+") (lined (codes "| 2 |[1]|") (lined (codes "+---+---+") []))))

abbrev pub sample_answer : List ℕ
sample_answer = 0x11020000 ∷ 0x20040100 ∷ 0x30010020 ∷ 0x30040020 ∷ 0x50010100 ∷ 0x50020200 ∷ 0x50030200 ∷ 0x50040100 ∷ 0xF0000000 ∷ []

-- no text; a line of no side; a line that does not end; a text that ends too soon; a sign at the border; a value above the side; a bracket that does not close; a sign below the last row; a text that goes on
abbrev pub refused_drawings : List (List ℕ)
refused_drawings =
    [] ∷ lined (codes "+---+") [] ∷ codes "+---+---+---+---+---+---+---+---+---+---+---+" ∷ codes "+---+---+"
    ∷ lined (codes "+---+---+") (codes "| 1 < 2 >")
    ∷ lined (codes "+---+---+") (codes "| 3 < 2 |")
    ∷ lined (codes "+---+---+") (codes "|[1 < 2 |")
    ∷ lined (codes "+---+---+") (lined (codes "| 1 < 2 |") (lined (codes "+---+---+") (lined (codes "| 2 |[1]|") (codes "+---+-^-+"))))
    ∷ (sample_drawing ++ 32 ∷ [])
    ∷ []

-- the line and the column of each
abbrev pub refused_places : List (Result (List ℕ) (ℕ × ℕ))
refused_places = Err (1, 1) ∷ Err (1, 6) ∷ Err (1, 39) ∷ Err (1, 10) ∷ Err (2, 9) ∷ Err (2, 3) ∷ Err (2, 4) ∷ Err (5, 7) ∷ Err (6, 1) ∷ []

pub record Sample : Type 0 where
  pub taken_sample : drawn_answer sample_drawing ≡ Ok sample_answer
  pub turned_away : map drawn_answer refused_drawings ≡ refused_places
  pub shown_again : drawn_text (drawn_puzzle 2 sample_drawing) ≡ sample_drawing

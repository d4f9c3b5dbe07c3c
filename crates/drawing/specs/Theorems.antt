-- What is proved of drawn boards.
use Rattle.std.specs.Prelude.{◌≡◌, ℕ, ◌<◌, ◌≤◌, true, ◌↔◌, List, length, is_ok, Ok, Err}
use Rattle.puzzle.specs.Reading.{Puzzle, Tables, read_list}
use Rattle.puzzle.specs.Accepted.{Sound, Accepted}
use Rattle.drawing.specs.declared.undrawn.Undrawn.{Undrawn}
use Rattle.drawing.specs.declared.undrawn.Undrawn.TheVariants.{At, Memory}
use Rattle.drawing.specs.Drawn.{whole_length, fits_place, drawn_puzzle, drawn_words, drawn_side, drawn_answer}
use Rattle.drawing.specs.Redrawn.{drawn_text}

-- a text draws a board of side N: each place fits, and it has no more bytes
pub record WellDrawn (N : ℕ) (bytes : List ℕ) : Type 0 where
  pub two_at_least : 2 ≤ N
  pub nine_at_most : N ≤ 9
  pub each_fits : (k : ℕ) → k < whole_length N → fits_place N bytes k ≡ true
  pub no_more : length bytes ≤ whole_length N

-- why no words came: the text is refused at this line and column, or it is well drawn and memory was short
abbrev pub RefusedAs : List ℕ → Undrawn → Type 0
RefusedAs bytes (At l c) = drawn_answer bytes ≡ Err (l, c)
RefusedAs bytes Memory = is_ok (drawn_answer bytes) ≡ true

-- the words of a drawn board are accepted, and give the puzzle that is drawn, wherever the tables have room for every puzzle
abbrev pub WordsAccepted : ℕ → List ℕ → Type 0
WordsAccepted N bytes = (t : Tables) → 81 ≤ t.for_givens → 81 ≤ t.for_claims → 162 ≤ t.for_signs → Accepted t (drawn_words N bytes) (drawn_puzzle N bytes)

-- so they are read, and give that puzzle
abbrev pub WordsRead : ℕ → List ℕ → Type 0
WordsRead N bytes = (t : Tables) → 81 ≤ t.for_givens → 81 ≤ t.for_claims → 162 ≤ t.for_signs → read_list t (drawn_words N bytes) ≡ Ok (drawn_puzzle N bytes)

-- what is known of every text
pub record DrawingStands (bytes : List ℕ) : Type 0 where
  -- words come exactly from a well-drawn text, and from its side alone
  pub taken_drawing : (ws : List ℕ) → (drawn_answer bytes ≡ Ok ws) ↔ (WellDrawn (drawn_side bytes) bytes × (ws ≡ drawn_words (drawn_side bytes) bytes))
  pub one_side : (N : ℕ) → WellDrawn N bytes → drawn_side bytes ≡ N
  pub words_accepted : (N : ℕ) → WellDrawn N bytes → WordsAccepted N bytes
  pub words_read : (N : ℕ) → WellDrawn N bytes → WordsRead N bytes

-- what is known of the texts that are drawn
pub record DrawsRight : Type 0 where
  -- from what a well-drawn text draws the same text is drawn again
  pub drawn_again : (N : ℕ) (bytes : List ℕ) → WellDrawn N bytes → drawn_text (drawn_puzzle N bytes) ≡ bytes
  -- the text of a sound puzzle is well drawn
  pub drawn_well : (P : Puzzle) → Sound P → WellDrawn P.size (drawn_text P)

-- The sample board's words, and lists that are refused, as computed lists.
use Rattle.std.specs.Prelude.{◌≡◌, ℕ, List, [], ◌∷◌, map, length, negsuc, Ok, Err}
use Rattle.cnf.specs.declared.fault.Fault.TheVariants.{WordForm, BoardWord, OutOfRange, KeyPresent, NoSideShared, EndWord, ClaimMissing, TableFull}
use Rattle.cnf.specs.Told.{clause_at}
use Rattle.words.specs.Bytes.{words_in}
use Rattle.puzzle.specs.Reading.{Puzzle, Tables, Verdict, read_list}
use Rattle.puzzle.specs.Meaning.{puzzle_variables, puzzle_listing, claimed_filling, claim_bytes}

-- two by two, cell 1 less than cell 2
abbrev pub sample_words : List ℕ
sample_words = 0x11020000 ∷ 0x30010020 ∷ 0x50010100 ∷ 0x50020200 ∷ 0x50030200 ∷ 0x50040100 ∷ 0xF0000000 ∷ []

abbrev pub sample_puzzle : Puzzle
sample_puzzle = record {
  size = 2;
  givens = [];
  claims = record { cell = 1; value = 1 } ∷ record { cell = 2; value = 2 } ∷ record { cell = 3; value = 2 } ∷ record { cell = 4; value = 1 } ∷ [];
  signs = record { lesser = 1; greater = 2 } ∷ [];
}

-- tables with room for two givens, four claims and one sign
abbrev pub small_tables : Tables
small_tables = record { for_givens = 2; for_claims = 4; for_signs = 1 }

-- lists that are refused
abbrev pub refused_lists : List (List ℕ)
refused_lists =
    [] ∷ (0x11020000 ∷ []) ∷ (0x41020000 ∷ []) ∷ (0x11020001 ∷ []) ∷ (0x12020000 ∷ []) ∷ (0x110A0000 ∷ []) ∷ (0x20010100 ∷ [])
    ∷ (0x11020000 ∷ 0x11020000 ∷ []) ∷ (0x11020000 ∷ 0x20050100 ∷ []) ∷ (0x11020000 ∷ 0x20010300 ∷ []) ∷ (0x11020000 ∷ 0x2FFFC800 ∷ []) ∷ (0x11020000 ∷ 0x20010101 ∷ [])
    ∷ (0x11020000 ∷ 0x20010100 ∷ 0x20010100 ∷ []) ∷ (0x11020000 ∷ 0x30010020 ∷ 0x30020010 ∷ []) ∷ (0x11020000 ∷ 0x30020030 ∷ []) ∷ (0x11020000 ∷ 0x30010010 ∷ [])
    ∷ (0x11020000 ∷ 0xF0000000 ∷ []) ∷ (0x11020000 ∷ 0x30010020 ∷ 0x30030040 ∷ [])
    ∷ (0x11020000 ∷ 0x50010100 ∷ 0x50020200 ∷ 0x50030200 ∷ 0x50040100 ∷ 0xF0000000 ∷ 0x20010100 ∷ [])
    ∷ (0x11020000 ∷ 0x50010100 ∷ 0x50020200 ∷ 0x50030200 ∷ 0x50040100 ∷ 0xF0000000 ∷ 0x50010100 ∷ [])
    ∷ words_in (0 ∷ 0 ∷ 2 ∷ 17 ∷ 0 ∷ [])
    ∷ []

-- their faults, in order
abbrev pub refusals : List Verdict
refusals =
    Err (EndWord 1) ∷ Err (EndWord 2) ∷ Err (WordForm 1) ∷ Err (WordForm 1) ∷ Err (BoardWord 1) ∷ Err (BoardWord 1) ∷ Err (BoardWord 1)
    ∷ Err (BoardWord 2) ∷ Err (OutOfRange 2) ∷ Err (OutOfRange 2) ∷ Err (OutOfRange 2) ∷ Err (WordForm 2)
    ∷ Err (KeyPresent 3) ∷ Err (KeyPresent 3) ∷ Err (NoSideShared 2) ∷ Err (NoSideShared 2)
    ∷ Err (ClaimMissing 2) ∷ Err (TableFull 3)
    ∷ Err (EndWord 7)
    ∷ Err (KeyPresent 7)
    ∷ Err (WordForm 2)
    ∷ []

pub record Sample : Type 0 where
  pub read : read_list small_tables sample_words ≡ Ok sample_puzzle
  pub eight_variables : puzzle_variables sample_puzzle ≡ 8
  pub nineteen_clauses : length (puzzle_listing sample_puzzle) ≡ 19
  pub eighteenth : clause_at (puzzle_listing sample_puzzle) 18 ≡ negsuc 1 ∷ negsuc 2 ∷ []
  pub filled : claimed_filling 2 sample_puzzle.claims ≡ 1 ∷ 2 ∷ 2 ∷ 1 ∷ []
  pub bytes_claimed : claim_bytes 2 sample_puzzle.claims ≡ 1 ∷ 0 ∷ 0 ∷ 1 ∷ 0 ∷ 1 ∷ 1 ∷ 0 ∷ []
  pub turned_away : map (read_list small_tables) refused_lists ≡ refusals

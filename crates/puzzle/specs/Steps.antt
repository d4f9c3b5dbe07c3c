-- What registers hold of a puzzle, and the tests of a record and of the end word, those left out that it always passes.
use Rattle.std.specs.Prelude.{◌≡◌, ℕ, ◌*◌, Bool, cond, not, List, Ok, Err, Result, nat_lt}
use Rattle.cnf.specs.declared.fault.Fault.{Fault}
use Rattle.cnf.specs.declared.fault.Fault.TheVariants.{BoardWord, OutOfRange, KeyPresent, NoSideShared, EndWord, ClaimMissing, TableFull}
use Rattle.cnf.specs.Faults.{Answer, accepted, ◌then◌, check_for}
use Rattle.futoshiki.specs.declared.side.Side.{Side}
use Rattle.futoshiki.specs.Board.{up_to}
use Rattle.register.specs.declared.register.Register.{Register}
use Rattle.register.specs.Held.{records_in, slots_in}
use Rattle.words.specs.declared.entry.Entry.{Entry}
use Rattle.words.specs.declared.item.Item.{Item}
use Rattle.puzzle.specs.declared.registers.Registers.{Registers}
use Rattle.puzzle.specs.Filled.{givens_left, claims_left, signs_left, entries_filled, signs_filled}
use Rattle.puzzle.specs.Reading.{Puzzle, Tables, State, Verdict, blank_board, opens, side_in, all_claimed}

-- the puzzle of side N whose records the registers hold
abbrev pub puzzle_held : ℕ → Registers → Puzzle
puzzle_held N r = record { size = N; givens = records_in r.givens.now; claims = records_in r.claims.now; signs = records_in r.signs.now }

-- what has been read, as they hold it
abbrev pub state_held : ℕ → Bool → Registers → State
state_held N ended r = record { so_far = puzzle_held N r; after_end = ended }

-- how many records their tables take
abbrev pub tables_held : Registers → Tables
tables_held r = record { for_givens = slots_in r.givens.now; for_claims = slots_in r.claims.now; for_signs = slots_in r.signs.now }

-- the answer to a list, from that of its words and the puzzle that is held then
abbrev pub verdict_of : Answer → Puzzle → Verdict
verdict_of (Ok x) P = Ok P
verdict_of (Err f) P = Err f

-- the same, from the answer that tells the board's side
abbrev pub verdict_with : Result Side Fault → Registers → Verdict
verdict_with (Ok n) r = Ok (puzzle_held n.n r)
verdict_with (Err f) r = Err f

-- what a first word tells: a board's side, or that it opens none
abbrev pub side_told : Item → Result ℕ Fault
side_told it = cond (opens it) (Ok (side_in it)) (Err (BoardWord 1))

-- the tests of a record at place p: whether it is in range, whether its key is there, whether its cells share a side, and whether its table, with n of its slots used, has one more
abbrev pub record_answer : Bool → Bool → Bool → Bool → ℕ → ℕ → ℕ → Answer
record_answer ranged there sided ended p n slots_there =
    check_for ranged (OutOfRange p) then check_for (not there) (KeyPresent p) then check_for sided (NoSideShared p) then check_for (not ended) (EndWord p) then check_for (nat_lt n slots_there) (TableFull p) then accepted

-- the tests of the end word
abbrev pub end_answer : ℕ → Bool → ℕ → List Entry → Answer
end_answer N ended p es = check_for (not ended) (EndWord p) then check_for (all_claimed es (up_to (N * N))) (ClaimMissing p) then accepted

-- a register over a table of the same length, blank in the same way
pub record SameTable {X : Type 0} (before after : Register X) : Type 0 where
  pub slots_same : slots_in after ≡ slots_in before
  pub blank_same : after.blank ≡ before.blank

-- the same three registers, over the same slots
pub record SameSlots (before after : Registers) : Type 0 where
  pub givens : after.givens.ghost_name ≡ before.givens.ghost_name
  pub claims : after.claims.ghost_name ≡ before.claims.ghost_name
  pub signs : after.signs.ghost_name ≡ before.signs.ghost_name
  pub given_slots : after.givens.now.slots.ghost_name ≡ before.givens.now.slots.ghost_name
  pub claim_slots : after.claims.now.slots.ghost_name ≡ before.claims.now.slots.ghost_name
  pub sign_slots : after.signs.now.slots.ghost_name ≡ before.signs.now.slots.ghost_name

-- the same registers, over tables of the same lengths, blank in the same way
pub record SameTables (before after : Registers) : Type 0 where
  pub givens : SameTable before.givens.now after.givens.now
  pub claims : SameTable before.claims.now after.claims.now
  pub signs : SameTable before.signs.now after.signs.now
  pub same : SameSlots before after

-- registers without a record, over tables whose slots are all zero
pub record Empty (r : Registers) : Type 0 where
  pub held : puzzle_held 0 r ≡ blank_board 0
  pub givens : r.givens.now.blank ≡ record { cell = 0; value = 0 }
  pub claims : r.claims.now.blank ≡ record { cell = 0; value = 0 }
  pub signs : r.signs.now.blank ≡ record { lesser = 0; greater = 0 }

-- what a list leaves in the tables of empty registers
pub record Leaves (v : Verdict) (before after : Registers) : Type 0 where
  pub givens : after.givens.now.slots.now ≡ entries_filled (slots_in before.givens.now) (givens_left v)
  pub claims : after.claims.now.slots.now ≡ entries_filled (slots_in before.claims.now) (claims_left v)
  pub signs : after.signs.now.slots.now ≡ signs_filled (slots_in before.signs.now) (signs_left v)

-- What reading a list answers, and what it leaves in the caller's tables.
use Rattle.std.specs.Prelude.{ℕ, List, [], length, Ok, Err, Result}
use Rattle.cnf.specs.declared.fault.Fault.{Fault}
use Rattle.futoshiki.specs.declared.sign.Sign.{Sign}
use Rattle.register.specs.Held.{laid_out}
use Rattle.words.specs.declared.entry.Entry.{Entry}
use Rattle.puzzle.specs.declared.taken.Taken.{Taken}
use Rattle.puzzle.specs.Reading.{Tables, Verdict}

-- the caller's tables, by their lengths
abbrev pub tables_lent : List Entry → List Entry → List Sign → Tables
tables_lent g c s = record { for_givens = length g; for_claims = length c; for_signs = length s }

-- the side and the numbers of records of a taken list, or its fault
abbrev pub counted : Verdict → Result Taken Fault
counted (Ok P) = Ok (record { side = P.size; given_count = length P.givens; claim_count = length P.claims; sign_count = length P.signs })
counted (Err f) = Err f

-- the records that a list leaves in a register: none where it is refused
abbrev pub givens_left : Verdict → List Entry
givens_left (Ok P) = P.givens
givens_left (Err f) = []

abbrev pub claims_left : Verdict → List Entry
claims_left (Ok P) = P.claims
claims_left (Err f) = []

abbrev pub signs_left : Verdict → List Sign
signs_left (Ok P) = P.signs
signs_left (Err f) = []

-- a table of entries, the records first and then blank slots, all zero
abbrev pub entries_filled : ℕ → List Entry → List Entry
entries_filled slots_there es = laid_out (record { cell = 0; value = 0 }) slots_there es

-- the same of signs
abbrev pub signs_filled : ℕ → List Sign → List Sign
signs_filled slots_there ss = laid_out (record { lesser = 0; greater = 0 }) slots_there ss

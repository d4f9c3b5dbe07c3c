-- Every fault by its cause, with its number, its two places and its text; and the answers of checks.
use Rattle.std.specs.Prelude.{ℕ, Bool, cond, List, ◌++◌, Ok, Err, Result, codes, decimal}
use Rattle.cnf.specs.declared.fault.Fault.{Fault}
use Rattle.cnf.specs.declared.fault.Fault.TheVariants.{WordForm, BoardWord, OutOfRange, KeyPresent, NoSideShared, EndWord, ClaimMissing, TableFull, FixFull, Unlawful, ClaimForm, ClaimFalse, TooManyBytes, IdHeld, TooLong, NoRoom, NotHeld}

-- a fault's number, and its two places
abbrev pub fault_row : Fault → ℕ × (ℕ × ℕ)
fault_row (WordForm p) = (1, (p, 0))
fault_row (BoardWord p) = (2, (p, 0))
fault_row (OutOfRange p) = (3, (p, 0))
fault_row (KeyPresent p) = (4, (p, 0))
fault_row (NoSideShared p) = (5, (p, 0))
fault_row (EndWord p) = (6, (p, 0))
fault_row (ClaimMissing p) = (7, (p, 0))
fault_row (TableFull p) = (21, (p, 0))
fault_row FixFull = (22, (129, 0))
fault_row (Unlawful k) = (31, (k, 0))
fault_row (ClaimForm p) = (32, (p, 0))
fault_row (ClaimFalse k) = (33, (k, 0))
fault_row TooManyBytes = (53, (0, 0))
fault_row IdHeld = (61, (0, 0))
fault_row TooLong = (62, (0, 0))
fault_row NoRoom = (63, (0, 0))
fault_row NotHeld = (64, (0, 0))

-- a fault as it is printed: a word, then its number and its two places in decimal, each after a blank
abbrev pub fault_text : Fault → List ℕ
fault_text f = codes "refused " ++ (decimal (fault_row f).0 ++ (codes " " ++ (decimal (fault_row f).1.0 ++ (codes " " ++ decimal (fault_row f).1.1))))

-- the answer of a check or a call: taken, or refused with a fault
abbrev pub Answer : Type 0
Answer = Result (Unit {0}) Fault

abbrev pub accepted : Answer
accepted = Ok tt

-- one check after another: the first refusal stands
abbrev pub ◌then◌ : Answer → Answer → Answer
(Ok x) then b = b
(Err f) then b = Err f

infixr 20 ◌then◌
-- a test that must pass, with the fault that it refuses with
abbrev pub check_for : Bool → Fault → Answer
check_for passed f = cond passed accepted (Err f)

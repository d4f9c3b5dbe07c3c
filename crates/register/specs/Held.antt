-- What a register holds, and what it answers.
use Rattle.std.specs.Prelude.{◌≡◌, ℕ, ◌-◌, Bool, cond, List, ◌++◌, length, take, replicate, Ok, Err, Result, ◌==◌}
use Rattle.register.specs.declared.refusal.Refusal.{Refusal}
use Rattle.register.specs.declared.refusal.Refusal.TheVariants.{Present, Full}
use Rattle.register.specs.declared.register.Register.{Register}

-- the records of a register, in order of arrival
abbrev pub records_in : {X : Type 0} → Register X → List X
records_in s = take s.used s.slots.now

-- how many slots its table has
abbrev pub slots_in : {X : Type 0} → Register X → ℕ
slots_in s = length s.slots.now

-- a table of so many slots that holds some records from its start, and is blank after them
abbrev pub laid_out : {X : Type 0} → X → ℕ → List X → List X
laid_out blank_slot slots_there xs = xs ++ replicate (slots_there - length xs) blank_slot

-- the table of a register holds its records, and is blank after them
abbrev pub LaidOut : {X : Type 0} → Register X → Type 0
LaidOut s = s.slots.now ≡ laid_out s.blank (slots_in s) (records_in s)

-- what an insertion answers, from whether the key is there, the number of records and that of slots: the key comes first
abbrev pub insert_answer : Bool → ℕ → ℕ → Result (Unit {0}) Refusal
insert_answer there n slots_there = cond there (Err Present) (cond (n == slots_there) (Err Full) (Ok tt))

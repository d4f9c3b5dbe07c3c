-- A store's meaning: a table from ids to clauses, kept with the ids ascending, so that tables that hold the same are equal.
use Rattle.std.specs.Prelude.{ℕ, suc, ◌+◌, ◌-◌, ◌/◌, ◌≤◌, max, Bool, true, false, cond, not, List, [], ◌∷◌, ◌++◌, length, take, drop, ℤ, pos, Some, None, Ok, Err, Option, ◌==◌, nat_le, nat_lt, slice_index_or}
use Rattle.cnf.specs.declared.fault.Fault.TheVariants.{IdHeld, TooLong, NoRoom, NotHeld}
use Rattle.cnf.specs.Formula.{Clause}
use Rattle.cnf.specs.Faults.{Answer, ◌then◌, check_for}

-- the fixed numbers of a kind of store: literals to a unit, units, the longest clause
pub record Kind : Type 0 where
  pub unit_size : ℕ
  pub units : ℕ
  pub longest : ℕ

-- a table: ids with their clauses
abbrev pub Table : Type 0
Table = List (ℕ × Clause)

-- a quotient, rounded up
abbrev pub ceil_div : ℕ → ℕ → ℕ
ceil_div a u = (a + (u - 1)) / u

-- what a clause costs: its length divided by the unit, rounded up, and at least one unit
unfoldable pub cost : Kind → Clause → ℕ
cost k c = max 1 (ceil_div (length c) k.unit_size)

-- what a table's clauses cost
unfoldable pub costs : Kind → Table → ℕ
costs k [] = 0
costs k (e ∷ t) = cost k e.1 + costs k t

-- the units that are left
unfoldable pub free_units : Kind → Table → ℕ
free_units k t = k.units - costs k t

-- the clause under an id
unfoldable pub lookup : ℕ → Table → Option Clause
lookup i [] = None
lookup i (e ∷ t) = cond (i == e.0) (Some e.1) (lookup i t)

-- the table with one more entry, in its place
unfoldable pub insert : ℕ → Clause → Table → Table
insert i c [] = (i, c) ∷ []
insert i c (e ∷ t) = cond (nat_lt i e.0) ((i, c) ∷ e ∷ t) (e ∷ insert i c t)

-- the table without an id
unfoldable pub erase : ℕ → Table → Table
erase i [] = []
erase i (e ∷ t) = cond (i == e.0) t (e ∷ erase i t)

-- the ids ascend, from b on
abbrev pub Ascending : ℕ → Table → Type 0
Ascending b [] = Unit {0}
Ascending b (e ∷ t) = (b ≤ e.0) × Ascending (suc e.0) t

-- whether there is a clause
abbrev pub is_there : Option Clause → Bool
is_there None = false
is_there (Some c) = true

-- what put answers: the id is held, then the clause is too long, then too few units are free
unfoldable pub put_answer : Kind → Table → ℕ → Clause → Answer
put_answer k t i c =
    check_for (not (is_there (lookup i t))) IdHeld then
    check_for (nat_le (length c) k.longest) TooLong then
    check_for (nat_le (cost k c) (free_units k t)) NoRoom

-- what remove answers
unfoldable pub remove_answer : Table → ℕ → Answer
remove_answer t i = check_for (is_there (lookup i t)) NotHeld

-- what a call leaves: a refusal alters nothing
abbrev pub settled : Answer → Table → Table → Table
settled (Ok x) new old = new
settled (Err f) new old = old

-- the length of a clause that may be absent
abbrev pub length_in : Option Clause → Option ℕ
length_in None = None
length_in (Some c) = Some (length c)

-- literal j of a clause that may be absent, counted from 1; 0 where there is none
abbrev pub literal_in : ℕ → Option Clause → ℤ
literal_in j None = pos 0
literal_in j (Some c) = cond (j == 0) (pos 0) (slice_index_or c (j - 1) (pos 0))

-- a list with the first literals of a clause that may be absent written over its beginning
abbrev pub read_over : Option Clause → Clause → Clause
read_over None xs = xs
read_over (Some c) xs = take (length xs) c ++ drop (length c) xs

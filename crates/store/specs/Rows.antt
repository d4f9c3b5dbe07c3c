-- Entries that hold their clause in place: the rows that they stand for, and the place of an id among the rows.
use Rattle.std.specs.Prelude.{◌≡◌, ℕ, suc, ◌<◌, ◌≤◌, Bool, true, cond, ◌&&◌, List, [], ◌∷◌, map, length, None, Ok, Err, Option, Result, MatchOption, nat_le, nat_lt, slice_index_or}
use Rattle.cnf.specs.declared.literal.Literal.{Literal}
use Rattle.cnf.specs.Formula.{Clause}
use Rattle.cnf.specs.Tabled.{numbers_of}
use Rattle.store.specs.declared.entry.Entry.{Entry}
use Rattle.store.specs.Tables.{Kind, Table, lookup}

-- the flat store's kind: 32 literals to a unit, 64 units, and no clause longer than a unit
abbrev pub flat_kind : Kind
flat_kind = record { unit_size = 32; units = 64; longest = 32 }

-- the clause in an entry
abbrev pub clause_of : Entry → Clause
clause_of e = numbers_of e.literals.items

-- the row that an entry stands for
abbrev pub row_of : Entry → ℕ × Clause
row_of e = (e.id, clause_of e)

-- the table that entries stand for
abbrev pub rows_of : List Entry → Table
rows_of es = map row_of es

-- whether ids ascend, from b on
abbrev pub ids_ascend : ℕ → Table → Bool
ids_ascend b [] = true
ids_ascend b (e ∷ t) = nat_le b e.0 && ids_ascend (suc e.0) t

-- the number of rows before the first whose id is not less
abbrev pub place_in : ℕ → Table → ℕ
place_in i [] = 0
place_in i (e ∷ t) = cond (nat_lt e.0 i) (suc (place_in i t)) 0

-- a search has found where an id stands, or that it is not held and where it would stand
abbrev pub FoundPlace : ℕ → List Entry → Result ℕ ℕ → Type 0
FoundPlace i es (Ok p) = (p ≡ place_in i (rows_of es)) × (p < length es) × ((d : Entry) → (slice_index_or es p d).id ≡ i)
FoundPlace i es (Err p) = (p ≡ place_in i (rows_of es)) × (p ≤ length es) × (lookup i (rows_of es) ≡ None)

-- an entry made of an id and literals: none where these are too many
abbrev pub MadeOf : ℕ → List Literal → Option Entry → Type 0
MadeOf i ls made = MatchOption made (32 < length ls) (λ e. (length ls ≤ 32) × (row_of e ≡ (i, numbers_of ls)))

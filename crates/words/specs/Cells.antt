-- The cell that an entry speaks of, as a register compares it.
use Rattle.std.specs.Prelude.{ℕ}
use Rattle.words.specs.declared.entry.Entry.{Entry}

-- the key of a given or a claim is its cell
abbrev pub entry_key : Entry → ℕ
entry_key e = e.cell

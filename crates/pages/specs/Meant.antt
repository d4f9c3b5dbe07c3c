-- The table that a paged store means.
use Rattle.std.specs.Prelude.{ℕ, vec_items, slice_index_or}
use Rattle.cnf.specs.Formula.{Clause}
use Rattle.store.specs.Tables.{Table}
use Rattle.pages.specs.declared.paged.PagedStore.{PagedStore}
use Rattle.pages.specs.Chained.{no_entry, entry_clause, table_of}

-- the directory's ids, each with the numbers along its chain
abbrev pub paged_table : PagedStore → Table
paged_table s = table_of s.pages (vec_items s.directory)

-- the clause at a place of the directory
abbrev pub clause_held : PagedStore → ℕ → Clause
clause_held s at = entry_clause s.pages (slice_index_or (vec_items s.directory) at no_entry)

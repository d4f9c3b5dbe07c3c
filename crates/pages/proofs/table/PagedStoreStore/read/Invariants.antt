use Rattle.std.proofs.Common.{◌≡◌, ◌*◌, min}
use lib.Seq.{paste}
use Rattle.cnf.specs.Tabled.{numbers_of}
use Rattle.pages.specs.Chained.{page_after, entry_clause}
use Rattle.pages.proofs.table.PagedStoreStore.read.Given as goal

abbrev pub invariant-loop-i : goal.invariant-loop-i
invariant-loop-i l =
    (l.p ≡ page_after l.self.pages l.i l.e.head)
    × (numbers_of l.into ≡ paste (numbers_of l.initial.into) 0 (entry_clause l.self.pages l.e) (min l.n (8 * l.i)))

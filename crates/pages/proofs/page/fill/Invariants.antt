use Rattle.std.proofs.Common.{◌≡◌, ℕ, ◌*◌, ◌/◌, ◌%◌, ◌<◌, length, get_or}
use Rattle.cnf.specs.Tabled.{no_literal}
use Rattle.pages.specs.Chained.{no_page, page_after, page_chain, times_in, FullPages}
use Rattle.pages.specs.Chains.{SameLinks}
use Rattle.pages.proofs.page.fill.Given as goal

abbrev pub invariant-loop-i : goal.invariant-loop-i
invariant-loop-i l =
    (length l.pages ≡ 1024)
    × (l.p ≡ page_after l.initial.pages l.i l.head)
    × SameLinks l.initial.pages l.pages
    × FullPages l.pages 1024
    × ((k : ℕ) → times_in k (page_chain l.initial.pages l.need l.head) ≡ 0 → get_or l.pages k no_page ≡ get_or l.initial.pages k no_page)
    × ((q : ℕ) → q < 8 * l.i → q < length l.literals → get_or (get_or l.pages (page_after l.initial.pages (q / 8) l.head) no_page).literals (q % 8) no_literal ≡ get_or l.literals q no_literal)

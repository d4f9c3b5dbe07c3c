use Rattle.std.proofs.Common.{◌≡◌}
use Rattle.pages.specs.Chained.{page_after}
use Rattle.pages.proofs.page.walk.Given as goal

abbrev pub invariant-loop : goal.invariant-loop
invariant-loop l = l.p ≡ page_after l.pages l.counter l.head

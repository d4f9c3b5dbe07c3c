use Rattle.std.proofs.Common.{rules}
use Rattle.pages.specs.Chained.{no_page}
use Rattle.pages.proofs.page.all_pages.Goals as goal

pub returns-clause-linked : goal.returns-clause-linked
returns-clause-linked c k l = let made = c.from_fn.ensures.items.at k no_page l in search rules

pub returns-clause-full : goal.returns-clause-full
returns-clause-full c k l = let made = c.from_fn.ensures.items.at k no_page l in search rules

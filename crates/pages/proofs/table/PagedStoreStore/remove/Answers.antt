use Rattle.std.proofs.Common.{◌∙◌, vec_items, sym, rules}
use Rattle.store.proofs.Lawful.{remove_held, remove_absent}
use Rattle.pages.specs.Chained.{HeldAt}
use Rattle.pages.specs.Places.{erase_held}
use Rattle.pages.proofs.table.PagedStoreStore.remove.Goals as goal

pub returns-in_err-at-clause-answer : goal.returns-in_err-at-clause-answer
returns-in_err-at-clause-answer c = search (rules, remove_absent)

pub returns-clause-answer : goal.returns-clause-answer
returns-clause-answer c = search (rules, remove_held)

pub returns-clause-after : goal.returns-clause-after
returns-clause-after c =
    let s = c.args.self.now in
    let held : HeldAt (vec_items s.directory) c.args.id.0 c.in_ok-at.at = search rules in
    c.release.ensures ∙ sym (erase_held s.pages (vec_items s.directory) c.args.id.0 c.in_ok-at.at held)

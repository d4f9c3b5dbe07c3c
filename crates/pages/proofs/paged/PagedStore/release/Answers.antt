use Rattle.std.proofs.Common.{◌+◌, ◌-◌, ◌<◌, length, get_or, set, vec_items, sym, ap, ◌∙◌, subst, arith, rules}
use Rattle.std.proofs.lemmas.List.{get_or_read}
use Rattle.pages.specs.Chained.{no_page, no_entry, table_of}
use Rattle.pages.specs.Chains.{chain_front}
use Rattle.pages.specs.Owners.{entry_inside}
use Rattle.pages.proofs.Keeps.{Kept, page_with, kept_released, table_released}
use Rattle.pages.proofs.paged.PagedStore.release.Goals as goal

pub walk-last-requires : goal.walk-last-requires
walk-last-requires c =
    let s = c.args.self.now in
    let es = vec_items s.directory in
    let at = c.args.at in
    let e = c.remove-e.result in
    let is = get_or_read es at e c.requires c.remove-e.ensures.value no_entry in
    let o = e.fitting in
    chain_front s.pages (e.pages - 1 + 1) e.pages e.head 1024 (omega arith) (entry_inside s.pages s.first s.spare es at c.requires e is 1024 s.none)

pub invariant_of-self : goal.invariant_of-self
invariant_of-self c =
    let s = c.args.self.now in
    let es = vec_items s.directory in
    let e = c.remove-e.result in
    let is = get_or_read es c.args.at e c.requires c.remove-e.ensures.value no_entry in
    let last = c.walk-last.result in
    let b = c.walk-last.ensures.below in
    let room : last < length s.pages = search rules in
    let kept : Kept s.pages s.first s.spare es = record { all = s.all; one = s.one; none = s.none; full = s.full; order = s.order } in
    let qs = set s.pages last (page_with s.first (get_or s.pages last no_page).literals) in
    let after = kept_released s.pages s.first s.spare es c.args.at last c.requires e kept is c.walk-last.ensures.is b room in
    let now = subst (Kept qs e.head (s.spare + e.pages)) (sym c.remove-e.ensures.items) after in
    record {
      room = omega (arith, s.room, c.remove-e.ensures.capacity);
      all = now.all;
      one = now.one;
      none = now.none;
      full = now.full;
      order = now.order;
    }

pub returns : goal.returns
returns c =
    let s = c.args.self.now in
    let es = vec_items s.directory in
    let e = c.remove-e.result in
    let is = get_or_read es c.args.at e c.requires c.remove-e.ensures.value no_entry in
    let last = c.walk-last.result in
    let b = c.walk-last.ensures.below in
    let room : last < length s.pages = search rules in
    let kept : Kept s.pages s.first s.spare es = record { all = s.all; one = s.one; none = s.none; full = s.full; order = s.order } in
    ap (table_of (set s.pages last (page_with s.first (get_or s.pages last no_page).literals))) c.remove-e.ensures.items
    ∙ table_released s.pages s.first s.spare es c.args.at last c.requires e kept is c.walk-last.ensures.is b room

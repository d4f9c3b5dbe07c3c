use Rattle.std.proofs.Common.{◌≡◌, ℕ, ◌<◌, ◌≤◌, length, Some, vec_items, sym, ap, ◌∙◌, rules}
use Rattle.std.proofs.lemmas.List.{get_or_read}
use Rattle.store.specs.Tables.{lookup}
use Rattle.pages.specs.Chained.{no_entry, page_chain, times_in, entry_clause}
use Rattle.pages.specs.Meant.{paged_table, clause_held}
use Rattle.pages.specs.Numbers.{full_on, clause_length}
use Rattle.pages.specs.Owners.{entry_inside}
use Rattle.pages.proofs.paged.PagedStore.entry.Goals as goal

pub returns : goal.returns
returns c =
    let s = c.args.self.now in
    let es = vec_items s.directory in
    let at = c.in_ok-at.at in
    let e = c.index.result.now in
    let in' : at < length es = search rules in
    let is = get_or_read es at e in' c.index.ensures no_entry in
    let held : lookup c.args.id (paged_table s) ≡ Some (clause_held s at) = search rules in
    let inside : (k : ℕ) → 1024 ≤ k → times_in k (page_chain s.pages e.pages e.head) ≡ 0 = entry_inside s.pages s.first s.spare es at in' e is 1024 s.none in
    record {
      clause = held ∙ ap (λ x. Some (entry_clause s.pages x)) (sym is);
      size = clause_length s.pages e (full_on s.pages e.pages e.head 1024 s.full inside);
      inside = inside;
    }

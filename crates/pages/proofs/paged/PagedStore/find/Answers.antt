use Rattle.std.proofs.Common.{◌≡◌, ℕ, ◌≤◌, List, length, Ok, Err, Result, MatchResult, vec_items, sym, ap, arith, rules}
use Rattle.std.specs.List.Sorted.{IsSearchInRange, IsBinarySearchResult, IsNonDecreasingBy}
use Rattle.std.specs.Ordering.{nat_cmp, ordering_index}
use Rattle.std.proofs.lemmas.Cmp.{ranked}
use Rattle.std.proofs.lemmas.List.Sorted.{IsNonDecreasingBy-from_default, answers_always}
use Rattle.std.proofs.lemmas.Bool.Decides.{nat_tests}
use Rattle.std.proofs.lemmas.Result.{MatchResult-weaker}
use Rattle.pages.specs.declared.entry.Entry.{Entry}
use Rattle.pages.specs.Chained.{no_entry, id_at, RisingIds, HeldAt, GapAt}
use Rattle.pages.specs.Places.{lookup_held, lookup_gap}
use Rattle.pages.proofs.paged.PagedStore.find.Goals as goal

module _ (es : List Entry) (up : RisingIds es) (i : ℕ) where
  -- the comparisons with an id rise along the directory
  comparisons_rise : IsNonDecreasingBy (λ e. ordering_index (nat_cmp e.id i)) es
  comparisons_rise = IsNonDecreasingBy-from_default (λ e. ordering_index (nat_cmp e.id i)) es no_entry (λ j k le l.
      let rise : id_at es j ≤ id_at es k = grind (arith, up j k, λ (same : j ≡ k). ap (id_at es) same) in
      grind (arith, nat_tests))

  -- a binary search ends at the id, or at the gap for it
  searched : (r : Result ℕ ℕ) → IsSearchInRange r (length es) → IsBinarySearchResult (λ e. nat_cmp e.id i) es r → MatchResult r (HeldAt es i) (GapAt es i)
  searched (Ok at) inside equal =
      let is : id_at es at ≡ i = ranked _ i _ (sym (equal no_entry)) in
      record { inside = inside; is = is; before = λ k l. omega (arith, up k at l inside) }
  searched (Err at) within parted = record {
    within = within;
    before = λ k l. ranked _ i _ (sym ((parted comparisons_rise).0 k no_entry (omega arith) l));
    after = λ k le l. ranked _ i _ (sym ((parted comparisons_rise).1 k no_entry le l));
  }

pub returns : goal.returns
returns c =
    let s = c.args.self.now in
    let es = vec_items s.directory in
    let facts = c.binary_search_by_key.ensures in
    let by_key = facts.position (λ e. e.id) (answers_always _ _ _ (λ f a r g called. search rules)) in
    let place : MatchResult c.binary_search_by_key.result (HeldAt es c.args.id) (GapAt es c.args.id) =
    rw (← c.deref.ensures.value) (searched c.deref.result.now (rw c.deref.ensures.value s.order) c.args.id c.binary_search_by_key.result facts.bound by_key) in
    record { place = place; clause = MatchResult-weaker c.binary_search_by_key.result place (lookup_held s.pages es c.args.id) (lookup_gap s.pages es c.args.id) }

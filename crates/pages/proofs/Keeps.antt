-- The store's invariant over plain lists, kept by a clause that enters and by one that leaves.
use Rattle.std.proofs.Common.{◌≡◌, ℕ, ◌+◌, ◌-◌, ◌*◌, ◌<◌, ◌≤◌, List, length, get_or, take, set, sym, refl, ap, ◌∙◌, subst, arith}
use Rattle.std.specs.List.{insert as inserted, remove}
use Rattle.cnf.specs.declared.literal.Literal.{Literal}
use Rattle.cnf.specs.Tabled.{numbers_of}
use Rattle.store.specs.Tables.{insert}
use Rattle.pages.specs.declared.page.Page.{Page}
use Rattle.pages.specs.declared.entry.Entry.{Entry}
use Rattle.pages.specs.Chained.{no_page, no_entry, page_after, times_in, owner_count, page_total, chain_numbers, table_of, FullPages, RisingIds, GapAt}
use Rattle.pages.specs.Sizes.{pages_for}
use Rattle.pages.specs.Chains.{SameLinks, chain_links, full_set}
use Rattle.pages.specs.Numbers.{full_on, written}
use Rattle.pages.specs.Places.{few_entries, rising_inserted, entered_table, rising_removed, removed_table}
use Rattle.pages.specs.Fills.{HoldsFirst, OthersSame}
use Rattle.pages.specs.Owners.{owners_le, free_inside, agree_held, table_same, entered, entered_total, released, released_total, agree_left}

-- a page of these parts
abbrev pub page_with : ℕ → List Literal → Page
page_with n ls = record { next = n; literals = ls }

-- what the ghost fields after the first say, over plain lists
pub record Kept (ps : List Page) (f n : ℕ) (es : List Entry) : Type 0 where
  pub all : n + page_total es ≡ 1024
  pub one : (k : ℕ) → k < 1024 → owner_count ps f n es k ≡ 1
  pub none : (k : ℕ) → 1024 ≤ k → owner_count ps f n es k ≡ 0
  pub full : FullPages ps 1024
  pub order : RisingIds es

-- a clause of the literals ls enters at its id's gap, on the first free pages
module _ (ps qs : List Page) (n : ℕ) (es es' : List Entry) (at : ℕ) (e : Entry) (now : es' ≡ inserted es at e) (ls : List Literal) (r : ℕ)
    (kept : Kept ps e.head n es) (gap : GapAt es e.id at) (size : e.size ≡ length ls) (le : e.pages ≤ n)
    (rest : r ≡ page_after ps e.pages e.head) (links : SameLinks ps qs) (full : FullPages qs 1024) where
  owners_still : (k : ℕ) → owner_count qs r (n - e.pages) (inserted es at e) k ≡ owner_count ps e.head n es k
  owners_still k =
      ap (λ x. owner_count qs x (n - e.pages) (inserted es at e) k) rest ∙ entered ps qs e.head n e.pages es at e le links refl refl k

  pub kept_entered : Kept qs r (n - e.pages) es'
  kept_entered =
      subst (Kept qs r (n - e.pages)) (sym now) (record {
        all = entered_total ps qs e.head n e.pages es at e le links refl refl kept.all;
        one = λ k l. owners_still k ∙ kept.one k l;
        none = λ k l. owners_still k ∙ kept.none k l;
        full = full;
        order = rising_inserted es at e gap.within gap kept.order;
      })

  pub table_entered : OthersSame ps qs e.pages e.head → HoldsFirst ps qs e.head (8 * e.pages) ls → table_of qs es' ≡ insert e.id (numbers_of ls) (table_of ps es)
  table_entered others holds =
      let once = owners_le ps e.head n es 1024 kept.one kept.none in
      let same = table_same ps qs es (agree_held ps qs e.head n e.pages es le once others) in
      let inside = free_inside ps e.head n e.pages es 1024 le kept.none in
      let fo = full_on qs e.pages e.head 1024 full (λ k l. ap (times_in k) (chain_links ps qs links e.pages e.head) ∙ inside k l) in
      let fits : length ls ≤ 8 * e.pages = omega (arith, e.fitting) in
      ap (table_of qs) now ∙ entered_table ps qs es at e (numbers_of ls) same (ap (λ m. take m (chain_numbers qs e.pages e.head)) size ∙ written ps qs e.pages e.head ls links fo fits holds) gap

-- the clause at a place leaves: its last page is linked to the free chain
module _ (ps : List Page) (f n : ℕ) (es : List Entry) (at last : ℕ) (in' : at < length es) (x : Entry) (kept : Kept ps f n es)
    (is : x ≡ get_or es at no_entry) (walked : last ≡ page_after ps (x.pages - 1) x.head) (below : last < 1024) (room : last < length ps) where
  abbrev new : Page
  new = page_with f (get_or ps last no_page).literals

  some_there : 1 ≤ (get_or es at no_entry).pages
  some_there = omega (arith, (get_or es at no_entry).fitting)

  walked_there : last ≡ page_after ps ((get_or es at no_entry).pages - 1) (get_or es at no_entry).head
  walked_there = walked ∙ ap (λ y. page_after ps (y.pages - 1) y.head) is

  owned : owner_count ps f n es last ≡ 1
  owned = kept.one last below

  owners_there : (k : ℕ) → owner_count (set ps last new) (get_or es at no_entry).head (n + (get_or es at no_entry).pages) (remove es at) k ≡ owner_count ps f n es k
  owners_there = released ps f n es at in' last new some_there walked_there room refl owned

  kept_there : Kept (set ps last new) (get_or es at no_entry).head (n + (get_or es at no_entry).pages) (remove es at)
  kept_there =
      record {
        all = released_total ps f n es at in' last new some_there walked_there room refl owned kept.all;
        one = λ k l. owners_there k ∙ kept.one k l;
        none = λ k l. owners_there k ∙ kept.none k l;
        full = full_set ps last new 1024 room (kept.full last below) kept.full;
        order = rising_removed es at in' kept.order;
      }

  pub kept_released : Kept (set ps last new) x.head (n + x.pages) (remove es at)
  kept_released = subst (λ y. Kept (set ps last new) y.head (n + y.pages) (remove es at)) (sym is) kept_there

  pub table_released : table_of (set ps last new) (remove es at) ≡ remove (table_of ps es) at
  table_released =
      table_same ps (set ps last new) (remove es at) (agree_left ps f n es at in' last new some_there walked_there room refl owned)
      ∙ removed_table ps es at

-- while a clause that needs pages has room, the directory has room for its entry
pub room_left : (es : List Entry) (n need m len cap : ℕ) → n + page_total es ≡ 1024 → need ≡ pages_for m → need ≤ n → len ≡ length es → 1024 ≤ cap → len < cap
room_left es n need m len cap all is le e c =
    let few = few_entries es in
    omega arith

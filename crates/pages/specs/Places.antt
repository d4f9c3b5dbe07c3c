-- Where an id stands in a directory, and what that says of the table; the order and the costs of the table.
use Rattle.std.specs.Prelude.{◌≡◌, ℕ, zero, suc, ◌+◌, ◌-◌, ◌<◌, ◌≤◌, List, [], ◌∷◌, ◌++◌, length, get_or, take, drop, Some, None, ◌≢◌, slice_index_or, refl}
use Rattle.std.proofs.Common.{sym, ap, ◌∙◌, ⊎_elim, arith}
use Rattle.std.specs.List.{insert as inserted, remove}
use Rattle.std.proofs.lemmas.List.{length-map, map-append, take-map, drop-map}
use Rattle.std.proofs.lemmas.List.Edits.{length-insert, get_or-insert_below, get_or-insert_at, get_or-insert_above, length-remove, get_or-remove_below, get_or-remove_above}
use Rattle.std.proofs.lemmas.List.Sums.{sum_by-cons}
use Rattle.std.proofs.lemmas.Bool.{eq-eqb, ne_eqb, lt-ltb, le-ltb, cases_lt, cases_order}
use Rattle.cnf.specs.Formula.{Clause}
use Rattle.store.specs.Tables.{lookup, insert, erase, cost, costs, Ascending}
use Rattle.pages.specs.declared.page.Page.{Page}
use Rattle.pages.specs.declared.entry.Entry.{Entry}
use Rattle.pages.specs.Chained.{paged_kind, no_entry, id_at, entry_clause, table_of, page_total, RisingIds, HeldAt, GapAt}
use Rattle.pages.specs.Sizes.{pages_for}

lookup_at : (ps : List Page) (es : List Entry) (i at : ℕ) → at < length es → id_at es at ≡ i → ((k : ℕ) → k < at → id_at es k < i) → lookup i (table_of ps es) ≡ Some (entry_clause ps (slice_index_or es at no_entry))
unfolding lookup
lookup_at ps [] i at l is before = absurd (omega arith)
lookup_at ps (e ∷ es) i zero l is before = rw (eq-eqb i e.id (sym is)) refl
lookup_at ps (e ∷ es) i (suc at) l is before =
    let b = before 0 (omega arith) in
    let ne : i ≡ e.id → ⊥ = λ q. omega arith in
    rw (ne_eqb i e.id ne) (lookup_at ps es i at (omega arith) is (λ k w. before (suc k) (omega arith)))

pub lookup_held : (ps : List Page) (es : List Entry) (i at : ℕ) → HeldAt es i at → lookup i (table_of ps es) ≡ Some (entry_clause ps (slice_index_or es at no_entry))
lookup_held ps es i at h = lookup_at ps es i at h.inside h.is h.before

lookup_none : (ps : List Page) (es : List Entry) (i : ℕ) → ((k : ℕ) → k < length es → id_at es k ≢ i) → lookup i (table_of ps es) ≡ None
unfolding lookup
lookup_none ps [] i none = refl
lookup_none ps (e ∷ es) i none =
    let ne : i ≡ e.id → ⊥ = λ q. none 0 (omega arith) (sym q) in
    rw (ne_eqb i e.id ne) (lookup_none ps es i (λ k w. none (suc k) (omega arith)))

pub lookup_gap : (ps : List Page) (es : List Entry) (i at : ℕ) → GapAt es i at → lookup i (table_of ps es) ≡ None
lookup_gap ps es i at g =
    lookup_none ps es i (λ k w e. ⊎_elim (λ l. let b = g.before k l in omega arith) (λ l. let a = g.after k l w in omega arith) (cases_lt k at))

insert_at : (ps : List Page) (es : List Entry) (i : ℕ) (c : Clause) (at : ℕ) → at ≤ length es → ((k : ℕ) → k < at → id_at es k < i) → ((k : ℕ) → at ≤ k → k < length es → i < id_at es k)
    → insert i c (table_of ps es) ≡ table_of ps (take at es) ++ (i, c) ∷ table_of ps (drop at es)
unfolding insert
insert_at ps [] i c zero l before after = refl
insert_at ps [] i c (suc at) l before after = absurd (omega arith)
insert_at ps (e ∷ es) i c zero l before after = rw (lt-ltb i e.id (after 0 (omega arith) (omega arith))) refl
insert_at ps (e ∷ es) i c (suc at) l before after =
    let b = before 0 (omega arith) in
    rw (le-ltb i e.id (omega arith))
    (ap (λ t. (e.id, entry_clause ps e) ∷ t) (insert_at ps es i c at (omega arith) (λ k w. before (suc k) (omega arith)) (λ k v w. after (suc k) (omega arith) (omega arith))))

-- what an entry at a gap adds to the table
pub insert_gap : (ps : List Page) (es : List Entry) (i : ℕ) (c : Clause) (at : ℕ) → GapAt es i at → insert i c (table_of ps es) ≡ table_of ps (take at es) ++ (i, c) ∷ table_of ps (drop at es)
insert_gap ps es i c at g = insert_at ps es i c at g.within g.before g.after

erase_at : (ps : List Page) (es : List Entry) (i at : ℕ) → at < length es → id_at es at ≡ i → ((k : ℕ) → k < at → id_at es k < i) → erase i (table_of ps es) ≡ remove (table_of ps es) at
unfolding erase
erase_at ps [] i at l is before = absurd (omega arith)
erase_at ps (e ∷ es) i zero l is before = rw (eq-eqb i e.id (sym is)) refl
erase_at ps (e ∷ es) i (suc at) l is before =
    let b = before 0 (omega arith) in
    let ne : i ≡ e.id → ⊥ = λ q. omega arith in
    rw (ne_eqb i e.id ne) (ap (λ t. (e.id, entry_clause ps e) ∷ t) (erase_at ps es i at (omega arith) is (λ k w. before (suc k) (omega arith))))

pub erase_held : (ps : List Page) (es : List Entry) (i at : ℕ) → HeldAt es i at → erase i (table_of ps es) ≡ remove (table_of ps es) at
erase_held ps es i at h = erase_at ps es i at h.inside h.is h.before

ascending_from : (ps : List Page) (b : ℕ) (es : List Entry) → ((k : ℕ) → k < length es → b ≤ id_at es k) → RisingIds es → Ascending b (table_of ps es)
ascending_from ps b [] low up = tt
ascending_from ps b (e ∷ es) low up =
    (low 0 (omega arith), ascending_from ps (suc e.id) es (λ k l. up 0 (suc k) (omega arith) (omega arith)) (λ i j l m. up (suc i) (suc j) (omega arith) (omega arith)))

-- the ids of the table ascend
pub ascending_table : (ps : List Page) (es : List Entry) → RisingIds es → Ascending 0 (table_of ps es)
ascending_table ps es up = ascending_from ps 0 es (λ k l. omega arith) up

-- each clause is as long as its entry says
abbrev pub TrueSizes : List Page → List Entry → Type 0
TrueSizes ps es = (k : ℕ) → k < length es → length (entry_clause ps (slice_index_or es k no_entry)) ≡ (get_or es k no_entry).size

pub cost_is : (c : Clause) (n : ℕ) → length c ≡ n → cost paged_kind c ≡ pages_for n
unfolding cost
cost_is c n e = ap pages_for e

-- the table costs the pages of the directory's chains
pub costs_table : (ps : List Page) (es : List Entry) → TrueSizes ps es → costs paged_kind (table_of ps es) ≡ page_total es
unfolding costs
costs_table ps [] long = refl
costs_table ps (e ∷ es) long =
    let s = sum_by-cons (λ x. x.pages) e es in
    let a = cost_is (entry_clause ps e) e.size (long 0 (omega arith)) in
    let f = e.fitting in
    let r = costs_table ps es (λ k l. long (suc k) (omega arith)) in
    omega arith

-- chains beside which so many pages are free cost no more than there are
pub table_within : (ps : List Page) (free : ℕ) (es : List Entry) → free + page_total es ≡ 1024 → TrueSizes ps es → costs paged_kind (table_of ps es) ≤ paged_kind.units
table_within ps free es all long = let c = costs_table ps es long in omega arith

-- a directory has no more entries than pages
pub few_entries : (es : List Entry) → length es ≤ page_total es
few_entries [] = omega arith
few_entries (e ∷ es) =
    let s = sum_by-cons (λ x. x.pages) e es in
    let f = e.fitting in
    let r = few_entries es in
    omega arith

-- what an id at a place says of those before and after it
pub rising_below : (es : List Entry) (m i : ℕ) → m < length es → RisingIds es → id_at es m < i → (k : ℕ) → k < m + 1 → id_at es k < i
rising_below es m i l up h k w =
    ⊎_elim (λ (v : k < m). let a = up k m v l in omega arith) (λ (v : m ≤ k). let e = ap (id_at es) (let e : k ≡ m = omega arith in e) in omega arith) (cases_lt k m)

pub rising_above : (es : List Entry) (m i : ℕ) → RisingIds es → i ≤ id_at es m → (k : ℕ) → m ≤ k → k < length es → i ≤ id_at es k
rising_above es m i up h k w l =
    ⊎_elim (λ (v : m < k). let a = up m k v l in omega arith) (λ (v : k ≤ m). let e = ap (id_at es) (let e : k ≡ m = omega arith in e) in omega arith) (cases_lt m k)

-- the first place whose id is not below an id, and has another id, is the id's gap
pub gap_from : (es : List Entry) (i at : ℕ) → RisingIds es → at < length es → ((k : ℕ) → k < at → id_at es k < i) → i ≤ id_at es at → (id_at es at ≢ i) → GapAt es i at
gap_from es i at up l before from ne =
    record {
      within = omega arith;
      before = before;
      after = λ k w h. let a = rising_above es at (i + 1) up (omega arith) k w h in omega arith;
    }

-- the ids still rise after an entry is put in or taken out
module _ (es : List Entry) (at : ℕ) (e : Entry) (le : at ≤ length es) where
  before_is : (k : ℕ) → k < at → slice_index_or (inserted es at e) k no_entry ≡ slice_index_or es k no_entry
  before_is k l = get_or-insert_below es at e no_entry k l le

  here_is : (k : ℕ) → k ≡ at → slice_index_or (inserted es at e) k no_entry ≡ e
  here_is k q = ap (λ m. get_or (inserted es at e) m no_entry) q ∙ get_or-insert_at es at e no_entry le

  after_is : (k : ℕ) → at < k → slice_index_or (inserted es at e) k no_entry ≡ slice_index_or es (k - 1) no_entry
  after_is k l =
      let s : k ≡ (k - 1) + 1 = omega arith in
      ap (λ m. get_or (inserted es at e) m no_entry) s ∙ get_or-insert_above es at e no_entry (k - 1) (omega arith) le

  pub rising_inserted : GapAt es e.id at → RisingIds es → RisingIds (inserted es at e)
  rising_inserted gap up i j l m =
      let n = length-insert es at e le in
      ⊎_elim
      (λ (q : j ≡ at).
      let a = ap (λ x. x.id) (before_is i (omega arith)) in
      let b = ap (λ x. x.id) (here_is j q) in
      let g = gap.before i (omega arith) in
      omega arith)
      (⊎_elim
      (λ (w : j < at).
      let a = ap (λ x. x.id) (before_is i (omega arith)) in
      let b = ap (λ x. x.id) (before_is j w) in
      let g = up i j l (omega arith) in
      omega arith)
      (λ (w : at < j).
      let b = ap (λ x. x.id) (after_is j w) in
      let g = gap.after (j - 1) (omega arith) (omega arith) in
      ⊎_elim
      (λ (q : i ≡ at). let a = ap (λ x. x.id) (here_is i q) in omega arith)
      (⊎_elim
      (λ (v : i < at).
      let a = ap (λ x. x.id) (before_is i v) in
      let f = gap.before i v in
      omega arith)
      (λ (v : at < i).
      let a = ap (λ x. x.id) (after_is i v) in
      let f = up (i - 1) (j - 1) (omega arith) (omega arith) in
      omega arith))
      (cases_order i at)))
      (cases_order j at)

module _ (es : List Entry) (at : ℕ) (lt : at < length es) where
  kept_before : (k : ℕ) → k < at → slice_index_or (remove es at) k no_entry ≡ slice_index_or es k no_entry
  kept_before k l = get_or-remove_below es at no_entry k l lt

  kept_after : (k : ℕ) → at ≤ k → slice_index_or (remove es at) k no_entry ≡ slice_index_or es (k + 1) no_entry
  kept_after k l = get_or-remove_above es at no_entry k l lt

  pub rising_removed : RisingIds es → RisingIds (remove es at)
  rising_removed up i j l m =
      let n = length-remove es at lt in
      ⊎_elim
      (λ (w : j < at).
      let a = ap (λ x. x.id) (kept_before i (omega arith)) in
      let b = ap (λ x. x.id) (kept_before j w) in
      let g = up i j l (omega arith) in
      omega arith)
      (λ (w : at ≤ j).
      let b = ap (λ x. x.id) (kept_after j w) in
      ⊎_elim
      (λ (v : i < at). let a = ap (λ x. x.id) (kept_before i v) in let g = up i (j + 1) (omega arith) (omega arith) in omega arith)
      (λ (v : at ≤ i). let a = ap (λ x. x.id) (kept_after i v) in let g = up (i + 1) (j + 1) (omega arith) (omega arith) in omega arith)
      (cases_lt i at))
      (cases_lt j at)

-- the meaning of one entry
abbrev meant : List Page → Entry → (ℕ × Clause)
meant ps e = (e.id, entry_clause ps e)

-- a directory with an entry more means the table with a clause more
pub entered_table : (ps qs : List Page) (es : List Entry) (at : ℕ) (e : Entry) (c : Clause) → table_of qs es ≡ table_of ps es → entry_clause qs e ≡ c → GapAt es e.id at → table_of qs (inserted es at e) ≡ insert e.id c (table_of ps es)
entered_table ps qs es at e c same is gap =
    map-append (meant qs) (take at es) (e ∷ drop at es)
    ∙ ap (λ t. t ++ meant qs e ∷ table_of qs (drop at es)) (sym (take-map (meant qs) at es) ∙ ap (take at) same ∙ take-map (meant ps) at es)
    ∙ ap (λ t. table_of ps (take at es) ++ meant qs e ∷ t) (sym (drop-map (meant qs) at es) ∙ ap (drop at) same ∙ drop-map (meant ps) at es)
    ∙ ap (λ d. table_of ps (take at es) ++ (e.id, d) ∷ table_of ps (drop at es)) is
    ∙ sym (insert_gap ps es e.id c at gap)

-- a directory without an entry means the table without its clause
pub removed_table : (ps : List Page) (es : List Entry) (at : ℕ) → table_of ps (remove es at) ≡ remove (table_of ps es) at
removed_table ps es at =
    map-append (meant ps) (take at es) (drop (suc at) es)
    ∙ ap (λ t. t ++ table_of ps (drop (suc at) es)) (sym (take-map (meant ps) at es))
    ∙ ap (λ t. take at (table_of ps es) ++ t) (sym (drop-map (meant ps) (suc at) es))

-- the table has as many clauses as the directory has entries
pub length_table : (ps : List Page) (es : List Entry) → length (table_of ps es) ≡ length es
length_table ps es = length-map es (meant ps)

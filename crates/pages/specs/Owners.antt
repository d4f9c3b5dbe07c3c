-- Every page is free or in exactly one chain: what a clause that enters or leaves does to the count of a page's owners.
use Rattle.std.specs.Prelude.{◌≡◌, ℕ, zero, suc, ◌+◌, ◌-◌, ◌<◌, ◌≤◌, ◌≢◌, List, [], ◌∷◌, ◌++◌, length, get_or, take, drop, sum_by, slice_index_or, slice_set, refl}
use Rattle.std.proofs.Common.{sym, ap, ◌∙◌, ⊎_elim, arith}
use Rattle.std.specs.List.{insert, remove}
use Rattle.std.proofs.lemmas.List.{get_or-set_same, get_or-set_other, drop_more}
use Rattle.std.proofs.lemmas.List.Sums.{sum_by-cons, sum_by-append, sum_by-take-drop, get_or-le-sum_by}
use Rattle.std.proofs.lemmas.Bool.{cases_lt}
use Rattle.cnf.specs.Tabled.{numbers_of}
use Rattle.store.specs.Tables.{free_units}
use Rattle.pages.specs.declared.page.Page.{Page}
use Rattle.pages.specs.declared.entry.Entry.{Entry}
use Rattle.pages.specs.Chained.{paged_kind, no_page, no_entry, page_next, page_chain, page_after, times_in, held_count, owner_count, page_total, page_numbers, chain_numbers, entry_clause, table_of, FullPages}
use Rattle.pages.specs.Numbers.{full_on, clause_length}
use Rattle.pages.specs.Places.{TrueSizes, costs_table}
use Rattle.pages.specs.Fills.{OthersSame}
use Rattle.pages.specs.Chains.{one_if, one_self, times_cons, times_append, chain_set, after_set, SameLinks, chain_links, chain_append, chain_front, held_cons}

-- the pages that stand somewhere are the same in both
abbrev pub Agree : List Page → List Page → (ℕ → ℕ) → Type 0
Agree ps qs count = (k : ℕ) → 1 ≤ count k → slice_index_or qs k no_page ≡ slice_index_or ps k no_page

-- the first page of a chain, and the others
module _ (ps qs : List Page) (n h : ℕ) (same : Agree ps qs (λ k. times_in k (page_chain ps (suc n) h))) where
  first_same : get_or qs h no_page ≡ slice_index_or ps h no_page
  first_same =
      let s = times_cons h h (page_chain ps n (page_next ps h)) in
      let o = one_self h in
      same h (omega arith)

  rest_same : Agree ps qs (λ k. times_in k (page_chain ps n (page_next ps h)))
  rest_same k l = let s = times_cons k h (page_chain ps n (page_next ps h)) in same k (omega arith)

pub chain_same : (ps qs : List Page) (n h : ℕ) → Agree ps qs (λ k. times_in k (page_chain ps n h)) → page_chain qs n h ≡ page_chain ps n h
chain_same ps qs zero h same = refl
chain_same ps qs (suc n) h same =
    ap (λ xs. h ∷ xs) (ap (λ p. page_chain qs n p.next) (first_same ps qs n h same) ∙ chain_same ps qs n (page_next ps h) (rest_same ps qs n h same))

pub text_same : (ps qs : List Page) (n h : ℕ) → Agree ps qs (λ k. times_in k (page_chain ps n h)) → chain_numbers qs n h ≡ chain_numbers ps n h
text_same ps qs zero h same = refl
text_same ps qs (suc n) h same =
    let f = first_same ps qs n h same in
    ap (λ xs. page_numbers qs h ++ xs) (ap (λ p. chain_numbers qs n p.next) f ∙ text_same ps qs n (page_next ps h) (rest_same ps qs n h same))
    ∙ ap (λ p. numbers_of p.literals ++ chain_numbers ps n (page_next ps h)) f

-- a directory whose pages are the same means the same, and its pages have the same owners
module _ (ps qs : List Page) where
  agree_head : (e : Entry) (es : List Entry) → Agree ps qs (λ k. held_count ps k (e ∷ es)) → Agree ps qs (λ k. times_in k (page_chain ps e.pages e.head))
  agree_head e es same k l = let s = held_cons ps k e es in same k (omega arith)

  agree_tail : (e : Entry) (es : List Entry) → Agree ps qs (λ k. held_count ps k (e ∷ es)) → Agree ps qs (λ k. held_count ps k es)
  agree_tail e es same k l = let s = held_cons ps k e es in same k (omega arith)

  pub table_same : (es : List Entry) → Agree ps qs (λ k. held_count ps k es) → table_of qs es ≡ table_of ps es
  table_same [] same = refl
  table_same (e ∷ es) same =
      ap (λ xs. (e.id, take e.size xs) ∷ table_of qs es) (text_same ps qs e.pages e.head (agree_head e es same))
      ∙ ap (λ t. (e.id, entry_clause ps e) ∷ t) (table_same es (agree_tail e es same))

  pub held_same : (es : List Entry) → Agree ps qs (λ k. held_count ps k es) → (k : ℕ) → held_count qs k es ≡ held_count ps k es
  held_same [] same k = refl
  held_same (e ∷ es) same k =
      let a = ap (times_in k) (chain_same ps qs e.pages e.head (agree_head e es same)) in
      let r = held_same es (agree_tail e es same) k in
      held_cons qs k e es ∙ omega arith ∙ sym (held_cons ps k e es)

  pub held_links : SameLinks ps qs → (k : ℕ) (es : List Entry) → held_count qs k es ≡ held_count ps k es
  held_links links k [] = refl
  held_links links k (e ∷ es) =
      let a = ap (times_in k) (chain_links ps qs links e.pages e.head) in
      let r = held_links links k es in
      held_cons qs k e es ∙ omega arith ∙ sym (held_cons ps k e es)

pub sum_inserted : (w : Entry → ℕ) (es : List Entry) (at : ℕ) (e : Entry) → sum_by w (insert es at e) ≡ w e + sum_by w es
sum_inserted w es at e =
    let a = sum_by-append w (take at es) (e ∷ drop at es) in
    let b = sum_by-cons w e (drop at es) in
    let d = sum_by-take-drop w es at in
    omega arith

pub sum_removed : (w : Entry → ℕ) (es : List Entry) (at : ℕ) → at < length es → w (slice_index_or es at no_entry) + sum_by w (remove es at) ≡ sum_by w es
sum_removed w es at l =
    let a = sum_by-append w (take at es) (drop (suc at) es) in
    let n : drop (at + 1) es ≡ drop (suc at) es = ap (λ m. drop m es) (let e : at + 1 ≡ suc at = omega arith in e) in
    let b = ap (sum_by w) (drop_more es at no_entry l) ∙ sum_by-cons w (slice_index_or es at no_entry) (drop (at + 1) es) in
    let f = ap (sum_by w) n in
    let d = sum_by-take-drop w es at in
    omega arith

-- the chain of an entry lies in the pages, and its pages are not free
module _ (ps : List Page) (f n : ℕ) (es : List Entry) (at : ℕ) (in' : at < length es) where
  abbrev the : Entry
  the = slice_index_or es at no_entry

  pub entry_le : (k : ℕ) → times_in k (page_chain ps the.pages the.head) ≤ held_count ps k es
  entry_le k = get_or-le-sum_by (λ x. times_in k (page_chain ps x.pages x.head)) es at no_entry in'

  pub entry_inside : (e : Entry) → e ≡ the → (top : ℕ) → ((k : ℕ) → top ≤ k → owner_count ps f n es k ≡ 0) → (k : ℕ) → top ≤ k → times_in k (page_chain ps e.pages e.head) ≡ 0
  entry_inside e is top none k l = ap (λ x. times_in k (page_chain ps x.pages x.head)) is ∙ omega (arith, none k l, entry_le k)

-- The first need pages of the free chain become the chain of a new entry at a place.
module _ (ps qs : List Page) (f n need : ℕ) (es : List Entry) (at : ℕ) (e : Entry)
    (le : need ≤ n) (links : SameLinks ps qs) (head : e.head ≡ f) (long : e.pages ≡ need) where
  split_free : page_chain ps n f ≡ page_chain ps need f ++ page_chain ps (n - need) (page_after ps need f)
  split_free =
      let s : n ≡ need + (n - need) = omega arith in
      ap (λ m. page_chain ps m f) s ∙ chain_append ps need (n - need) f

  pub free_parts : (k : ℕ) → times_in k (page_chain ps n f) ≡ times_in k (page_chain ps need f) + times_in k (page_chain ps (n - need) (page_after ps need f))
  free_parts k = ap (times_in k) split_free ∙ times_append k (page_chain ps need f) (page_chain ps (n - need) (page_after ps need f))

  pub entered : (k : ℕ) → owner_count qs (page_after ps need f) (n - need) (insert es at e) k ≡ owner_count ps f n es k
  entered k =
      let a = ap (times_in k) (chain_links ps qs links (n - need) (page_after ps need f)) in
      let b = held_links ps qs links k (insert es at e) in
      let c = sum_inserted (λ x. times_in k (page_chain ps x.pages x.head)) es at e in
      let d = ap (λ m. times_in k (page_chain ps m e.head)) long ∙ ap (λ h. times_in k (page_chain ps need h)) head in
      let p = free_parts k in
      omega arith

  pub entered_total : n + page_total es ≡ 1024 → (n - need) + page_total (insert es at e) ≡ 1024
  entered_total t =
      let c = sum_inserted (λ x. x.pages) es at e in
      omega arith

-- The chain of an entry goes in front of the free one: the link of its last page is written.
module _ (ps : List Page) (f n : ℕ) (es : List Entry) (at : ℕ) (in' : at < length es) (last : ℕ) (p : Page)
    (some : 1 ≤ (get_or es at no_entry).pages) (is : last ≡ page_after ps ((get_or es at no_entry).pages - 1) (get_or es at no_entry).head)
    (room : last < length ps) (link : p.next ≡ f) (own : owner_count ps f n es last ≡ 1) where
  abbrev head : ℕ
  head = (get_or es at no_entry).head

  abbrev len : ℕ
  len = (get_or es at no_entry).pages

  abbrev m : ℕ
  m = len - 1

  abbrev qs : List Page
  qs = slice_set ps last p

  abbrev left : List Entry
  left = remove es at

  count_left : (k : ℕ) → times_in k (page_chain ps len head) + held_count ps k left ≡ held_count ps k es
  count_left k = sum_removed (λ x. times_in k (page_chain ps x.pages x.head)) es at in'

  chain_parts : page_chain ps len head ≡ page_chain ps m head ++ last ∷ []
  chain_parts =
      let s : len ≡ m + 1 = omega arith in
      ap (λ x. page_chain ps x head) s ∙ chain_append ps m 1 head ∙ ap (λ x. page_chain ps m head ++ x ∷ []) (sym is)

  times_parts : (k : ℕ) → times_in k (page_chain ps len head) ≡ times_in k (page_chain ps m head) + one_if k last
  times_parts k =
      let a = ap (times_in k) chain_parts ∙ times_append k (page_chain ps m head) (last ∷ []) in
      let b = times_cons k last [] in
      omega arith

  none_before : times_in last (page_chain ps m head) ≡ 0
  none_before = omega (arith, times_parts last, one_self last, count_left last, own)

  none_free : times_in last (page_chain ps n f) ≡ 0
  none_free = omega (arith, times_parts last, one_self last, count_left last, own)

  none_left : held_count ps last left ≡ 0
  none_left = omega (arith, times_parts last, one_self last, count_left last, own)

  pub agree_left : Agree ps qs (λ k. held_count ps k left)
  agree_left k l =
      let z = none_left in
      let ne : k ≢ last = λ q. let y = ap (λ x. held_count ps x left) q in omega arith in
      get_or-set_other ps last k p no_page ne

  chain_now : page_chain qs (len + n) head ≡ page_chain ps m head ++ last ∷ page_chain ps n f
  chain_now =
      let s : len + n ≡ m + suc n = omega arith in
      let a = after_set ps last p m head none_before ∙ sym is in
      let g : page_next qs last ≡ f = ap (λ q. q.next) (get_or-set_same ps last p no_page room) ∙ link in
      ap (λ x. page_chain qs x head) s
      ∙ chain_append qs m (suc n) head
      ∙ ap (λ xs. xs ++ page_chain qs (suc n) (page_after qs m head)) (chain_set ps last p m head none_before)
      ∙ ap (λ x. page_chain ps m head ++ page_chain qs (suc n) x) a
      ∙ ap (λ x. page_chain ps m head ++ last ∷ page_chain qs n x) g
      ∙ ap (λ xs. page_chain ps m head ++ last ∷ xs) (chain_set ps last p n f none_free)

  pub released : (k : ℕ) → owner_count qs head (n + len) left k ≡ owner_count ps f n es k
  released k =
      let s : n + len ≡ len + n = omega arith in
      let a = ap (λ x. times_in k (page_chain qs x head)) s ∙ ap (times_in k) chain_now ∙ times_append k (page_chain ps m head) (last ∷ page_chain ps n f) in
      let b = times_cons k last (page_chain ps n f) in
      let c = held_same ps qs left agree_left k in
      omega (arith, times_parts k, count_left k)

  pub released_total : n + page_total es ≡ 1024 → (n + len) + page_total left ≡ 1024
  released_total t =
      let c = sum_removed (λ x. x.pages) es at in' in
      omega arith

-- each clause of a directory is as long as its entry says
pub true_sizes : (ps : List Page) (f n : ℕ) (es : List Entry) (top : ℕ) → ((k : ℕ) → top ≤ k → owner_count ps f n es k ≡ 0) → FullPages ps top → TrueSizes ps es
true_sizes ps f n es top none full k l =
    let e = get_or es k no_entry in
    clause_length ps e (full_on ps e.pages e.head top full (entry_inside ps f n es k l e refl top none))

-- the free units are the free pages
pub free_pages : (ps : List Page) (f n : ℕ) (es : List Entry) → n + page_total es ≡ 1024 → ((k : ℕ) → 1024 ≤ k → owner_count ps f n es k ≡ 0) → FullPages ps 1024 → free_units paged_kind (table_of ps es) ≡ n
unfolding free_units
free_pages ps f n es all none full =
    let c = costs_table ps es (true_sizes ps f n es 1024 none full) in
    omega arith

-- no page has two owners
pub owners_le : (ps : List Page) (f n : ℕ) (es : List Entry) (top : ℕ) → ((k : ℕ) → k < top → owner_count ps f n es k ≡ 1) → ((k : ℕ) → top ≤ k → owner_count ps f n es k ≡ 0) → (k : ℕ) → owner_count ps f n es k ≤ 1
owners_le ps f n es top one none k =
    ⊎_elim (λ l. let o = one k l in omega arith) (λ l. let o = none k l in omega arith) (cases_lt k top)

-- what is written to free pages leaves the pages of the entries
pub agree_held : (ps qs : List Page) (f n need : ℕ) (es : List Entry) → need ≤ n → ((k : ℕ) → owner_count ps f n es k ≤ 1) → OthersSame ps qs need f → Agree ps qs (λ k. held_count ps k es)
agree_held ps qs f n need es le once others k l =
    let o = once k in
    let s : n ≡ need + (n - need) = omega arith in
    let p = ap (λ m. times_in k (page_chain ps m f)) s ∙ ap (times_in k) (chain_append ps need (n - need) f) ∙ times_append k (page_chain ps need f) (page_chain ps (n - need) (page_after ps need f)) in
    others k (omega arith)

-- the first pages of the free chain lie in the pages, and none stands in it twice
module _ (ps : List Page) (f n need : ℕ) (es : List Entry) where
  pub free_inside : (top : ℕ) → need ≤ n → ((k : ℕ) → top ≤ k → owner_count ps f n es k ≡ 0) → (k : ℕ) → top ≤ k → times_in k (page_chain ps need f) ≡ 0
  free_inside top le none = chain_front ps need n f top le (λ k l. let z = none k l in omega arith)

  pub free_le : need ≤ n → ((k : ℕ) → owner_count ps f n es k ≤ 1) → (k : ℕ) → times_in k (page_chain ps need f) ≤ 1
  free_le le once k =
      let o = once k in
      let s : n ≡ need + (n - need) = omega arith in
      let p = ap (λ m. times_in k (page_chain ps m f)) s ∙ ap (times_in k) (chain_append ps need (n - need) f) ∙ times_append k (page_chain ps need f) (page_chain ps (n - need) (page_after ps need f)) in
      omega arith

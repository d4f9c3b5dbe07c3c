-- Chains of pages: what a write leaves of them, how they join, and how often a page stands in them.
use Rattle.std.specs.Prelude.{◌≡◌, ℕ, zero, suc, ◌+◌, ◌-◌, ◌<◌, ◌≤◌, cond, ◌≢◌, List, [], ◌∷◌, ◌++◌, length, replicate, ◌==◌, nat_lt, slice_index_or, slice_set, refl}
use Rattle.std.proofs.Common.{ap, ◌∙◌, ⊎_elim, arith, below_more}
use Rattle.std.proofs.lemmas.List.{get_or-set_same, get_or-set_other, get_or-replicate}
use Rattle.std.proofs.lemmas.List.Sums.{sum_by-cons, sum_by-append}
use Rattle.std.proofs.lemmas.Bool.{eq-eqb, cases_lt, cases_eq}
use Rattle.std.proofs.lemmas.Bool.Decides.{nat_tests}
use Rattle.pages.specs.declared.page.Page.{Page}
use Rattle.pages.specs.declared.entry.Entry.{Entry}
use Rattle.pages.specs.Chained.{no_page, page_next, page_chain, page_after, times_in, held_count, owner_count, LinkedLine, FullPages}

abbrev pub one_if : ℕ → ℕ → ℕ
one_if k x = cond (x == k) 1 0

pub one_self : (f : ℕ) → one_if f f ≡ 1
one_self f = rw (eq-eqb f f refl) refl

pub times_cons : (k x : ℕ) (xs : List ℕ) → times_in k (x ∷ xs) ≡ one_if k x + times_in k xs
times_cons k x xs = sum_by-cons (one_if k) x xs

pub times_append : (k : ℕ) (xs ys : List ℕ) → times_in k (xs ++ ys) ≡ times_in k xs + times_in k ys
times_append k xs ys = sum_by-append (one_if k) xs ys

-- a page that is not in a chain may be written
pub chain_set : (ps : List Page) (i : ℕ) (p : Page) (n h : ℕ) → times_in i (page_chain ps n h) ≡ 0 → page_chain (slice_set ps i p) n h ≡ page_chain ps n h
chain_set ps i p zero h e = refl
chain_set ps i p (suc n) h e =
    let s = times_cons i h (page_chain ps n (page_next ps h)) in
    let ne : h ≢ i = λ q. let z : ◌≡◌ {A = ℕ} (one_if i h) 1 = rw (eq-eqb h i q) refl in omega arith in
    let g : slice_index_or (slice_set ps i p) h no_page ≡ slice_index_or ps h no_page = get_or-set_other ps i h p no_page ne in
    let r : times_in i (page_chain ps n (page_next ps h)) ≡ 0 = omega arith in
    ap (λ xs. h ∷ xs) (ap (λ q. page_chain (slice_set ps i p) n q.next) g ∙ chain_set ps i p n (page_next ps h) r)

-- the same of where the chain leads
pub after_set : (ps : List Page) (i : ℕ) (p : Page) (n h : ℕ) → times_in i (page_chain ps n h) ≡ 0 → page_after (slice_set ps i p) n h ≡ page_after ps n h
after_set ps i p zero h e = refl
after_set ps i p (suc n) h e =
    let s = times_cons i h (page_chain ps n (page_next ps h)) in
    let ne : h ≢ i = λ q. let z : ◌≡◌ {A = ℕ} (one_if i h) 1 = rw (eq-eqb h i q) refl in omega arith in
    let g : slice_index_or (slice_set ps i p) h no_page ≡ slice_index_or ps h no_page = get_or-set_other ps i h p no_page ne in
    let r : times_in i (page_chain ps n (page_next ps h)) ≡ 0 = omega arith in
    ap (λ q. page_after (slice_set ps i p) n q.next) g ∙ after_set ps i p n (page_next ps h) r

-- a chain goes by the links alone
abbrev pub SameLinks : List Page → List Page → Type 0
SameLinks ps qs = (k : ℕ) → page_next qs k ≡ page_next ps k

pub chain_links : (ps qs : List Page) → SameLinks ps qs → (n h : ℕ) → page_chain qs n h ≡ page_chain ps n h
chain_links ps qs s zero h = refl
chain_links ps qs s (suc n) h =
    ap (λ xs. h ∷ xs) (ap (page_chain qs n) (s h) ∙ chain_links ps qs s n (page_next ps h))

pub after_links : (ps qs : List Page) → SameLinks ps qs → (n h : ℕ) → page_after qs n h ≡ page_after ps n h
after_links ps qs s zero h = refl
after_links ps qs s (suc n) h = ap (page_after qs n) (s h) ∙ after_links ps qs s n (page_next ps h)

pub after_more : (ps : List Page) (n h : ℕ) → page_after ps (n + 1) h ≡ page_next ps (page_after ps n h)
after_more ps zero h = refl
after_more ps (suc n) h = ap (λ m. page_after ps m h) (let e : suc n + 1 ≡ suc (n + 1) = omega arith in e) ∙ after_more ps n (page_next ps h)

-- a chain of m and n pages
pub chain_append : (ps : List Page) (m n h : ℕ) → page_chain ps (m + n) h ≡ page_chain ps m h ++ page_chain ps n (page_after ps m h)
chain_append ps zero n h = ap (λ m. page_chain ps m h) (let e : zero + n ≡ n = omega arith in e)
chain_append ps (suc m) n h =
    ap (λ k. page_chain ps k h) (let e : suc m + n ≡ suc (m + n) = omega arith in e)
    ∙ ap (λ xs. h ∷ xs) (chain_append ps m n (page_next ps h))

-- the page that i steps lead to is in a longer chain
pub after_in : (ps : List Page) (i n h : ℕ) → i < n → 1 ≤ times_in (page_after ps i h) (page_chain ps n h)
after_in ps i zero h l = absurd (omega arith)
after_in ps zero (suc n) h l =
    let s = times_cons h h (page_chain ps n (page_next ps h)) in
    let o = one_self h in
    omega arith
after_in ps (suc i) (suc n) h l =
    let s = times_cons (page_after ps (suc i) h) h (page_chain ps n (page_next ps h)) in
    let r = after_in ps i n (page_next ps h) (omega arith) in
    omega arith

-- no two places of a chain have the same page, where each page stands in it once
pub after_twice : (ps : List Page) (i j n h : ℕ) → i < j → j < n → page_after ps i h ≡ page_after ps j h → 2 ≤ times_in (page_after ps i h) (page_chain ps n h)
after_twice ps zero zero n h l m e = absurd (omega arith)
after_twice ps (suc i) zero n h l m e = absurd (omega arith)
after_twice ps zero (suc j) zero h l m e = absurd (omega arith)
after_twice ps (suc i) (suc j) zero h l m e = absurd (omega arith)
after_twice ps zero (suc j) (suc n) h l m e =
    let s = times_cons h h (page_chain ps n (page_next ps h)) in
    let o = one_self h in
    let r = after_in ps j n (page_next ps h) (omega arith) in
    let f = ap (λ k. times_in k (page_chain ps n (page_next ps h))) e in
    omega arith
after_twice ps (suc i) (suc j) (suc n) h l m e =
    let s = times_cons (page_after ps (suc i) h) h (page_chain ps n (page_next ps h)) in
    let r = after_twice ps i j n (page_next ps h) (omega arith) (omega arith) e in
    omega arith

-- where all pages of a chain are below a number, so is the one that i steps lead to
pub after_below : (ps : List Page) (i n h top : ℕ) → i < n → ((k : ℕ) → top ≤ k → times_in k (page_chain ps n h) ≡ 0) → page_after ps i h < top
after_below ps i n h top l none =
    let a = after_in ps i n h l in
    ⊎_elim (λ w. w) (λ ge. absurd (omega (arith, none (page_after ps i h) ge))) (cases_lt (page_after ps i h) top)

pub held_cons : (ps : List Page) (k : ℕ) (e : Entry) (es : List Entry) → held_count ps k (e ∷ es) ≡ times_in k (page_chain ps e.pages e.head) + held_count ps k es
held_cons ps k e es = sum_by-cons (λ x. times_in k (page_chain ps x.pages x.head)) e es

-- how often k stands in h, h + 1, .. of n places
abbrev spanned : ℕ → ℕ → ℕ → ℕ
spanned k h n = cond (nat_lt k h) 0 (cond (nat_lt k (h + n)) 1 0)

line_times : (ps : List Page) (top : ℕ) → LinkedLine ps top → (k n h : ℕ) → h + n ≤ top → times_in k (page_chain ps n h) ≡ spanned k h n
line_times ps top next k zero h le = let z : 0 ≡ spanned k h 0 = grind (arith, nat_tests) in z
line_times ps top next k (suc n) h le =
    let s = times_cons k h (page_chain ps n (page_next ps h)) in
    let a = ap (λ g. times_in k (page_chain ps n g)) (next h (omega arith)) in
    let i = line_times ps top next k n (h + 1) (omega arith) in
    let g : one_if k h + spanned k (h + 1) n ≡ spanned k h (suc n) = grind (arith, nat_tests) in
    s ∙ ap (λ m. one_if k h + m) (a ∙ i) ∙ g

spanned_in : (k n : ℕ) → k < n → spanned k 0 n ≡ 1
spanned_in k n h = grind (arith, nat_tests)

spanned_out : (k n : ℕ) → n ≤ k → spanned k 0 n ≡ 0
spanned_out k n h = grind (arith, nat_tests)

-- in a new store each page is free
pub fresh_one : (ps : List Page) (top : ℕ) → LinkedLine ps top → (k : ℕ) → k < top → owner_count ps 0 top [] k ≡ 1
fresh_one ps top next k h = let a = line_times ps top next k top 0 (omega arith) in let g = spanned_in k top h in omega arith

pub fresh_none : (ps : List Page) (top : ℕ) → LinkedLine ps top → (k : ℕ) → top ≤ k → owner_count ps 0 top [] k ≡ 0
fresh_none ps top next k h = let a = line_times ps top next k top 0 (omega arith) in let g = spanned_out k top h in omega arith

-- equal pages are full where one is
pub full_same : (n : ℕ) (p : Page) → length p.literals ≡ 8 → FullPages (replicate n p) n
full_same n p e k l = ap (λ q. length q.literals) (get_or-replicate n k p no_page l) ∙ e

-- a write of a full page keeps all full
pub full_set : (ps : List Page) (i : ℕ) (p : Page) (top : ℕ) → i < length ps → length p.literals ≡ 8 → FullPages ps top → FullPages (slice_set ps i p) top
full_set ps i p top r e f k l =
    ⊎_elim
    (λ (q : k ≡ i). ap (λ j. length (slice_index_or (slice_set ps i p) j no_page).literals) q ∙ ap (λ q. length q.literals) (get_or-set_same ps i p no_page r) ∙ e)
    (λ ne. ap (λ q. length q.literals) (get_or-set_other ps i k p no_page ne) ∙ f k l)
    (cases_eq k i)

-- one page more is linked to the next one
pub linked_more : (ps : List Page) (i : ℕ) (p : Page) → i < length ps → p.next ≡ i + 1 → LinkedLine ps i → LinkedLine (slice_set ps i p) (i + 1)
linked_more ps i p r e f =
    below_more _ _
    (λ k l. let ne : k ≢ i = omega arith in ap (λ q. q.next) (get_or-set_other ps i k p no_page ne) ∙ f k l)
    (ap (λ q. q.next) (get_or-set_same ps i p no_page r) ∙ e)

-- a shorter chain from the same page lies in the pages too
pub chain_front : (ps : List Page) (m n h top : ℕ) → m ≤ n → ((k : ℕ) → top ≤ k → times_in k (page_chain ps n h) ≡ 0) → (k : ℕ) → top ≤ k → times_in k (page_chain ps m h) ≡ 0
chain_front ps m n h top le none k l =
    let s : n ≡ m + (n - m) = omega arith in
    let p = ap (λ x. times_in k (page_chain ps x h)) s ∙ ap (times_in k) (chain_append ps m (n - m) h) ∙ times_append k (page_chain ps m h) (page_chain ps (n - m) (page_after ps m h)) in
    let z = none k l in
    omega arith

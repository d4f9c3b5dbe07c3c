-- Pages in chains, the entries that own chains, and the table of clauses that these mean.
use Rattle.std.specs.Prelude.{◌≡◌, ℕ, zero, suc, ◌+◌, ◌<◌, ◌≤◌, List, [], ◌∷◌, map, length, take, sum_by, count_by, nat_eq, slice_index_or, refl}
use Rattle.std.proofs.Common.{lit≤}
use Rattle.std.specs.List.{flat_map}
use Rattle.cnf.specs.Formula.{Clause}
use Rattle.cnf.specs.Tabled.{numbers_of}
use Rattle.store.specs.Tables.{Kind, Table}
use Rattle.pages.specs.declared.page.Page.{Page}
use Rattle.pages.specs.declared.entry.Entry.{Entry}

-- eight literals to a page, 1,024 pages, and no clause longer than 1,024
abbrev pub paged_kind : Kind
paged_kind = record { unit_size = 8; units = 1024; longest = 1024 }

-- what is read past the end of the pages
abbrev pub no_page : Page
no_page = record { next = 0; literals = [] }

-- what is read past the end of the directory
abbrev pub no_entry : Entry
no_entry = record { id = 0; head = 0; pages = 1; size = 0; fitting = refl; short = lit≤ tt }

-- the page that follows page h
abbrev pub page_next : List Page → ℕ → ℕ
page_next ps h = (slice_index_or ps h no_page).next

-- the n pages that are reached from page h
abbrev pub page_chain : List Page → ℕ → ℕ → List ℕ
page_chain ps zero h = []
page_chain ps (suc n) h = h ∷ page_chain ps n (page_next ps h)

-- the page to which n steps lead from page h
abbrev pub page_after : List Page → ℕ → ℕ → ℕ
page_after ps zero h = h
page_after ps (suc n) h = page_after ps n (page_next ps h)

-- how often k stands in a list
abbrev pub times_in : ℕ → List ℕ → ℕ
times_in k xs = count_by (λ x. nat_eq x k) xs

-- how often page k stands in the chains of a directory
abbrev pub held_count : List Page → ℕ → List Entry → ℕ
held_count ps k es = sum_by (λ e. times_in k (page_chain ps e.pages e.head)) es

-- how often page k stands in the free chain and in those of a directory together
abbrev pub owner_count : List Page → ℕ → ℕ → List Entry → ℕ → ℕ
owner_count ps f n es k = times_in k (page_chain ps n f) + held_count ps k es

-- the number of pages that a directory's chains have
abbrev pub page_total : List Entry → ℕ
page_total es = sum_by (λ e. e.pages) es

-- the numbers of the literals on page k
abbrev pub page_numbers : List Page → ℕ → Clause
page_numbers ps k = numbers_of (slice_index_or ps k no_page).literals

-- the numbers on the n pages from page h, page after page
abbrev pub chain_numbers : List Page → ℕ → ℕ → Clause
chain_numbers ps n h = flat_map (page_numbers ps) (page_chain ps n h)

-- the clause of an entry: as many of its chain's first numbers as its size says
abbrev pub entry_clause : List Page → Entry → Clause
entry_clause ps e = take e.size (chain_numbers ps e.pages e.head)

-- the table that pages and a directory mean
abbrev pub table_of : List Page → List Entry → Table
table_of ps es = map (λ e. (e.id, entry_clause ps e)) es

-- every page below a number has eight literals
abbrev pub FullPages : List Page → ℕ → Type 0
FullPages ps top = (k : ℕ) → k < top → length (slice_index_or ps k no_page).literals ≡ 8

-- the id at a place of a directory
abbrev pub id_at : List Entry → ℕ → ℕ
id_at es k = (slice_index_or es k no_entry).id

-- the ids of a directory rise
abbrev pub RisingIds : List Entry → Type 0
RisingIds es = (i j : ℕ) → i < j → j < length es → id_at es i < id_at es j

-- pages that each have the next one as successor, up to a number
abbrev pub LinkedLine : List Page → ℕ → Type 0
LinkedLine ps top = (k : ℕ) → k < top → page_next ps k ≡ k + 1

-- an id stands at a place of a directory
pub record HeldAt (es : List Entry) (i at : ℕ) : Type 0 where
  pub inside : at < length es
  pub is : id_at es at ≡ i
  pub before : (k : ℕ) → k < at → id_at es k < i

-- an id is not in a directory, and this is its place
pub record GapAt (es : List Entry) (i at : ℕ) : Type 0 where
  pub within : at ≤ length es
  pub before : (k : ℕ) → k < at → id_at es k < i
  pub after : (k : ℕ) → at ≤ k → k < length es → i < id_at es k

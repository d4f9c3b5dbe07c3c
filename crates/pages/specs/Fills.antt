-- One turn of writing literals to a chain: page i gets the literals from 8 * i on.
use Rattle.std.specs.Prelude.{◌≡◌, ℕ, ◌+◌, ◌*◌, ◌/◌, ◌%◌, ◌<◌, ◌≤◌, ◌≢◌, List, length, get_or, slice_index_or, slice_set}
use Rattle.std.proofs.Common.{sym, ap, ◌∙◌, ⊎_elim, arith}
use Rattle.std.proofs.lemmas.List.{get_or-set_same, get_or-set_other}
use Rattle.std.proofs.lemmas.Bool.{cases_lt, cases_eq}
use Rattle.cnf.specs.declared.literal.Literal.{Literal}
use Rattle.cnf.specs.Tabled.{no_literal}
use Rattle.pages.specs.declared.page.Page.{Page}
use Rattle.pages.specs.Chained.{no_page, page_next, page_chain, page_after, times_in}
use Rattle.pages.specs.Chains.{SameLinks, after_more, after_in, after_twice, after_below}

-- the first places of a chain hold a list's literals
abbrev pub HoldsFirst : List Page → List Page → ℕ → ℕ → List Literal → Type 0
HoldsFirst ps qs h top ls = (q : ℕ) → q < top → q < length ls → slice_index_or (get_or qs (page_after ps (q / 8) h) no_page).literals (q % 8) no_literal ≡ slice_index_or ls q no_literal

-- the pages outside a chain are as they were
abbrev pub OthersSame : List Page → List Page → ℕ → ℕ → Type 0
OthersSame ps qs n h = (k : ℕ) → times_in k (page_chain ps n h) ≡ 0 → slice_index_or qs k no_page ≡ slice_index_or ps k no_page

module _ (ps qs : List Page) (h need i p : ℕ) (part ls : List Literal)
    (at : p ≡ page_after ps i h) (lt : i < need) (once : (k : ℕ) → times_in k (page_chain ps need h) ≤ 1) (room : p < length qs) where
  abbrev new : Page
  new = record { next = (get_or qs p no_page).next; literals = part }

  pub next_is : SameLinks ps qs → (get_or qs p no_page).next ≡ page_after ps (i + 1) h
  next_is links = links p ∙ ap (page_next ps) at ∙ sym (after_more ps i h)

  pub links_still : SameLinks ps qs → SameLinks ps (slice_set qs p new)
  links_still links k =
      ⊎_elim
      (λ (e : k ≡ p). ap (page_next (slice_set qs p new)) e ∙ ap (λ x. x.next) (get_or-set_same qs p new no_page room) ∙ ap (page_next qs) (sym e) ∙ links k)
      (λ ne. ap (λ x. x.next) (get_or-set_other qs p k new no_page ne) ∙ links k)
      (cases_eq k p)

  pub others_still : OthersSame ps qs need h → OthersSame ps (slice_set qs p new) need h
  others_still others k z =
      let a = after_in ps i need h lt in
      let ne : k ≢ p = λ e. let y = ap (λ x. times_in x (page_chain ps need h)) (e ∙ at) in omega arith in
      get_or-set_other qs p k new no_page ne ∙ others k z

  earlier : (q : ℕ) → q < 8 * i → page_after ps (q / 8) h ≢ p
  earlier q l e =
      let t = after_twice ps (q / 8) i need h (omega arith) lt (e ∙ at) in
      omega (arith, once (page_after ps (q / 8) h))

  pub holds_more : HoldsFirst ps qs h (8 * i) ls → ((j : ℕ) → j < 8 → i * 8 + j < length ls → slice_index_or part j no_literal ≡ slice_index_or ls (i * 8 + j) no_literal) → HoldsFirst ps (slice_set qs p new) h (8 * (i + 1)) ls
  holds_more text cuts q l w =
      ⊎_elim
      (λ (u : q < 8 * i). ap (λ x. get_or x.literals (q % 8) no_literal) (get_or-set_other qs p (page_after ps (q / 8) h) new no_page (earlier q u)) ∙ text q u w)
      (λ (u : 8 * i ≤ q).
      let d : q / 8 ≡ i = omega arith in
      let s : i * 8 + q % 8 ≡ q = omega arith in
      ap (λ m. get_or (get_or (slice_set qs p new) (page_after ps m h) no_page).literals (q % 8) no_literal) d
      ∙ ap (λ x. get_or (get_or (slice_set qs p new) x no_page).literals (q % 8) no_literal) (sym at)
      ∙ ap (λ x. get_or x.literals (q % 8) no_literal) (get_or-set_same qs p new no_page room)
      ∙ cuts (q % 8) (omega arith) (omega arith)
      ∙ ap (λ m. get_or ls m no_literal) s)
      (cases_lt q (8 * i))

-- one literal more of a page's part
pub cut_more : (ls part : List Literal) (from j : ℕ) → j < length part → ((k : ℕ) → k < j → from + k < length ls → slice_index_or part k no_literal ≡ slice_index_or ls (from + k) no_literal)
    → (k : ℕ) → k < j + 1 → from + k < length ls → slice_index_or (slice_set part j (slice_index_or ls (from + j) no_literal)) k no_literal ≡ slice_index_or ls (from + k) no_literal
cut_more ls part from j l was k w v =
    ⊎_elim
    (λ (e : k ≡ j). ap (λ m. get_or (slice_set part j (slice_index_or ls (from + j) no_literal)) m no_literal) e ∙ get_or-set_same part j (slice_index_or ls (from + j) no_literal) no_literal l ∙ ap (λ m. get_or ls (from + m) no_literal) (sym e))
    (λ (ne : k ≡ j → ⊥). get_or-set_other part j k (slice_index_or ls (from + j) no_literal) no_literal ne ∙ was k (omega arith) v)
    (cases_eq k j)

-- the page of a turn is a page
pub turn_below : (ps : List Page) (i n h p top : ℕ) → p ≡ page_after ps i h → i < n → ((k : ℕ) → top ≤ k → times_in k (page_chain ps n h) ≡ 0) → p < top
turn_below ps i n h p top e l none = let b = after_below ps i n h top l none in omega arith

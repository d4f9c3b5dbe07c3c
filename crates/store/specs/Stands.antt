-- Entries and the rows that they stand for: a search among them, and what stands where it ends.
use Rattle.std.specs.Prelude.{◌≡◌, ℕ, zero, suc, ◌+◌, ◌-◌, ◌<◌, ◌≤◌, true, List, [], ◌∷◌, ◌++◌, length, get_or, take, drop, Some, None, Ok, Err, Result, ◌≢◌, slice_index_or, refl}
use Rattle.std.specs.List.{AllWithin}
use Rattle.std.specs.List.Sorted.{IsNonDecreasingBy, IsSearchInRange, IsBinarySearchResult}
use Rattle.std.specs.Ordering.{nat_cmp, ordering_index}
use Rattle.std.proofs.Common.{sym, ◌∙◌, ap, subst, arith}
use Rattle.std.proofs.lemmas.List.{length-map, get_or-map, take-map, drop-map, map-append}
use Rattle.std.proofs.lemmas.Cmp.{ranked}
use Rattle.std.proofs.lemmas.Bool.Decides.{nat_tests}
use Rattle.cnf.specs.Formula.{Clause}
use Rattle.cnf.specs.Tabled.{length_numbers}
use Rattle.store.specs.declared.entry.Entry.{Entry}
use Rattle.std.specs.List.{insert as inserted, remove}
use Rattle.store.specs.Tables.{cost, costs, free_units, lookup, insert, erase, Ascending}
use Rattle.store.specs.Rows.{flat_kind, row_of, rows_of, clause_of, ids_ascend, place_in, FoundPlace}
use Rattle.store.specs.Canon.{lookup_nil, lookup_there, ascending_insert, ascending_erase}
use Rattle.store.specs.Places.{Here, ascending_from, ascends_from, place_next, place_first, place_past, place_not_past, lookup_at, absent_at, insert_at, erase_at}

pub length_rows : (es : List Entry) → length (rows_of es) ≡ length es
length_rows es = length-map es row_of

pub row_at : (es : List Entry) (m : ℕ) (e : Entry) → m < length es → e ≡ slice_index_or es m e → slice_index_or (rows_of es) m (row_of e) ≡ row_of e
row_at es m e h q = get_or-map row_of es m e (row_of e) h ∙ ap row_of (sym q)

-- what any search by id may know of a place, be it by halves or entry by entry
module _ (i : ℕ) (es : List Entry) (up : ids_ascend 0 (rows_of es) ≡ true) (m : ℕ) (e : Entry) (h : m < length es) (q : e ≡ slice_index_or es m e) where
  -- the place lies past an entry with a lesser id, and else not
  pub past : e.id < i → m + 1 ≤ place_in i (rows_of es)
  past l =
      let n = length_rows es in
      let a = ap (λ (r : ℕ × Clause). r.0) (row_at es m e h q) in
      place_past 0 i m (rows_of es) (row_of e) (ascending_from 0 (rows_of es) up) (omega arith) (omega arith)

  pub not_past : i ≤ e.id → place_in i (rows_of es) ≤ m
  not_past l =
      let n = length_rows es in
      let a = ap (λ (r : ℕ × Clause). r.0) (row_at es m e h q) in
      place_not_past i m (rows_of es) (row_of e) (omega arith) (omega arith)

-- the id is not held where the place is past the end, or another id stands there
pub absent_end : (i : ℕ) (es : List Entry) → ids_ascend 0 (rows_of es) ≡ true → (p : ℕ) → p ≡ place_in i (rows_of es) → length es ≤ p → lookup i (rows_of es) ≡ None
absent_end i es up p r h =
    let n = length_rows es in
    absent_at 0 i (rows_of es) (0, []) (ascending_from 0 (rows_of es) up) (λ w. let l = w.0 in omega arith)

pub absent_other : (i : ℕ) (es : List Entry) → ids_ascend 0 (rows_of es) ≡ true → (p : ℕ) (e : Entry) → p ≡ place_in i (rows_of es) → p < length es → e ≡ slice_index_or es p e → (e.id ≢ i) → lookup i (rows_of es) ≡ None
absent_other i es up p e r h q ne =
    let a = ap (λ (x : ℕ × Clause). x.0) (ap (λ k. get_or (rows_of es) k (row_of e)) (sym r) ∙ row_at es p e h q) in
    absent_at 0 i (rows_of es) (row_of e) (ascending_from 0 (rows_of es) up) (λ w. ne (sym a ∙ w.1))

-- the ids are at least the least, and rise
ids_from : (b k : ℕ) (es : List Entry) (d : Entry) → Ascending b (rows_of es) → k < length es → b ≤ (get_or es k d).id
ids_from b k [] d w h = absurd (omega arith)
ids_from b zero (e ∷ es) d w h = w.0
ids_from b (suc k) (e ∷ es) d w h = omega (arith, w.0, ids_from (suc e.id) k es d w.1)

ids_rise : (b j k : ℕ) (es : List Entry) (d : Entry) → Ascending b (rows_of es) → j ≤ k → k < length es → (get_or es j d).id ≤ (get_or es k d).id
ids_rise b j k [] d w le h = absurd (omega arith)
ids_rise b zero zero (e ∷ es) d w le h = omega arith
ids_rise b zero (suc k) (e ∷ es) d w le h = omega (arith, ids_from (suc e.id) k es d w.1)
ids_rise b (suc j) zero (e ∷ es) d w le h = absurd (omega arith)
ids_rise b (suc j) (suc k) (e ∷ es) d w le h = ids_rise (suc e.id) j k es d w.1 (omega arith) (omega arith)

-- so the comparisons with an id rise, as a binary search asks
comparisons_rise : (i : ℕ) (es : List Entry) → Ascending 0 (rows_of es) → IsNonDecreasingBy (λ (e : Entry). ordering_index (nat_cmp e.id i)) es
comparisons_rise i es w j k d le h = let up = ids_rise 0 j k es d w le h in grind (arith, nat_tests)

-- where the id stands is its place
place_held : (b i p : ℕ) (es : List Entry) (d : Entry) → Ascending b (rows_of es) → p < length es → (get_or es p d).id ≡ i → p ≡ place_in i (rows_of es)
place_held b i p [] d w h q = absurd (omega arith)
place_held b i zero (e ∷ es) d w h q = sym (place_first i (row_of e) (rows_of es) (omega arith))
place_held b i (suc p) (e ∷ es) d w h q =
    let l = ids_from (suc e.id) p es d w.1 (omega arith) in
    ap suc (place_held (suc e.id) i p es d w.1 (omega arith) q) ∙ sym (place_next i (row_of e) (rows_of es) (omega arith))

-- and so is what lies between the lesser ids and the greater, where it is not held
place_between : (i p : ℕ) (es : List Entry) → p ≤ length es → AllWithin (λ (e : Entry). e.id < i) es 0 p → AllWithin (λ (e : Entry). i < e.id) es p (length es) → (p ≡ place_in i (rows_of es)) × (lookup i (rows_of es) ≡ None)
place_between i zero [] h lo hi = (refl, lookup_nil i)
place_between i (suc p) [] h lo hi = absurd (omega arith)
place_between i zero (e ∷ es) h lo hi =
    let first = hi 0 e (omega arith) (omega arith) in
    let ih = place_between i 0 es (omega arith) (λ k d l m. absurd (omega arith)) (λ k d l m. hi (suc k) d (omega arith) (omega arith)) in
    (sym (place_first i (row_of e) (rows_of es) (omega arith)), lookup_there i (row_of e) (rows_of es) (omega arith) ∙ ih.1)
place_between i (suc p) (e ∷ es) h lo hi =
    let first = lo 0 e (omega arith) (omega arith) in
    let ih = place_between i p es (omega arith) (λ k d l m. lo (suc k) d (omega arith) (omega arith)) (λ k d l m. hi (suc k) d (omega arith) (omega arith)) in
    (ap suc ih.0 ∙ sym (place_next i (row_of e) (rows_of es) (omega arith)), lookup_there i (row_of e) (rows_of es) (omega arith) ∙ ih.1)

-- an element within a list
element_at : (es : List Entry) (p : ℕ) → p < length es → (e : Entry) × (e ≡ slice_index_or es p e)
element_at [] p h = absurd (omega arith)
element_at (e ∷ es) zero h = (e, refl)
element_at (e ∷ es) (suc p) h = element_at es p (omega arith)

-- a binary search by id finds the place
pub searched : (i : ℕ) (es : List Entry) → ids_ascend 0 (rows_of es) ≡ true → (r : Result ℕ ℕ) → IsSearchInRange r (length es) → IsBinarySearchResult (λ (e : Entry). nat_cmp e.id i) es r → FoundPlace i es r
searched i es up (Ok p) h equal =
    let is : (d : Entry) → (get_or es p d).id ≡ i = λ d. ranked _ i _ (sym (equal d)) in
    let e = element_at es p h in
    (place_held 0 i p es e.0 (ascending_from 0 (rows_of es) up) h (is e.0), h, is)
searched i es up (Err p) h parted =
    let w = parted (comparisons_rise i es (ascending_from 0 (rows_of es) up)) in
    let q = place_between i p es h (λ k d l m. ranked _ i _ (sym (w.0 k d l m))) (λ k d l m. ranked _ i _ (sym (w.1 k d l m))) in
    (q.0, h, q.1)

-- each clause costs one unit
pub cost_one : (c : Clause) → length c ≤ 32 → cost flat_kind c ≡ 1
unfolding cost
cost_one c h = omega arith

pub costs_rows : (es : List Entry) → costs flat_kind (rows_of es) ≡ length es
unfolding costs
costs_rows [] = refl
costs_rows (e ∷ es) =
    let ih = costs_rows es in
    let s = e.short in
    let n = length_numbers e.literals.items in
    let o = cost_one (clause_of e) (omega arith) in
    omega arith

-- the units that are left are those without an entry
pub free_rows : (es : List Entry) → free_units flat_kind (rows_of es) ≡ 64 - length es
unfolding free_units
free_rows es = let c = costs_rows es in omega arith

-- as many entries as there are units cost no more than these
pub rows_within : (es : List Entry) (n : ℕ) → n ≡ length es → n ≤ 64 → costs flat_kind (rows_of es) ≤ flat_kind.units
rows_within es n is few = let c = costs_rows es in omega arith

-- what stands where a search has found the id
pub found_here : (i : ℕ) (es : List Entry) (p : ℕ) (e : Entry) → FoundPlace i es (Ok p) → e ≡ slice_index_or es p e → Here (place_in i (rows_of es)) i (rows_of es) (row_of e)
found_here i es p e f q =
    let n = length_rows es in
    subst (λ k. Here k i (rows_of es) (row_of e)) f.0
    (let h = f.1 in omega arith, ap (λ (r : ℕ × Clause). r.0) (row_at es p e f.1 q) ∙ ap (λ (x : Entry). x.id) q ∙ f.2 e)

pub found_lookup : (i : ℕ) (es : List Entry) (p : ℕ) (e : Entry) → FoundPlace i es (Ok p) → e ≡ slice_index_or es p e → lookup i (rows_of es) ≡ Some (clause_of e)
found_lookup i es p e f q =
    lookup_at i (rows_of es) (row_of e) (found_here i es p e f q)
    ∙ ap (λ k. Some (get_or (rows_of es) k (row_of e)).1) (sym f.0)
    ∙ ap (λ (r : ℕ × Clause). Some r.1) (row_at es p e f.1 q)

-- an entry put in or taken out where the search ended is a row put in or taken out
pub put_rows : (i : ℕ) (c : Clause) (es : List Entry) (p : ℕ) (x : Entry) → FoundPlace i es (Err p) → row_of x ≡ (i, c) → rows_of (inserted es p x) ≡ insert i c (rows_of es)
put_rows i c es p x f r =
    map-append row_of (take p es) (x ∷ drop p es)
    ∙ ap (λ u. u ++ row_of x ∷ rows_of (drop p es)) (sym (take-map row_of p es))
    ∙ ap (λ u. take p (rows_of es) ++ row_of x ∷ u) (sym (drop-map row_of p es))
    ∙ ap (λ u. take p (rows_of es) ++ u ∷ drop p (rows_of es)) r
    ∙ ap (λ k. take k (rows_of es) ++ (i, c) ∷ drop k (rows_of es)) f.0
    ∙ sym (insert_at i c (rows_of es) f.2)

pub remove_rows : (i : ℕ) (es : List Entry) (p : ℕ) (e : Entry) → FoundPlace i es (Ok p) → e ≡ slice_index_or es p e → rows_of (remove es p) ≡ erase i (rows_of es)
remove_rows i es p e f q =
    map-append row_of (take p es) (drop (suc p) es)
    ∙ ap (λ u. u ++ rows_of (drop (suc p) es)) (sym (take-map row_of p es))
    ∙ ap (λ u. take p (rows_of es) ++ u) (sym (drop-map row_of (suc p) es))
    ∙ ap (λ k. take k (rows_of es) ++ drop (suc k) (rows_of es)) f.0
    ∙ sym (erase_at i (rows_of es) (row_of e) (found_here i es p e f q))

-- the ids still ascend then
pub put_ordered : (i : ℕ) (c : Clause) (es : List Entry) (p : ℕ) (x : Entry) → ids_ascend 0 (rows_of es) ≡ true → FoundPlace i es (Err p) → row_of x ≡ (i, c) → ids_ascend 0 (rows_of (inserted es p x)) ≡ true
put_ordered i c es p x up f r =
    let w = ascending_insert 0 i c (rows_of es) (omega arith) f.2 (ascending_from 0 (rows_of es) up) in
    ap (ids_ascend 0) (put_rows i c es p x f r) ∙ ascends_from 0 (insert i c (rows_of es)) w

pub remove_ordered : (i : ℕ) (es : List Entry) (p : ℕ) (e : Entry) → ids_ascend 0 (rows_of es) ≡ true → FoundPlace i es (Ok p) → e ≡ slice_index_or es p e → ids_ascend 0 (rows_of (remove es p)) ≡ true
remove_ordered i es p e up f q =
    let w = ascending_erase 0 i (rows_of es) (ascending_from 0 (rows_of es) up) in
    ap (ids_ascend 0) (remove_rows i es p e f q) ∙ ascends_from 0 (erase i (rows_of es)) w

-- where a search has found the id, it is held
pub found_held : (i : ℕ) (es : List Entry) (p : ℕ) → FoundPlace i es (Ok p) → (c : Clause) × (lookup i (rows_of es) ≡ Some c)
found_held i es p f =
    let e = element_at es p f.1 in
    (clause_of e.0, found_lookup i es p e.0 f e.1)

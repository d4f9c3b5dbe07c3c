-- The place of an id among rows: where a search goes, and what stands there.
use Rattle.std.specs.Prelude.{◌≡◌, ℕ, zero, suc, ◌+◌, ◌<◌, ◌≤◌, true, ◌⊎◌, [], ◌∷◌, ◌++◌, length, take, drop, Some, None, nat_le, slice_index_or, refl}
use Rattle.std.proofs.Common.{sym, ◌∙◌, ap, subst, inl, inr, arith}
use Rattle.std.proofs.lemmas.Bool.{cases_lt, lt-ltb, le-ltb, leb-true, le-leb, and_parts, and_from}
use Rattle.cnf.specs.Formula.{Clause}
use Rattle.store.specs.Tables.{Table, lookup, insert, erase, Ascending}
use Rattle.store.specs.Rows.{ids_ascend, place_in}
use Rattle.store.specs.Canon.{Row, lookup_nil, lookup_here, lookup_there, insert_nil, insert_here, insert_there, erase_here, erase_there, absent_below}

-- the test of ascending ids says so
pub ascending_from : (b : ℕ) (t : Table) → ids_ascend b t ≡ true → Ascending b t
ascending_from b [] h = tt
ascending_from b (e ∷ t) h =
    let p = and_parts (nat_le b e.0) (ids_ascend (suc e.0) t) h in
    (leb-true b e.0 p.0, ascending_from (suc e.0) t p.1)

pub ascends_from : (b : ℕ) (t : Table) → Ascending b t → ids_ascend b t ≡ true
ascends_from b [] h = refl
ascends_from b (e ∷ t) h = and_from (nat_le b e.0) (ids_ascend (suc e.0) t) (le-leb b e.0 h.0) (ascends_from (suc e.0) t h.1)

-- the place of an id, by the first row
pub place_next : (i : ℕ) (e : Row) (t : Table) → e.0 < i → place_in i (e ∷ t) ≡ suc (place_in i t)
place_next i e t h = rw (lt-ltb e.0 i h)

pub place_first : (i : ℕ) (e : Row) (t : Table) → i ≤ e.0 → place_in i (e ∷ t) ≡ 0
place_first i e t h = rw (le-ltb e.0 i h)

-- the laws of places in any table, on which a search by hand stands: no place lies past the end
pub place_within : (i : ℕ) (t : Table) → place_in i t ≤ length t
place_within i [] = omega arith
place_within i (e ∷ t) =
    let ih = place_within i t in
    elim (cases_lt e.0 i) [
      | inl w ↦ let p = place_next i e t w in omega arith
      | inr w ↦ let p = place_first i e t w in omega arith
    ]

-- every id is at least the least
pub ascending_at : (b m : ℕ) (t : Table) (d : Row) → Ascending b t → m < length t → b ≤ (slice_index_or t m d).0
ascending_at b m [] d w h = absurd (omega arith)
ascending_at b zero (e ∷ t) d w h = w.0
ascending_at b (suc m) (e ∷ t) d w h =
    let ih = ascending_at (suc e.0) m t d w.1 (omega arith) in
    let l = w.0 in omega arith

-- a lesser id stands before the place
pub place_past : (b i m : ℕ) (t : Table) (d : Row) → Ascending b t → m < length t → (slice_index_or t m d).0 < i → m + 1 ≤ place_in i t
place_past b i m [] d w h l = absurd (omega arith)
place_past b i zero (e ∷ t) d w h l = let p = place_next i e t l in omega arith
place_past b i (suc m) (e ∷ t) d w h l =
    let ih = place_past (suc e.0) i m t d w.1 (omega arith) l in
    let a = ascending_at (suc e.0) m t d w.1 (omega arith) in
    let p = place_next i e t (omega arith) in omega arith

-- an id that is not less stands at the place or after it
pub place_not_past : (i m : ℕ) (t : Table) (d : Row) → m < length t → i ≤ (slice_index_or t m d).0 → place_in i t ≤ m
place_not_past i m [] d h l = absurd (omega arith)
place_not_past i zero (e ∷ t) d h l = let p = place_first i e t l in omega arith
place_not_past i (suc m) (e ∷ t) d h l =
    let ih = place_not_past i m t d (omega arith) l in
    elim (cases_lt e.0 i) [
      | inl w ↦ let p = place_next i e t w in omega arith
      | inr w ↦ let p = place_first i e t w in omega arith
    ]

-- the row at the place has the id
abbrev pub Here : ℕ → ℕ → Table → Row → Type 0
Here p i t d = (p < length t) × ((slice_index_or t p d).0 ≡ i)

-- what a look-up finds, by the row at the place
pub lookup_at : (i : ℕ) (t : Table) (d : Row) → Here (place_in i t) i t d → lookup i t ≡ Some (slice_index_or t (place_in i t) d).1
lookup_at i [] d h = let l = h.0 in absurd (omega arith)
lookup_at i (e ∷ t) d h =
    go (lookup_at i t d) (cases_lt e.0 i)
  where
    go : (Here (place_in i t) i t d → lookup i t ≡ Some (slice_index_or t (place_in i t) d).1) → (e.0 < i) ⊎ (i ≤ e.0) → lookup i (e ∷ t) ≡ Some (slice_index_or (e ∷ t) (place_in i (e ∷ t)) d).1
    go ih (inl w) =
        let q = subst (λ p. Here p i (e ∷ t) d) (place_next i e t w) h in
        lookup_there i e t (omega arith)
        ∙ ih (let l = q.0 in omega arith, q.1)
        ∙ ap (λ p. Some (slice_index_or (e ∷ t) p d).1) (sym (place_next i e t w))
    go ih (inr w) =
        let q = subst (λ p. Here p i (e ∷ t) d) (place_first i e t w) h in
        lookup_here i e t (sym q.1) ∙ ap (λ p. Some (slice_index_or (e ∷ t) p d).1) (sym (place_first i e t w))

-- and an id that does not stand at its place is not held
pub absent_at : (b i : ℕ) (t : Table) (d : Row) → Ascending b t → (Here (place_in i t) i t d → ⊥) → lookup i t ≡ None
absent_at b i [] d w h = lookup_nil i
absent_at b i (e ∷ t) d w h =
    go (absent_at (suc e.0) i t d w.1) (cases_lt e.0 i)
  where
    go : ((Here (place_in i t) i t d → ⊥) → lookup i t ≡ None) → (e.0 < i) ⊎ (i ≤ e.0) → lookup i (e ∷ t) ≡ None
    go ih (inl v) =
        lookup_there i e t (omega arith)
        ∙ ih (λ q. h (subst (λ p. Here p i (e ∷ t) d) (sym (place_next i e t v)) (let l = q.0 in omega arith, q.1)))
    go ih (inr v) =
        let n : e.0 ≡ i → ⊥ = λ q. h (subst (λ p. Here p i (e ∷ t) d) (sym (place_first i e t v)) (omega arith, q)) in
        lookup_there i e t (λ q. n (sym q)) ∙ absent_below (suc e.0) i t w.1 (omega arith)

-- an insertion goes to the place
pub insert_at : (i : ℕ) (c : Clause) (t : Table) → lookup i t ≡ None → insert i c t ≡ take (place_in i t) t ++ (i, c) ∷ drop (place_in i t) t
insert_at i c [] h = insert_nil i c
insert_at i c (e ∷ t) h =
    go (insert_at i c t) (cases_lt e.0 i)
  where
    go : (lookup i t ≡ None → insert i c t ≡ take (place_in i t) t ++ (i, c) ∷ drop (place_in i t) t) → (e.0 < i) ⊎ (i ≤ e.0) → insert i c (e ∷ t) ≡ take (place_in i (e ∷ t)) (e ∷ t) ++ (i, c) ∷ drop (place_in i (e ∷ t)) (e ∷ t)
    go ih (inl w) =
        insert_there i c e t (omega arith)
        ∙ ap (λ r. e ∷ r) (ih (sym (lookup_there i e t (omega arith)) ∙ h))
        ∙ ap (λ p. take p (e ∷ t) ++ (i, c) ∷ drop p (e ∷ t)) (sym (place_next i e t w))
    go ih (inr w) =
        let n : i ≡ e.0 → ⊥ = λ v. let k = lookup_here i e t v in let z : ◌≡◌ {A = ℕ} 0 1 = cc in omega arith in
        insert_here i c e t (omega arith) ∙ ap (λ p. take p (e ∷ t) ++ (i, c) ∷ drop p (e ∷ t)) (sym (place_first i e t w))

-- an erasure takes the row at the place
pub erase_at : (i : ℕ) (t : Table) (d : Row) → Here (place_in i t) i t d → erase i t ≡ take (place_in i t) t ++ drop (suc (place_in i t)) t
erase_at i [] d h = let l = h.0 in absurd (omega arith)
erase_at i (e ∷ t) d h =
    go (erase_at i t d) (cases_lt e.0 i)
  where
    go : (Here (place_in i t) i t d → erase i t ≡ take (place_in i t) t ++ drop (suc (place_in i t)) t) → (e.0 < i) ⊎ (i ≤ e.0) → erase i (e ∷ t) ≡ take (place_in i (e ∷ t)) (e ∷ t) ++ drop (suc (place_in i (e ∷ t))) (e ∷ t)
    go ih (inl w) =
        let q = subst (λ p. Here p i (e ∷ t) d) (place_next i e t w) h in
        erase_there i e t (omega arith)
        ∙ ap (λ r. e ∷ r) (ih (let l = q.0 in omega arith, q.1))
        ∙ ap (λ p. take p (e ∷ t) ++ drop (suc p) (e ∷ t)) (sym (place_next i e t w))
    go ih (inr w) =
        let q = subst (λ p. Here p i (e ∷ t) d) (place_first i e t w) h in
        erase_here i e t (sym q.1) ∙ ap (λ p. take p (e ∷ t) ++ drop (suc p) (e ∷ t)) (sym (place_first i e t w))

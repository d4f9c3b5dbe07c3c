-- The laws of the canonical table: look-ups, lengths and costs after an insertion and an erasure; ids stay ascending; and
-- ascending tables with the same look-ups are the same.
use Rattle.std.specs.Prelude.{◌≡◌, ℕ, suc, ◌+◌, ◌<◌, ◌≤◌, true, false, cond, ◌⊎◌, [], ◌∷◌, length, Some, None, ◌==◌, ◌≢◌}
use Rattle.std.proofs.Math.Path.{refl}
use Rattle.std.proofs.Common.{sym, ◌∙◌, ap, subst, inl, inr, arith}
use Rattle.std.proofs.lemmas.Bool.{cases_eq, cases_lt, eq-eqb, ne_eqb, lt-ltb, le-ltb}
use Rattle.cnf.specs.Formula.{Clause}
use Rattle.store.specs.Tables.{Kind, Table, cost, costs, lookup, insert, erase, Ascending}

-- one id with its clause
abbrev pub Row : Type 0
Row = ℕ × Clause

-- what holds of every entry
abbrev pub Each : (Row → Type 0) → Table → Type 0
Each P [] = Unit {0}
Each P (e ∷ t) = P e × Each P t

-- every id is below j
abbrev pub Below : ℕ → Table → Type 0
Below j t = Each (λ e. e.0 < j) t

-- look-ups
pub lookup_here : (i : ℕ) (e : Row) (t : Table) → i ≡ e.0 → lookup i (e ∷ t) ≡ Some e.1
unfolding lookup
lookup_here i e t h = rw (eq-eqb i e.0 h)

pub lookup_there : (i : ℕ) (e : Row) (t : Table) → (i ≢ e.0) → lookup i (e ∷ t) ≡ lookup i t
unfolding lookup
lookup_there i e t h = rw (ne_eqb i e.0 h)

pub lookup_nil : (i : ℕ) → lookup i [] ≡ None
unfolding lookup
lookup_nil i = refl

-- an id that is not held is none of the ids
pub absent_head : (i : ℕ) (e : Row) (t : Table) → lookup i (e ∷ t) ≡ None → i ≢ e.0
absent_head i e t h w = let k = lookup_here i e t w in let z : ◌≡◌ {A = ℕ} 0 1 = cc in omega arith

pub absent_tail : (i : ℕ) (e : Row) (t : Table) → lookup i (e ∷ t) ≡ None → lookup i t ≡ None
absent_tail i e t h = sym (lookup_there i e t (absent_head i e t h)) ∙ h

-- where an insertion goes
pub insert_here : (i : ℕ) (c : Clause) (e : Row) (t : Table) → i < e.0 → insert i c (e ∷ t) ≡ (i, c) ∷ e ∷ t
unfolding insert
insert_here i c e t h = rw (lt-ltb i e.0 h)

pub insert_there : (i : ℕ) (c : Clause) (e : Row) (t : Table) → e.0 ≤ i → insert i c (e ∷ t) ≡ e ∷ insert i c t
unfolding insert
insert_there i c e t h = rw (le-ltb i e.0 h)

pub insert_nil : (i : ℕ) (c : Clause) → insert i c [] ≡ (i, c) ∷ []
unfolding insert
insert_nil i c = refl

-- look-ups after an insertion
pub lookup_insert_same : (i : ℕ) (c : Clause) (t : Table) → lookup i t ≡ None → lookup i (insert i c t) ≡ Some c
lookup_insert_same i c [] h = rw (insert_nil i c) (lookup_here i (i, c) [] refl)
lookup_insert_same i c (e ∷ t) h =
    let ih = lookup_insert_same i c t (absent_tail i e t h) in
    elim (cases_lt i e.0) [
      | inl w ↦ rw (insert_here i c e t w) (lookup_here i (i, c) (e ∷ t) refl)
      | inr w ↦ rw (insert_there i c e t w) (lookup_there i e (insert i c t) (absent_head i e t h) ∙ ih)
    ]

pub lookup_insert_other : (j i : ℕ) (c : Clause) (t : Table) → (j ≢ i) → lookup j (insert i c t) ≡ lookup j t
lookup_insert_other j i c [] h = rw (insert_nil i c) (lookup_there j (i, c) [] h)
lookup_insert_other j i c (e ∷ t) h =
    let ih = lookup_insert_other j i c t h in
    elim (cases_lt i e.0) [
      | inl w ↦ rw (insert_here i c e t w) (lookup_there j (i, c) (e ∷ t) h)
      | inr w ↦ rw (insert_there i c e t w) (elim (cases_eq j e.0) [
        | inl v ↦ lookup_here j e (insert i c t) v ∙ sym (lookup_here j e t v)
        | inr v ↦ lookup_there j e (insert i c t) v ∙ ih ∙ sym (lookup_there j e t v)
      ])
    ]

-- two insertions change places
pub insert_comm : (i j : ℕ) (c d : Clause) (t : Table) → (i ≢ j) → insert i c (insert j d t) ≡ insert j d (insert i c t)
insert_comm i j c d [] h =
    elim (cases_lt i j) [
      | inl w ↦ rw (insert_nil j d, insert_nil i c) (insert_here i c (j, d) [] w ∙ (rw (insert_there j d (i, c) [] (omega arith), insert_nil j d)))
      | inr w ↦ rw (insert_nil j d, insert_nil i c) (insert_there i c (j, d) [] w ∙ (rw (insert_here j d (i, c) [] (omega arith), insert_nil i c)))
    ]
insert_comm i j c d (e ∷ t) h =
    go (insert_comm i j c d t h) (cases_lt i e.0) (cases_lt j e.0) (cases_lt i j)
  where
    go : insert i c (insert j d t) ≡ insert j d (insert i c t) → (i < e.0) ⊎ (e.0 ≤ i) → (j < e.0) ⊎ (e.0 ≤ j) → (i < j) ⊎ (j ≤ i) → insert i c (insert j d (e ∷ t)) ≡ insert j d (insert i c (e ∷ t))
    go ih (inl u) (inl v) (inl w) =
        rw (insert_here j d e t v, insert_here i c e t u) (insert_here i c (j, d) (e ∷ t) w ∙ sym (insert_there j d (i, c) (e ∷ t) (omega arith) ∙ (rw (insert_here j d e t v))))
    go ih (inl u) (inl v) (inr w) =
        rw (insert_here j d e t v, insert_here i c e t u) (insert_there i c (j, d) (e ∷ t) w ∙ (rw (insert_here i c e t u)) ∙ sym (insert_here j d (i, c) (e ∷ t) (omega arith)))
    go ih (inl u) (inr v) w =
        rw (insert_there j d e t v, insert_here i c e t u) (insert_here i c e (insert j d t) u ∙ sym (insert_there j d (i, c) (e ∷ t) (omega arith) ∙ (rw (insert_there j d e t v))))
    go ih (inr u) (inl v) w =
        rw (insert_here j d e t v, insert_there i c e t u) (insert_there i c (j, d) (e ∷ t) (omega arith) ∙ (rw (insert_there i c e t u)) ∙ sym (insert_here j d e (insert i c t) v))
    go ih (inr u) (inr v) w =
        rw (insert_there j d e t v, insert_there i c e t u) (insert_there i c e (insert j d t) u ∙ (rw ih) ∙ sym (insert_there j d e (insert i c t) v))

-- an erasure undoes an insertion
pub erase_here : (i : ℕ) (e : Row) (t : Table) → i ≡ e.0 → erase i (e ∷ t) ≡ t
unfolding erase
erase_here i e t h = rw (eq-eqb i e.0 h)

pub erase_there : (i : ℕ) (e : Row) (t : Table) → (i ≢ e.0) → erase i (e ∷ t) ≡ e ∷ erase i t
unfolding erase
erase_there i e t h = rw (ne_eqb i e.0 h)

pub erase_insert : (i : ℕ) (c : Clause) (t : Table) → lookup i t ≡ None → erase i (insert i c t) ≡ t
erase_insert i c [] h = rw (insert_nil i c) (erase_here i (i, c) [] refl)
erase_insert i c (e ∷ t) h =
    let ih = erase_insert i c t (absent_tail i e t h) in
    elim (cases_lt i e.0) [
      | inl w ↦ rw (insert_here i c e t w) (erase_here i (i, c) (e ∷ t) refl)
      | inr w ↦ rw (insert_there i c e t w) (erase_there i e (insert i c t) (absent_head i e t h) ∙ (rw ih))
    ]

-- what holds of every entry
pub each_insert : (P : Row → Type 0) (i : ℕ) (c : Clause) (t : Table) → Each P t → P (i, c) → Each P (insert i c t)
each_insert P i c [] h p = rw (insert_nil i c) (p, tt)
each_insert P i c (e ∷ t) h p =
    let ih = each_insert P i c t h.1 p in
    elim (cases_lt i e.0) [
      | inl w ↦ rw (insert_here i c e t w) (p, h)
      | inr w ↦ rw (insert_there i c e t w) (h.0, ih)
    ]

pub each_erase : (P : Row → Type 0) (i : ℕ) (t : Table) → Each P t → Each P (erase i t)
unfolding erase
each_erase P i [] h = tt
each_erase P i (e ∷ t) h =
    let ih = each_erase P i t h.1 in
    elim (i == e.0) as (λ b. Each P (cond b t (e ∷ erase i t))) [ true ↦ h.1 | false ↦ (h.0, ih) ]

pub each_lookup : (P : Row → Type 0) (i : ℕ) (c : Clause) (t : Table) → Each P t → lookup i t ≡ Some c → P (i, c)
each_lookup P i c [] h e = let k = lookup_nil i in let z : ◌≡◌ {A = ℕ} 0 1 = cc in absurd (omega arith)
each_lookup P i c (a ∷ t) h e =
    go (each_lookup P i c t h.1) (cases_eq i a.0)
  where
    go : (lookup i t ≡ Some c → P (i, c)) → (i ≡ a.0) ⊎ (i ≢ a.0) → P (i, c)
    go ih (inl w) =
        let k = lookup_here i a t w in
        let d : a.1 ≡ c = cc in
        let P₂ : ℕ → Clause → Type 0 = λ j d. P (j, d) in
        subst (λ j. P₂ j c) (sym w) (subst (P₂ a.0) d h.0)
    go ih (inr w) = ih (sym (lookup_there i a t w) ∙ e)

pub each_map : (P Q : Row → Type 0) → ((e : Row) → P e → Q e) → (t : Table) → Each P t → Each Q t
each_map P Q f [] h = tt
each_map P Q f (e ∷ t) h = (f e h.0, each_map P Q f t h.1)

-- an id above all others is not held
pub absent_above : (j i : ℕ) (t : Table) → Below j t → j ≤ i → lookup i t ≡ None
absent_above j i [] h w = lookup_nil i
absent_above j i (e ∷ t) h w = lookup_there i e t (λ v. let p = h.0 in omega arith) ∙ absent_above j i t h.1 w

-- ascending ids
pub ascending_weaker : (a b : ℕ) (t : Table) → a ≤ b → Ascending b t → Ascending a t
ascending_weaker a b [] h w = tt
ascending_weaker a b (e ∷ t) h w = (let p = w.0 in omega arith, w.1)

pub ascending_insert : (b i : ℕ) (c : Clause) (t : Table) → b ≤ i → lookup i t ≡ None → Ascending b t → Ascending b (insert i c t)
ascending_insert b i c [] h n w = rw (insert_nil i c) (h, tt)
ascending_insert b i c (e ∷ t) h n w =
    go (ascending_insert (suc e.0) i c t) (cases_lt i e.0)
  where
    go : (suc e.0 ≤ i → lookup i t ≡ None → Ascending (suc e.0) t → Ascending (suc e.0) (insert i c t)) → (i < e.0) ⊎ (e.0 ≤ i) → Ascending b (insert i c (e ∷ t))
    go ih (inl v) = rw (insert_here i c e t v) (h, (v, w.1))
    go ih (inr v) =
        let d = absent_head i e t n in
        rw (insert_there i c e t v) (w.0, ih (omega arith) (absent_tail i e t n) w.1)

pub ascending_erase : (b i : ℕ) (t : Table) → Ascending b t → Ascending b (erase i t)
ascending_erase b i [] w = unfold erase in tt
ascending_erase b i (e ∷ t) w =
    let ih = ascending_erase (suc e.0) i t w.1 in
    elim (cases_eq i e.0) [
      | inl v ↦ rw (erase_here i e t v) (ascending_weaker b (suc e.0) t (let p = w.0 in omega arith) w.1)
      | inr v ↦ rw (erase_there i e t v) (w.0, ih)
    ]

-- lengths and costs
pub length_insert : (i : ℕ) (c : Clause) (t : Table) → length (insert i c t) ≡ suc (length t)
length_insert i c [] = rw (insert_nil i c)
length_insert i c (e ∷ t) =
    let ih = length_insert i c t in
    elim (cases_lt i e.0) [
      | inl w ↦ rw (insert_here i c e t w)
      | inr w ↦ rw (insert_there i c e t w, ih)
    ]

pub length_erase : (i : ℕ) (t : Table) → length (erase i t) ≤ length t
unfolding erase
length_erase i [] = omega arith
length_erase i (e ∷ t) =
    let ih = length_erase i t in
    elim (i == e.0) as (λ b. length (cond b t (e ∷ erase i t)) ≤ suc (length t)) [ true ↦ omega arith | false ↦ omega arith ]

pub costs_cons : (k : Kind) (e : Row) (t : Table) → costs k (e ∷ t) ≡ cost k e.1 + costs k t
unfolding costs
costs_cons k e t = refl

pub costs_insert : (k : Kind) (i : ℕ) (c : Clause) (t : Table) → costs k (insert i c t) ≡ cost k c + costs k t
unfolding costs
costs_insert k i c [] = rw (insert_nil i c)
costs_insert k i c (e ∷ t) =
    let ih = costs_insert k i c t in
    elim (cases_lt i e.0) [
      | inl w ↦ rw (insert_here i c e t w)
      | inr w ↦ rw (insert_there i c e t w, ih) (omega arith)
    ]

pub costs_erase : (k : Kind) (i : ℕ) (t : Table) → costs k (erase i t) ≤ costs k t
unfolding costs erase
costs_erase k i [] = omega arith
costs_erase k i (e ∷ t) =
    let ih = costs_erase k i t in
    elim (i == e.0) as (λ b. costs k (cond b t (e ∷ erase i t)) ≤ cost k e.1 + costs k t) [ true ↦ omega arith | false ↦ omega arith ]

-- an id that is held is no less than the least
pub held_from : (b i : ℕ) (c : Clause) (t : Table) → Ascending b t → lookup i t ≡ Some c → b ≤ i
held_from b i c [] w e = let k = lookup_nil i in let z : ◌≡◌ {A = ℕ} 0 1 = cc in absurd (omega arith)
held_from b i c (a ∷ t) w e =
    go (held_from (suc a.0) i c t w.1) (cases_eq i a.0)
  where
    go : (lookup i t ≡ Some c → suc a.0 ≤ i) → (i ≡ a.0) ⊎ (i ≢ a.0) → b ≤ i
    go ih (inl v) = let l = w.0 in omega arith
    go ih (inr v) = let l = w.0 in let q = ih (sym (lookup_there i a t v) ∙ e) in omega arith

-- below the least id nothing is held
pub absent_below : (b i : ℕ) (t : Table) → Ascending b t → i < b → lookup i t ≡ None
absent_below b i [] w h = lookup_nil i
absent_below b i (a ∷ t) w h =
    let l = w.0 in
    lookup_there i a t (λ e. omega arith) ∙ absent_below (suc a.0) i t w.1 (omega arith)

-- look-ups after an erasure
pub lookup_erase_same : (b i : ℕ) (t : Table) → Ascending b t → lookup i (erase i t) ≡ None
lookup_erase_same b i [] w = unfold erase in lookup_nil i
lookup_erase_same b i (a ∷ t) w =
    go (lookup_erase_same (suc a.0) i t w.1) (cases_eq i a.0)
  where
    go : lookup i (erase i t) ≡ None → (i ≡ a.0) ⊎ (i ≢ a.0) → lookup i (erase i (a ∷ t)) ≡ None
    go ih (inl v) = rw (erase_here i a t v) (absent_below (suc a.0) i t w.1 (omega arith))
    go ih (inr v) = rw (erase_there i a t v) (lookup_there i a (erase i t) v ∙ ih)

pub lookup_erase_other : (j i : ℕ) (t : Table) → (j ≢ i) → lookup j (erase i t) ≡ lookup j t
lookup_erase_other j i [] h = unfold erase in refl
lookup_erase_other j i (a ∷ t) h =
    go (lookup_erase_other j i t h) (cases_eq i a.0) (cases_eq j a.0)
  where
    go : lookup j (erase i t) ≡ lookup j t → (i ≡ a.0) ⊎ (i ≢ a.0) → (j ≡ a.0) ⊎ (j ≢ a.0) → lookup j (erase i (a ∷ t)) ≡ lookup j (a ∷ t)
    go ih (inl v) u = rw (erase_here i a t v) (sym (lookup_there j a t (λ e. h (e ∙ sym v))))
    go ih (inr v) (inl u) = rw (erase_there i a t v) (lookup_here j a (erase i t) u ∙ sym (lookup_here j a t u))
    go ih (inr v) (inr u) = rw (erase_there i a t v) (lookup_there j a (erase i t) u ∙ ih ∙ sym (lookup_there j a t u))

-- tables with the same look-ups are the same
pub same_tables : (a b : ℕ) (t u : Table) → Ascending a t → Ascending b u → ((i : ℕ) → lookup i t ≡ lookup i u) → t ≡ u
same_tables a b [] [] v w h = refl
same_tables a b [] (e ∷ u) v w h =
    let p = h e.0 in
    let q = lookup_here e.0 e u refl in
    let r = lookup_nil e.0 in
    let z : ◌≡◌ {A = ℕ} 0 1 = cc in absurd (omega arith)
same_tables a b (e ∷ t) [] v w h =
    let p = h e.0 in
    let q = lookup_here e.0 e t refl in
    let r = lookup_nil e.0 in
    let z : ◌≡◌ {A = ℕ} 0 1 = cc in absurd (omega arith)
same_tables a b (e ∷ t) (f ∷ u) v w h =
    let q = lookup_here e.0 e t refl in
    let r = lookup_here f.0 f u refl in
    let lo : f.0 ≤ e.0 = held_from f.0 e.0 e.1 (f ∷ u) (omega arith, w.1) (sym (h e.0) ∙ q) in
    let hi : e.0 ≤ f.0 = held_from e.0 f.0 f.1 (e ∷ t) (omega arith, v.1) (h f.0 ∙ r) in
    let i : e.0 ≡ f.0 = omega arith in
    let c : e.1 ≡ f.1 = let x = h e.0 in let y = lookup_here e.0 f u i in cc in
    let rest : (j : ℕ) → lookup j t ≡ lookup j u = λ j. tails j (cases_eq j e.0) i in
    ap₃ i c (same_tables (suc e.0) (suc f.0) t u v.1 w.1 rest)
  where
    ap₃ : e.0 ≡ f.0 → e.1 ≡ f.1 → t ≡ u → e ∷ t ≡ f ∷ u
    ap₃ p q r = λ x. (p x, q x) ∷ r x

    tails : (j : ℕ) → (j ≡ e.0) ⊎ (j ≢ e.0) → e.0 ≡ f.0 → lookup j t ≡ lookup j u
    tails j (inl d) i = absent_below (suc e.0) j t v.1 (omega arith) ∙ sym (absent_below (suc f.0) j u w.1 (omega arith))
    tails j (inr d) i = sym (lookup_there j e t d) ∙ h j ∙ lookup_there j f u (λ x. d (x ∙ sym i))

-- an erasure takes out one entry and its cost
pub length_erase_held : (i : ℕ) (c : Clause) (t : Table) → lookup i t ≡ Some c → length (erase i t) + 1 ≡ length t
length_erase_held i c [] h = let k = lookup_nil i in let z : ◌≡◌ {A = ℕ} 0 1 = cc in absurd (omega arith)
length_erase_held i c (e ∷ t) h =
    go (length_erase_held i c t) (cases_eq i e.0)
  where
    go : (lookup i t ≡ Some c → length (erase i t) + 1 ≡ length t) → (i ≡ e.0) ⊎ (i ≢ e.0) → length (erase i (e ∷ t)) + 1 ≡ suc (length t)
    go ih (inl v) = rw (erase_here i e t v) (omega arith)
    go ih (inr v) = let w = ih (sym (lookup_there i e t v) ∙ h) in rw (erase_there i e t v) (omega arith)

pub costs_erase_held : (k : Kind) (i : ℕ) (c : Clause) (t : Table) → lookup i t ≡ Some c → costs k (erase i t) + cost k c ≡ costs k t
costs_erase_held k i c [] h = let r = lookup_nil i in let z : ◌≡◌ {A = ℕ} 0 1 = cc in absurd (omega arith)
costs_erase_held k i c (e ∷ t) h =
    go (costs_erase_held k i c t) (cases_eq i e.0)
  where
    go : (lookup i t ≡ Some c → costs k (erase i t) + cost k c ≡ costs k t) → (i ≡ e.0) ⊎ (i ≢ e.0) → costs k (erase i (e ∷ t)) + cost k c ≡ costs k (e ∷ t)
    go ih (inl v) =
        let p = lookup_here i e t v in
        let d : e.1 ≡ c = cc in
        let q = ap (cost k) d in
        let r = costs_cons k e t in
        rw (erase_here i e t v) (omega arith)
    go ih (inr v) =
        let w = ih (sym (lookup_there i e t v) ∙ h) in
        let r = costs_cons k e t in
        let u = costs_cons k e (erase i t) in
        rw (erase_there i e t v) (omega arith)

-- an insertion undoes an erasure
pub insert_erase : (b i : ℕ) (c : Clause) (t : Table) → Ascending b t → lookup i t ≡ Some c → insert i c (erase i t) ≡ t
insert_erase b i c t w h =
    let n = lookup_erase_same b i t w in
    same_tables b b (insert i c (erase i t)) t (ascending_insert b i c (erase i t) (held_from b i c t w h) n (ascending_erase b i t w)) w
    (λ j. elim (cases_eq j i) [
      | inl e ↦ ap (λ x. lookup x (insert i c (erase i t))) e ∙ lookup_insert_same i c (erase i t) n ∙ sym h ∙ ap (λ x. lookup x t) (sym e)
      | inr e ↦ lookup_insert_other j i c (erase i t) e ∙ lookup_erase_other j i t e
    ])

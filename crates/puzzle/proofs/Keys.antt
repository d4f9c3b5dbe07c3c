-- Keys: what a search by key tells, and keys that stand once.
use Rattle.std.proofs.Common.{◌≡◌, min, max, Bool, true, false, nat_eq, List, [], ◌∷◌, ◌++◌, Decides, sym, refl, inl, inr, ⊎_elim, arith}
use Rattle.std.specs.List.{AllByRecursion}
use Rattle.std.proofs.ByRecursion.{All-push}
use Rattle.std.proofs.lemmas.Bool.{or_parts, or_from, cases_Bool, cases_eq}
use Rattle.std.proofs.lemmas.Bool.Decides.{not_from_Decides, Decides-eqb, Decides-and}
use Rattle.futoshiki.specs.declared.sign.Sign.{Sign}
use Rattle.futoshiki.proofs.Lists.{all_right}
use Rattle.register.specs.Keys.{has_key}
use Rattle.words.specs.declared.entry.Entry.{Entry}
use Rattle.futoshiki.specs.Pairs.{pair_key, same_pair}
use Rattle.words.specs.Cells.{entry_key}
use Rattle.puzzle.specs.Registers.{SameCell, SamePair, Once}

pub false_from_decides : (P : Type 0) (b : Bool) → Decides b P → (P → ⊥) → b ≡ false
false_from_decides P b d h = ⊎_elim (λ (e : b ≡ true). absurd (h (d.0 e))) (λ (e : b ≡ false). e) (cases_Bool b)

-- the keys of two entries are equal exactly when their cells are
pub told_cell : (e g : Entry) → Decides (nat_eq (entry_key g) (entry_key e)) (SameCell e g)
told_cell e g = let d = Decides-eqb g.cell e.cell in (λ h. sym (d.0 h), λ h. d.1 (sym h))

-- the least and the greatest of two numbers tell them, but not their order
same_ends : (s t : Sign) → min t.lesser t.greater ≡ min s.lesser s.greater → max t.lesser t.greater ≡ max s.lesser s.greater → SamePair s t
same_ends s t low high =
    ⊎_elim
    (λ (e : s.lesser ≡ t.lesser). inl (e, omega arith))
    (λ (d : s.lesser ≡ t.lesser → ⊥). inr (omega arith, omega arith))
    (cases_eq s.lesser t.lesser)

pub told_pair : (s t : Sign) → Decides (same_pair (pair_key t) (pair_key s)) (SamePair s t)
told_pair s t =
    let d = Decides-and _ _ (Decides-eqb (min t.lesser t.greater) (min s.lesser s.greater)) (Decides-eqb (max t.lesser t.greater) (max s.lesser s.greater)) in
    (λ h. same_ends s t (d.0 h).0 (d.0 h).1, λ h. d.1 (elim h [ inl p ↦ (omega arith, omega arith) | inr p ↦ (omega arith, omega arith) ]))

pub turn_cell : (e g : Entry) → SameCell e g → SameCell g e
turn_cell e g h = sym h

pub turn_pair : (s t : Sign) → SamePair s t → SamePair t s
turn_pair s t h = elim h [ inl p ↦ inl (sym p.0, sym p.1) | inr p ↦ inr (sym p.1, sym p.0) ]

-- a key is not found exactly when no record has it
module _ {A K : Type 0} (same : K → K → Bool) (key : A → K) (Same : A → A → Type 0) (told : (x y : A) → Decides (same (key y) (key x)) (Same x y)) where
  pub absent : (x : A) (ys : List A) → has_key same key ys (key x) ≡ false → AllByRecursion (λ y. Same x y → ⊥) ys
  absent x [] h = tt
  absent x (y ∷ ys) h =
      let p = or_parts (same (key y) (key x)) (has_key same key ys (key x)) h in
      (not_from_Decides (same (key y) (key x)) (told x y) p.0, absent x ys p.1)

  pub absent_from : (x : A) (ys : List A) → AllByRecursion (λ y. Same x y → ⊥) ys → has_key same key ys (key x) ≡ false
  absent_from x [] h = refl
  absent_from x (y ∷ ys) h = or_from _ _ (false_from_decides (Same x y) (same (key y) (key x)) (told x y) h.0) (absent_from x ys h.1)

-- a record with a new key can be added, and was new when it came
module _ {A : Type 0} (Same : A → A → Type 0) (turn : (x y : A) → Same x y → Same y x) where
  pub once_push : (xs : List A) (x : A) → Once Same xs → AllByRecursion (λ y. Same x y → ⊥) xs → Once Same (xs ++ x ∷ [])
  once_push [] x o h = (tt, tt)
  once_push (y ∷ ys) x o h = (All-push (λ z. Same y z → ⊥) ys x o.0 (λ s. h.0 (turn y x s)), once_push ys x o.1 h.1)

  pub once_new : (xs : List A) (x : A) (ys : List A) → Once Same (xs ++ x ∷ ys) → AllByRecursion (λ y. Same x y → ⊥) xs
  once_new [] x ys o = tt
  once_new (y ∷ xs) x ys o = ((λ s. (all_right (λ z. Same y z → ⊥) xs (x ∷ ys) o.0).0 (turn x y s)), once_new xs x ys o.1)

-- The block clause: what is told of it, and that it is false under its assignment alone. Assumes nothing.
use Rattle.std.proofs.Common.{◌≡◌, ℕ, zero, suc, ◌+◌, ◌-◌, ◌<◌, ◌≤◌, Bool, true, false, not, ◌&&◌, eqb, leb, ◌≢◌, List, [], ◌∷◌, length, get_or, drop, pos, sym, refl, ap, ◌∙◌, subst, inl, inr, arith, drop-cons}
use Rattle.std.proofs.lemmas.List.{drop_all}
use Rattle.std.proofs.lemmas.Bool.{both_ways, and_parts, and_from, or_parts, or_from, not-false, not_from_true, not_from_false, cases_Bool, le-leb, ne_eqb}
use Rattle.cnf.specs.Formula.{Clause, Assignment, variable_of, literal_true, clause_true, denial_of, denials_from, block_clause, is_among, fresh_literal, proper_after}
use Rattle.cnf.specs.Told.{literal_at}
use Rattle.cnf.proofs.Asked.{literal_in, literal_none}
use Rattle.layers.specs.Blocked.{BlockMeans}
use Rattle.layers.proofs.Appended.{model_append, lawful_append}

-- as many literals as values
length_denials : (i : ℕ) (a : Assignment) → length (denials_from i a) ≡ length a
length_denials i [] = refl
length_denials i (b ∷ a) = ap suc (length_denials (suc i) a)

pub length_block : (a : Assignment) → length (block_clause a) ≡ length a
length_block a = length_denials 0 a

denials_at : (i : ℕ) (a : Assignment) (k : ℕ) → k < length a → get_or (denials_from i a) k (pos 0) ≡ denial_of (i + k) (get_or a k false)
denials_at i [] k h = absurd (omega arith)
denials_at i (b ∷ a) zero h = ap (λ x. denial_of x b) (omega arith)
denials_at i (b ∷ a) (suc k) h = denials_at (suc i) a k (omega arith) ∙ ap (λ x. denial_of x (get_or a k false)) (omega arith)

-- literal j denies the value of variable j
pub denied_at : (a : Assignment) (j : ℕ) → 1 ≤ j → j ≤ 1024 → j ≤ length a → literal_at j (block_clause a) ≡ denial_of (j - 1) (get_or a (j - 1) false)
denied_at a j p near h =
    literal_in (block_clause a) j p near
    ∙ denials_at 0 a (j - 1) (omega arith)
    ∙ ap (λ x. denial_of x (get_or a (j - 1) false)) (omega arith)

pub denied_past : (a : Assignment) (j : ℕ) → length a < j → literal_at j (block_clause a) ≡ pos 0
denied_past a j h = let e = length_block a in literal_none (block_clause a) j (omega arith)

-- what is told of the block clause
pub ruleset denials = (length_block, denied_at, denied_past)

-- what a false denial says
denial_false : (x : Assignment) (i : ℕ) (b : Bool) → literal_true x (denial_of i b) ≡ false → get_or x i false ≡ b
denial_false x i true h = not-false _ h
denial_false x i false h = h

false_denial : (x : Assignment) (i : ℕ) (b : Bool) → get_or x i false ≡ b → literal_true x (denial_of i b) ≡ false
false_denial x i true h = not_from_true _ h
false_denial x i false h = h

-- an assignment that makes the denials false has the values
denials_false : (x : Assignment) (i : ℕ) (a : Assignment) → length x ≡ i + length a → clause_true x (denials_from i a) ≡ false → drop i x ≡ a
denials_false x i [] n h = drop_all i x (omega arith)
denials_false x i (b ∷ a) n h =
    let w = or_parts (literal_true x (denial_of i b)) (clause_true x (denials_from (suc i) a)) h in
    let e : get_or x i false ≡ b = denial_false x i b w.0 in
    let r : drop (suc i) x ≡ a = denials_false x (suc i) a (omega arith) w.1 in
    drop-cons x i false (omega arith) ∙ (rw (e, r))

-- and an assignment that has them makes the denials false
false_denials : (x : Assignment) (i : ℕ) (a : Assignment) → length x ≡ i + length a → drop i x ≡ a → clause_true x (denials_from i a) ≡ false
false_denials x i [] n h = refl
false_denials x i (b ∷ a) n h =
    let e = sym (drop-cons x i false (omega arith)) ∙ h in
    let e₀ : get_or x i false ≡ b = cc in
    let e₁ : drop (suc i) x ≡ a = cc in
    or_from _ _ (false_denial x i b e₀) (false_denials x (suc i) a (omega arith) e₁)

-- the block clause is false under its assignment alone
block_false : (x a : Assignment) → length x ≡ length a → clause_true x (block_clause a) ≡ false → x ≡ a
block_false x a n h = denials_false x 0 a (omega arith) h

false_block : (a : Assignment) → clause_true a (block_clause a) ≡ false
false_block a = false_denials a 0 a (omega arith) refl

-- and true under every other of its length
true_block : (x a : Assignment) → length x ≡ length a → x ≢ a → clause_true x (block_clause a) ≡ true
true_block x a n d = elim (cases_Bool (clause_true x (block_clause a))) [ inl e ↦ e | inr e ↦ absurd (d (block_false x a n e)) ]

-- the variables of the denials go up, so none was seen before
abbrev Under : ℕ → List ℕ → Type 0
Under i [] = Unit {0}
Under i (v ∷ vs) = (v ≤ i) × Under i vs

under_more : (i : ℕ) (seen : List ℕ) → Under i seen → Under (suc i) seen
under_more i [] h = tt
under_more i (v ∷ vs) h = (let e = h.0 in omega arith, under_more i vs h.1)

unseen : (i : ℕ) (seen : List ℕ) → Under i seen → is_among (suc i) seen ≡ false
unseen i [] h = refl
unseen i (v ∷ vs) h = or_from (eqb (suc i) v) (is_among (suc i) vs) (ne_eqb (suc i) v (λ e. let l = h.0 in omega arith)) (unseen i vs h.1)

variable_denial : (i : ℕ) (b : Bool) → variable_of (denial_of i b) ≡ suc i
variable_denial i true = refl
variable_denial i false = refl

fresh_denial : (n i : ℕ) (b : Bool) (seen : List ℕ) → i < n → Under i seen → fresh_literal n seen (denial_of i b) ≡ true
fresh_denial n i b seen h u =
    let at : (leb 1 (suc i) && leb (suc i) n && not (is_among (suc i) seen)) ≡ true =
    and_from _ _ (and_from _ _ (le-leb 1 (suc i) (omega arith)) (le-leb (suc i) n (omega arith))) (not_from_false _ (unseen i seen u)) in
    rw (variable_denial i b) at

denials_proper : (n i : ℕ) (a : Assignment) (seen : List ℕ) → i + length a ≤ n → Under i seen → proper_after n seen (denials_from i a) ≡ true
denials_proper n i [] seen h u = refl
denials_proper n i (b ∷ a) seen h u =
    let v = variable_denial i b in
    and_from _ _
    (fresh_denial n i b seen (omega arith) u)
    (denials_proper n (suc i) a (variable_of (denial_of i b) ∷ seen) (omega arith) (omega arith, under_more i seen u))

pub block_means : (n : ℕ) (cs : List Clause) (a : Assignment) → BlockMeans n cs a
block_means n cs a =
    let last = block_clause a ∷ [] in
    let w = lawful_append n cs last in
    record {
      models = λ is x.
          let m = model_append n cs last x in (
            λ y.
                let t = (and_parts (clause_true x (block_clause a)) true (m.0 y).1).0 in
                ((m.0 y).0, λ e. both_ways (clause_true x (block_clause a)) (subst (λ z. clause_true z (block_clause a) ≡ false) (sym e) (false_block a)) t),
            λ y. m.1 (y.0, and_from (clause_true x (block_clause a)) true (true_block x a (y.0.total ∙ sym is) y.1) refl),
          );
      lawful = λ is l. (λ y. (w.0 y).2, λ few. w.1 (l, and_from _ _ (denials_proper n 0 a [] (omega arith) tt) refl, few));
    }

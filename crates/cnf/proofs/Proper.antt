-- A clause passes the computed check just when its variables lie within 1 to n and none is named twice.
use Rattle.std.proofs.Common.{◌≡◌, ℕ, true, false, not, ◌&&◌, eqb, leb, ◌↔◌, List, [], ◌∷◌, refl}
use Rattle.std.proofs.lemmas.Bool.{and_parts, and_from, or_parts, or_from, eqb-false, ne_eqb, leb-true, le-leb, not-true, not_from_false}
use Rattle.cnf.specs.Formula.{Clause, variable_of, is_among, fresh_literal, proper_after, proper_clause}
use Rattle.cnf.specs.Words.{Within, Apart, Distinct}

-- a clause that names nothing seen before
abbrev Unseen : List ℕ → Clause → Type 0
Unseen seen [] = Unit {0}
Unseen seen (l ∷ c) = (is_among (variable_of l) seen ≡ false) × Unseen seen c

unseen_nil : (c : Clause) → Unseen [] c
unseen_nil [] = tt
unseen_nil (l ∷ c) = (refl, unseen_nil c)

unseen_more : (v : ℕ) (seen : List ℕ) (c : Clause) → Apart v c → Unseen seen c → Unseen (v ∷ seen) c
unseen_more v seen [] a u = tt
unseen_more v seen (l ∷ c) a u =
    (or_from (eqb (variable_of l) v) (is_among (variable_of l) seen) (ne_eqb (variable_of l) v a.0) u.0, unseen_more v seen c a.1 u.1)

unseen_apart : (v : ℕ) (seen : List ℕ) (c : Clause) → Unseen (v ∷ seen) c → Apart v c × Unseen seen c
unseen_apart v seen [] u = (tt, tt)
unseen_apart v seen (l ∷ c) u =
    let w = or_parts (eqb (variable_of l) v) (is_among (variable_of l) seen) u.0 in
    let r = unseen_apart v seen c u.1 in
    ((eqb-false (variable_of l) v w.0, r.0), (w.1, r.1))

within_of_proper : (n : ℕ) (seen : List ℕ) (c : Clause) → proper_after n seen c ≡ true → Within n c
within_of_proper n seen [] h = tt
within_of_proper n seen (l ∷ c) h =
    let w = and_parts (fresh_literal n seen l) (proper_after n (variable_of l ∷ seen) c) h in
    let v = and_parts (leb 1 (variable_of l) && leb (variable_of l) n) (not (is_among (variable_of l) seen)) w.0 in
    let u = and_parts (leb 1 (variable_of l)) (leb (variable_of l) n) v.0 in
    (leb-true 1 (variable_of l) u.0, leb-true (variable_of l) n u.1, within_of_proper n (variable_of l ∷ seen) c w.1)

distinct_of_proper : (n : ℕ) (seen : List ℕ) (c : Clause) → proper_after n seen c ≡ true → Distinct c × Unseen seen c
distinct_of_proper n seen [] h = (tt, tt)
distinct_of_proper n seen (l ∷ c) h =
    let w = and_parts (fresh_literal n seen l) (proper_after n (variable_of l ∷ seen) c) h in
    let v = and_parts (leb 1 (variable_of l) && leb (variable_of l) n) (not (is_among (variable_of l) seen)) w.0 in
    let r = distinct_of_proper n (variable_of l ∷ seen) c w.1 in
    let u = unseen_apart (variable_of l) seen c r.1 in
    ((u.0, r.0), (not-true (is_among (variable_of l) seen) v.1, u.1))

proper_of_distinct : (n : ℕ) (seen : List ℕ) (c : Clause) → Within n c → Distinct c → Unseen seen c → proper_after n seen c ≡ true
proper_of_distinct n seen [] w d u = refl
proper_of_distinct n seen (l ∷ c) w d u =
    and_from _ _
    (and_from _ _ (and_from _ _ (le-leb 1 (variable_of l) w.0) (le-leb (variable_of l) n w.1)) (not_from_false _ u.0))
    (proper_of_distinct n (variable_of l ∷ seen) c w.2 d.1 (unseen_more (variable_of l) seen c d.0 u.1))

pub properly : (n : ℕ) (c : Clause) → (proper_clause n c ≡ true) ↔ (Within n c × Distinct c)
properly n c = (λ h. (within_of_proper n [] c h, (distinct_of_proper n [] c h).0), λ w. proper_of_distinct n [] c w.0 w.1 (unseen_nil c))

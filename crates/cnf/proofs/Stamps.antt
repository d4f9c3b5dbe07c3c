-- A walk over one clause: the stamp of each variable tells whether the clause has named it.
use Rattle.std.proofs.Common.{◌≡◌, ℕ, ◌+◌, ◌-◌, ◌<◌, ◌≤◌, Bool, true, false, ◌&&◌, ◌||◌, eqb, leb, List, [], ◌∷◌, length, get_or, drop, set, replicate, ℤ, pos, sym, refl, ap, ◌∙◌, ⊎_elim, arith}
use Rattle.std.proofs.lemmas.List.{at_drop_more, at_drop_all, length-set, get_or-set_same, get_or-set_other}
use Rattle.std.proofs.lemmas.Grind.{common_steps}
use Rattle.std.proofs.lemmas.Bool.{and_left, and_right, and_parts, leb-true, and_from, or_left, not_from_true, not_from_false, cases_Bool, cases_eq, eq-eqb, ne_eqb}
use Rattle.cnf.specs.Formula.{Clause, variable_of, is_among, fresh_literal, proper_after, proper_clause}
use Rattle.cnf.specs.Told.{capped_length, literal_at}
use Rattle.cnf.proofs.Asked.{literal_in}
use Rattle.cnf.proofs.Short.{proper_short}

-- before literal j of clause k: no stamp is above k, the variables named so far are those with stamp k, and the rest decides
pub record Walk (n k : ℕ) (c : Clause) (j : ℕ) (seen : List ℕ) : Type 0 where
  pub size : length seen ≡ 1025
  pub upto : (v : ℕ) → get_or seen v 0 ≤ k
  pub named : List ℕ
  pub stamped : (v : ℕ) → is_among v named ≡ eqb (get_or seen v 0) k
  pub rest : proper_after n named (drop (j - 1) c) ≡ proper_clause n c

-- whether a literal's variable is one of 1 to n
abbrev pub names_one : ℕ → ℤ → Bool
names_one n l = leb 1 (variable_of l) && leb (variable_of l) n

pub walk_start : (n k : ℕ) (c : Clause) (seen : List ℕ) → length seen ≡ 1025 → ((v : ℕ) → get_or seen v 0 < k) → Walk n k c 1 seen
walk_start n k c seen size h = record {
  size = size;
  upto = λ v. let l = h v in omega arith;
  named = [];
  stamped = λ v. let l = h v in sym (ne_eqb (get_or seen v 0) k (λ e. omega arith));
  rest = refl;
}

-- a literal that names one of 1 to n has its variable there
pub named_upto : (n v : ℕ) (l : ℤ) (r : Bool) → v ≡ variable_of l → r ≡ names_one n l → r ≡ true → v ≤ n
named_upto n v l r at told e = let u = leb-true (variable_of l) n (and_parts (leb 1 (variable_of l)) (leb (variable_of l) n) (sym told ∙ e)).1 in omega arith

-- a stamp k more leaves every stamp at most k
pub stamps_upto : (seen : List ℕ) (i k : ℕ) → i < length seen → ((v : ℕ) → get_or seen v 0 ≤ k) → (v : ℕ) → get_or (set seen i k) v 0 ≤ k
stamps_upto seen i k h up v = let u = up v in grind (arith, common_steps)

module _ (n k : ℕ) (c : Clause) (j : ℕ) (seen : List ℕ) (w : Walk n k c j seen) where
  pub walk_end : length c < j → true ≡ proper_clause n c
  walk_end h = sym (at_drop_all (proper_after n w.named) c (j - 1) (omega arith)) ∙ w.rest

  -- l is what the source tells as the next literal
  module _ (l : ℤ) (some : 0 < j) (h : j ≤ length c) (near : j ≤ 1024) (is : l ≡ literal_at j c) where
    turn : (fresh_literal n w.named l && proper_after n (variable_of l ∷ w.named) (drop (j + 1 - 1) c)) ≡ proper_clause n c
    turn =
        let e : j + 1 - 1 ≡ j - 1 + 1 = omega arith in
        ap (λ i. fresh_literal n w.named l && proper_after n (variable_of l ∷ w.named) (drop i c)) e
        ∙ ap (λ x. fresh_literal n w.named x && proper_after n (variable_of x ∷ w.named) (drop (j - 1 + 1) c)) (is ∙ literal_in c j some near)
        ∙ sym (at_drop_more (proper_after n w.named) c (j - 1) (pos 0) (omega arith))
        ∙ w.rest

    pub walk_outside : (r : Bool) → r ≡ names_one n l → r ≡ false → false ≡ proper_clause n c
    walk_outside r told e = sym (and_left _ _ (and_left _ _ (sym told ∙ e))) ∙ turn

    module _ (v : ℕ) (at : v ≡ variable_of l) where
      -- v stands among the variables named so far
      among_is : is_among (variable_of l) w.named ≡ eqb (get_or seen v 0) k
      among_is = w.stamped (variable_of l) ∙ ap (λ u. eqb (get_or seen u 0) k) (sym at)

      pub walk_twice : get_or seen v 0 ≡ k → false ≡ proper_clause n c
      walk_twice e = sym (and_left _ _ (and_right _ _ (not_from_true _ (among_is ∙ eq-eqb _ _ e)))) ∙ turn

      stamped_more : v < length seen → (u : ℕ) → is_among u (variable_of l ∷ w.named) ≡ eqb (get_or (set seen v k) u 0) k
      stamped_more in' u =
          ap (λ x. eqb u x || is_among u w.named) (sym at)
          ∙ ⊎_elim
          (λ s. or_left (eqb u v) (is_among u w.named) (eq-eqb u v s)
          ∙ sym (eq-eqb (get_or (set seen v k) u 0) k (ap (λ x. get_or (set seen v k) x 0) s ∙ get_or-set_same seen v k 0 in')))
          (λ o. ap (λ b. b || is_among u w.named) (ne_eqb u v o) ∙ w.stamped u ∙ sym (ap (λ x. eqb x k) (get_or-set_other seen v u k 0 o)))
          (cases_eq u v)

      pub walk_more : n ≤ 1024 → (r : Bool) → r ≡ names_one n l → r ≡ true → (get_or seen v 0 ≡ k → ⊥) → Walk n k c (j + 1) (set seen v k)
      walk_more few r told e ne =
          let u = named_upto n v l r at told e in
          let in' : v < length seen = omega (arith, w.size) in
          record {
            size = length-set seen v k ∙ w.size;
            upto = stamps_upto seen v k in' w.upto;
            named = variable_of l ∷ w.named;
            stamped = stamped_more in';
            rest =
                sym (ap (λ b. b && proper_after n (variable_of l ∷ w.named) (drop (j + 1 - 1) c)) (and_from _ _ (sym told ∙ e) (not_from_false _ (among_is ∙ ne_eqb _ _ ne))))
                ∙ turn;
          }

-- a clause that is told to be longer than n is not proper
pub told_long : (n : ℕ) (c : Clause) → n ≤ 1024 → n < capped_length c → false ≡ proper_clause n c
told_long n c h l =
    ⊎_elim (λ t. let s = proper_short n c t in absurd (omega arith)) (λ f. sym f) (cases_Bool (proper_clause n c))

-- fresh stamps are 0
pub stamps_fresh : (top v : ℕ) → get_or (replicate top 0) v 0 < 1
stamps_fresh top v = grind (arith, common_steps)

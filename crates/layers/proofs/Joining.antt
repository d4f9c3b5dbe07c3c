-- Two lawful sources joined: a clause over 1 to n looks at no variable past n. Assumes nothing.
use Rattle.std.proofs.Common.{◌≡◌, ℕ, zero, suc, ◌+◌, ◌≤◌, max, true, false, not, ◌&&◌, leb, ◌↔◌, List, [], ◌∷◌, length, take, ℤ, pos, negsuc, sym, refl, ap, ◌∙◌, arith}
use Rattle.std.proofs.lemmas.List.{length-take, get_or-take}
use Rattle.std.proofs.lemmas.Bool.{and_parts, and_from, leb-true, le-leb}
use Rattle.cnf.specs.Formula.{Clause, Assignment, variable_of, literal_true, clause_true, all_true, Model, Lawful, is_among, fresh_literal, proper_after, proper_clause, all_proper}
use Rattle.layers.specs.Joined.{joined_listing, JoinMeans}
use Rattle.layers.proofs.Appended.{model_append, lawful_append}

-- what a fresh literal names
fresh_names : (n : ℕ) (seen : List ℕ) (l : ℤ) → fresh_literal n seen l ≡ true → (1 ≤ variable_of l) × (variable_of l ≤ n) × (not (is_among (variable_of l) seen) ≡ true)
fresh_names n seen l h =
    let w = and_parts (leb 1 (variable_of l) && leb (variable_of l) n) (not (is_among (variable_of l) seen)) h in
    let u = and_parts (leb 1 (variable_of l)) (leb (variable_of l) n) w.0 in
    (leb-true 1 (variable_of l) u.0, leb-true (variable_of l) n u.1, w.1)

module _ (a : Assignment) (n : ℕ) where
  literal_front : (l : ℤ) → variable_of l ≤ n → literal_true (take n a) l ≡ literal_true a l
  literal_front (pos zero) h = refl
  literal_front (pos (suc i)) h = get_or-take n a i false (omega arith)
  literal_front (negsuc i) h = ap not (get_or-take n a i false (omega arith))

  clause_front : (seen : List ℕ) (c : Clause) → proper_after n seen c ≡ true → clause_true (take n a) c ≡ clause_true a c
  clause_front seen [] h = refl
  clause_front seen (l ∷ c) h =
      let w = and_parts (fresh_literal n seen l) (proper_after n (variable_of l ∷ seen) c) h in
      let e = literal_front l (fresh_names n seen l w.0).1 in
      let f = clause_front (variable_of l ∷ seen) c w.1 in
      cc

  -- a proper listing is as true in the front part alone
  true_front : (cs : List Clause) → all_proper n cs ≡ true → all_true (take n a) cs ≡ all_true a cs
  true_front [] h = refl
  true_front (c ∷ cs) h =
      let w = and_parts (proper_clause n c) (all_proper n cs) h in
      let e = clause_front [] c w.0 in
      let f = true_front cs w.1 in
      cc

-- what is proper over 1 to n is so over more variables
module _ (n m : ℕ) (up : n ≤ m) where
  proper_wider : (seen : List ℕ) (c : Clause) → proper_after n seen c ≡ true → proper_after m seen c ≡ true
  proper_wider seen [] h = refl
  proper_wider seen (l ∷ c) h =
      let w = and_parts (fresh_literal n seen l) (proper_after n (variable_of l ∷ seen) c) h in
      let f = fresh_names n seen l w.0 in
      let hi = f.1 in
      and_from _ _
      (and_from _ _ (and_from _ _ (le-leb 1 (variable_of l) f.0) (le-leb (variable_of l) m (omega arith))) f.2)
      (proper_wider (variable_of l ∷ seen) c w.1)

  all_wider : (cs : List Clause) → all_proper n cs ≡ true → all_proper m cs ≡ true
  all_wider [] h = refl
  all_wider (c ∷ cs) h =
      let w = and_parts (proper_clause n c) (all_proper n cs) h in
      and_from _ _ (proper_wider [] c w.0) (all_wider cs w.1)

-- the front part of an assignment is a model exactly when all of it makes the listing true
front_model : (n : ℕ) (cs : List Clause) (a : Assignment) → Lawful n cs → n ≤ length a → all_true a cs ≡ true → Model n cs (take n a)
front_model n cs a w h t =
    let e = length-take n a in
    record { total = omega arith; holds = true_front a n cs w.clauses_proper ∙ t }

module _ (n m : ℕ) (cs ds : List Clause) (law₁ : Lawful n cs) (law₂ : Lawful m ds) where
  models : (a : Assignment) → Model (max n m) (joined_listing cs ds) a ↔ ((length a ≡ max n m) × Model n cs (take n a) × Model m ds (take m a))
  models a =
      let b = model_append (max n m) cs ds a in (
        λ x.
            let t = x.total in
            (t, front_model n cs a law₁ (omega arith) (b.0 x).0.holds, front_model m ds a law₂ (omega arith) (b.0 x).1),
        λ x.
            b.1 (
              record { total = x.0; holds = sym (true_front a n cs law₁.clauses_proper) ∙ x.1.holds },
              sym (true_front a m ds law₂.clauses_proper) ∙ x.2.holds,
            ),
      )

  lawful : Lawful (max n m) (joined_listing cs ds) ↔ (length cs + length ds ≤ 65535)
  lawful =
      let b = lawful_append (max n m) cs ds in
      let s = law₁.some_variable in
      let f = law₁.few_variables in
      let g = law₂.few_variables in (
        λ x. (b.0 x).2,
        λ few.
            b.1 (
              record {
                some_variable = omega arith;
                few_variables = omega arith;
                few_clauses = law₁.few_clauses;
                clauses_proper = all_wider n (max n m) (omega arith) cs law₁.clauses_proper;
              },
              all_wider m (max n m) (omega arith) ds law₂.clauses_proper,
              few,
            ),
      )

pub join_means : (n m : ℕ) (cs ds : List Clause) → JoinMeans n m cs ds
join_means n m cs ds = record { models = models n m cs ds; lawful = lawful n m cs ds }

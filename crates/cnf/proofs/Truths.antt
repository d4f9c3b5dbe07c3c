-- Truth under a claim's bytes; a clause and a listing as they are told, place by place.
use Rattle.std.proofs.Common.{◌≡◌, ℕ, zero, suc, ◌+◌, ◌-◌, ◌<◌, ◌≤◌, true, false, eqb, List, [], ◌∷◌, ◌++◌, map, length, get_or, take, pos, Err, sym, refl, ap, ◌∙◌, ⊎_elim, arith}
use Rattle.std.proofs.lemmas.List.{length-append, length-map, length-take, get_or-map, get_or-take, get_or_past, get_or_append_left, get_or_at}
use Rattle.std.proofs.Math.ListN.{get_or-map as map_at}
use Rattle.std.proofs.lemmas.Bool.Decides.{nat_tests}
use Rattle.std.proofs.lemmas.Bool.{or_left, or_right, or_from, cases_lt}
use Rattle.cnf.specs.Formula.{Clause, Assignment, value_of, literal_true, clause_true, Lawful}
use Rattle.cnf.specs.Told.{told_clauses, clause_at, capped_length, literal_at}
use Rattle.cnf.specs.declared.fault.Fault.TheVariants.{ClaimFalse}
use Rattle.cnf.specs.Faults.{Answer, accepted}
use Rattle.cnf.specs.Checks.{assignment_of, clauses_hold, told_clause, told_listing}
use Rattle.cnf.specs.Laws.{TellsFirst}
use Rattle.cnf.proofs.Asked.{clause_past, clause_in, literal_past, literal_in, literal_none}
use Rattle.cnf.proofs.Firsts.{first_fails, none_fails, tells_by}
use Rattle.cnf.proofs.Short.{short_told, few_told, told_lawful_listing}

pub value_at : (bs : List ℕ) (v : ℕ) → 0 < v → value_of (assignment_of bs) v ≡ eqb (get_or bs (v - 1) 0) 1
value_at bs zero p = absurd (omega arith)
value_at bs (suc i) p = let e : suc i - 1 ≡ i = omega arith in map_at (λ b. eqb b 1) bs i 0 ∙ ap (λ k. eqb (get_or bs k 0) 1) (sym e)

-- a clause as it is told
module _ (c : Clause) where
  long : 1024 < length c → told_clause c ≡ take 1024 c ++ pos 0 ∷ []
  long h = grind (arith, nat_tests)

  pub length_told : length (told_clause c) ≡ capped_length c
  length_told =
      ⊎_elim
      (λ h. ap length (long h) ∙ (let e = length-append (take 1024 c) (pos 0 ∷ []) in let t = length-take 1024 c in omega arith))
      (λ h. ap length (short_told c h) ∙ omega arith)
      (cases_lt 1024 (length c))

  told_literal : (j : ℕ) → 0 < j → j ≤ capped_length c → literal_at j c ≡ get_or (told_clause c) (j - 1) (pos 0)
  told_literal j p l =
      ⊎_elim
      (λ h.
      let t = length-take 1024 c in
      ⊎_elim
      (λ in'. literal_in c j p (omega arith) ∙ sym (ap (λ x. get_or x (j - 1) (pos 0)) (long h) ∙ get_or_append_left (take 1024 c) (pos 0 ∷ []) (pos 0) (j - 1) (omega arith) ∙ get_or-take 1024 c (j - 1) (pos 0) in'))
      (λ far. literal_past c j (omega arith) ∙ sym (ap (λ x. get_or x (j - 1) (pos 0)) (long h) ∙ get_or_at (take 1024 c) (pos 0) [] (pos 0) (j - 1) (omega arith)))
      (cases_lt (j - 1) 1024))
      (λ h. literal_in c j p (omega arith) ∙ sym (ap (λ x. get_or x (j - 1) (pos 0)) (short_told c h)))
      (cases_lt 1024 (length c))

  -- and past all that is told it is 0
  pub literal_told : (j : ℕ) → 0 < j → literal_at j c ≡ get_or (told_clause c) (j - 1) (pos 0)
  literal_told j p =
      ⊎_elim
      (λ past.
      ⊎_elim (λ far. literal_past c j far) (λ near. literal_none c j (omega arith)) (cases_lt 1024 j)
      ∙ sym (get_or_past (told_clause c) (j - 1) (pos 0) (omega (arith, length_told))))
      (λ l. told_literal j p l)
      (cases_lt (capped_length c) j)

-- a listing as it is told
module _ (cs : List Clause) where
  many : 65536 < length cs → told_listing cs ≡ map told_clause (take 65536 cs) ++ [] ∷ []
  many h = grind (arith, nat_tests)

  length_first : 65536 < length cs → length (map told_clause (take 65536 cs)) ≡ 65536
  length_first h = let e = length-map (take 65536 cs) told_clause in let t = length-take 65536 cs in omega arith

  pub length_told_listing : length (told_listing cs) ≡ told_clauses cs
  length_told_listing =
      ⊎_elim
      (λ h. ap length (many h) ∙ (let e = length-append (map told_clause (take 65536 cs)) ([] ∷ []) in let f = length_first h in omega arith))
      (λ h. ap length (few_told cs h) ∙ (let e = length-map cs told_clause in omega arith))
      (cases_lt 65536 (length cs))

  pub clause_told : (k : ℕ) → 0 < k → k ≤ told_clauses cs → get_or (told_listing cs) (k - 1) [] ≡ told_clause (clause_at cs k)
  clause_told k p l =
      ⊎_elim
      (λ h.
      ap (λ x. get_or x (k - 1) []) (many h)
      ∙ ⊎_elim
      (λ in'.
      get_or_append_left (map told_clause (take 65536 cs)) ([] ∷ []) [] (k - 1) (omega (arith, length_first h))
      ∙ get_or-map told_clause (take 65536 cs) (k - 1) [] [] (omega (arith, length-take 65536 cs))
      ∙ ap told_clause (get_or-take 65536 cs (k - 1) [] in' ∙ sym (clause_in cs k p (omega arith))))
      (λ far.
      get_or_at (map told_clause (take 65536 cs)) [] [] [] (k - 1) (omega (arith, length_first h))
      ∙ ap told_clause (sym (clause_past cs k (omega arith))))
      (cases_lt (k - 1) 65536))
      (λ h.
      ap (λ x. get_or x (k - 1) []) (few_told cs h)
      ∙ get_or-map told_clause cs (k - 1) [] [] (omega arith)
      ∙ ap told_clause (sym (clause_in cs k p (omega arith))))
      (cases_lt 65536 (length cs))

-- a clause is true by one of its literals, and false where each is
module _ (a : Assignment) where
  one_true : (c : Clause) (i : ℕ) → i < length c → literal_true a (get_or c i (pos 0)) ≡ true → clause_true a c ≡ true
  one_true [] i h e = absurd (omega arith)
  one_true (l ∷ c) zero h e = or_left (literal_true a l) (clause_true a c) e
  one_true (l ∷ c) (suc i) h e = or_right (literal_true a l) (clause_true a c) (one_true c i (omega arith) e)

  all_false : (c : Clause) → ((i : ℕ) → i < length c → literal_true a (get_or c i (pos 0)) ≡ false) → clause_true a c ≡ false
  all_false [] h = refl
  all_false (l ∷ c) h =
      or_from (literal_true a l) (clause_true a c) (h 0 (omega arith)) (all_false c (λ i l. h (suc i) (omega arith)))

  module _ (c : Clause) (j : ℕ) where
    -- the literal at place j, counted from 1, as the clause is told
    pub true_at : 0 < j → j ≤ capped_length c → literal_true a (literal_at j c) ≡ true → clause_true a (told_clause c) ≡ true
    true_at p l e =
        one_true (told_clause c) (j - 1) (omega (arith, length_told c))
        (ap (literal_true a) (sym (literal_told c j p)) ∙ e)

    -- the literals before place j are all that are told
    pub false_before : capped_length c < j → ((i : ℕ) → i < j → 0 < i → literal_true a (literal_at i c) ≡ false) → clause_true a (told_clause c) ≡ false
    false_before l h =
        let t = length_told c in
        all_false (told_clause c)
        (λ i in'.
        let e : i + 1 - 1 ≡ i = omega arith in
        ap (λ k. literal_true a (get_or (told_clause c) k (pos 0))) (sym e)
        ∙ ap (literal_true a) (sym (literal_told c (i + 1) (omega arith)))
        ∙ h (i + 1) (omega arith) (omega arith))

-- the clauses before clause k are true as they are told
module _ (cs : List Clause) (a : Assignment) (k : ℕ) (holding : (i : ℕ) → i < k → 0 < i → clause_true a (told_clause (clause_at cs i)) ≡ true) where
  told_so : (i : ℕ) → i < k → 0 < i → i ≤ told_clauses cs → clause_true a (get_or (told_listing cs) (i - 1) []) ≡ true
  told_so i l p h = ap (clause_true a) (clause_told cs i p h) ∙ holding i l p

  pub model_stops : 0 < k → k ≤ told_clauses cs → clause_true a (told_clause (clause_at cs k)) ≡ false → clauses_hold a 1 (told_listing cs) ≡ Err (ClaimFalse k)
  model_stops p h e =
      let m = length_told_listing cs in
      first_fails (clause_true a) ClaimFalse (told_listing cs) [] k (λ i l q. told_so i l q (omega arith)) p (omega arith)
      (ap (clause_true a) (clause_told cs k p h) ∙ e)

  pub model_holds : told_clauses cs < k → clauses_hold a 1 (told_listing cs) ≡ accepted
  model_holds h =
      let m = length_told_listing cs in
      none_fails (clause_true a) ClaimFalse (told_listing cs) [] (told_clauses cs + 1)
      (λ i l q. told_so i (omega arith) q (omega arith)) (omega arith)

-- over a lawful listing the answer tells the first of its clauses that is false
pub model_tells : (n : ℕ) (cs : List Clause) (a : Assignment) (answer : Answer) → answer ≡ clauses_hold a 1 (told_listing cs) → Lawful n cs → TellsFirst (clause_true a) ClaimFalse cs answer
model_tells n cs a answer e law =
    tells_by (clause_true a) ClaimFalse cs answer (e ∙ ap (clauses_hold a 1) (told_lawful_listing n cs law))

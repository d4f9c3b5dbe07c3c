-- A proper clause over the variables 1 to n has at most n literals; so a lawful listing is told whole.
use Rattle.std.proofs.Common.{◌≡◌, ℕ, zero, suc, ◌≤◌, Bool, true, false, cond, eqb, List, [], ◌∷◌, map, length, refl, ap, ◌∙◌, subst, arith}
use Rattle.std.proofs.lemmas.Bool.Decides.{nat_tests}
use Rattle.std.proofs.lemmas.Bool.{and_parts, eqb-true, eqb-false}
use Rattle.cnf.specs.Formula.{Clause, Lawful, variable_of, proper_clause, all_proper}
use Rattle.cnf.specs.Checks.{told_clause, told_listing}
use Rattle.cnf.specs.Words.{Within, Apart, Distinct}
use Rattle.cnf.proofs.Proper.{properly}

-- the clause without its first literal that names v
abbrev without : ℕ → Clause → Clause
without v [] = []
without v (l ∷ c) = cond (eqb (variable_of l) v) c (l ∷ without v c)

within_without : (n : ℕ) (c : Clause) → Within (suc n) c → Distinct c → Within n (without (suc n) c)
within_without n [] w d = tt
within_without n (l ∷ c) w d = go (within_without n c w.2 d.1) (eqb (variable_of l) (suc n)) refl
  where
    apart_within : (c : Clause) → Within (suc n) c → Apart (suc n) c → Within n c
    apart_within [] w a = tt
    apart_within (k ∷ c) w a = (w.0, let hi = w.1 in let ne = a.0 in omega arith, apart_within c w.2 a.1)

    go : Within n (without (suc n) c) → (b : Bool) → eqb (variable_of l) (suc n) ≡ b → Within n (cond b c (l ∷ without (suc n) c))
    go ih true e = apart_within c w.2 (subst (λ v. Apart v c) (eqb-true (variable_of l) (suc n) e) d.0)
    go ih false e = (w.0, let hi = w.1 in let ne = eqb-false (variable_of l) (suc n) e in omega arith, ih)

apart_without : (u v : ℕ) (c : Clause) → Apart u c → Apart u (without v c)
apart_without u v [] a = tt
apart_without u v (l ∷ c) a =
    let ih = apart_without u v c a.1 in
    elim (eqb (variable_of l) v) as (λ b. Apart u (cond b c (l ∷ without v c))) [ true ↦ a.1 | false ↦ (a.0, ih) ]

distinct_without : (v : ℕ) (c : Clause) → Distinct c → Distinct (without v c)
distinct_without v [] d = tt
distinct_without v (l ∷ c) d =
    let ih = distinct_without v c d.1 in
    let a = apart_without (variable_of l) v c d.0 in
    elim (eqb (variable_of l) v) as (λ b. Distinct (cond b c (l ∷ without v c))) [ true ↦ d.1 | false ↦ (a, ih) ]

length_without : (v : ℕ) (c : Clause) → length c ≤ suc (length (without v c))
length_without v [] = omega arith
length_without v (l ∷ c) =
    let ih = length_without v c in
    elim (eqb (variable_of l) v) as (λ b. suc (length c) ≤ suc (length (cond b c (l ∷ without v c)))) [ true ↦ omega arith | false ↦ omega arith ]

few_literals : (n : ℕ) (c : Clause) → Within n c → Distinct c → length c ≤ n
few_literals zero [] w d = omega arith
few_literals zero (l ∷ c) w d = let lo = w.0 in let hi = w.1 in absurd (omega arith)
few_literals (suc n) c w d =
    let ih = few_literals n (without (suc n) c) (within_without n c w d) (distinct_without (suc n) c d) in
    let m = length_without (suc n) c in
    omega arith

-- a clause over the variables 1 to n that names none twice has at most n literals
pub proper_short : (n : ℕ) (c : Clause) → proper_clause n c ≡ true → length c ≤ n
proper_short n c h = let w = (properly n c).0 h in few_literals n c w.0 w.1

-- a clause of at most 1,024 literals is told as it is
pub short_told : (c : Clause) → length c ≤ 1024 → told_clause c ≡ c
short_told c h = grind (arith, nat_tests)

-- of at most 65,536 clauses each is told
pub few_told : (cs : List Clause) → length cs ≤ 65536 → told_listing cs ≡ map told_clause cs
few_told cs h = grind (arith, nat_tests)

clauses_told : (n : ℕ) (cs : List Clause) → n ≤ 1024 → all_proper n cs ≡ true → map told_clause cs ≡ cs
clauses_told n [] h q = refl
clauses_told n (c ∷ cs) h q =
    let p = and_parts (proper_clause n c) (all_proper n cs) q in
    let f = proper_short n c p.0 in
    ap (λ x. x ∷ map told_clause cs) (short_told c (omega arith)) ∙ ap (λ xs. c ∷ xs) (clauses_told n cs h p.1)

-- a lawful listing is told as it is
pub told_lawful_listing : (n : ℕ) (cs : List Clause) → Lawful n cs → told_listing cs ≡ cs
told_lawful_listing n cs law =
    let few = law.few_clauses in
    few_told cs (omega arith) ∙ clauses_told n cs law.few_variables law.clauses_proper

-- The clauses that the starts of a table cut out of its literals.
use Rattle.std.proofs.Common.{◌≡◌, ℕ, zero, suc, ◌-◌, ◌<◌, ◌≤◌, List, [], ◌∷◌, length, get_or, take, drop, Option, None, Some, unwrap_or, sym, refl, ap, ◌∙◌, ⊎_elim, arith}
use Rattle.cnf.specs.declared.literal.Literal.{Literal}
use Rattle.std.proofs.lemmas.List.{get_or_past, drop-map, take-map}
use Rattle.std.specs.Slice.{IsGetRangeResult}
use denote.Ref.{Bor}
use Rattle.std.proofs.lemmas.Bool.Decides.{nat_tests}
use Rattle.cnf.specs.Formula.{Clause}
use Rattle.cnf.specs.Told.{clause_at, literal_at}
use Rattle.cnf.specs.Tabled.{numbers_of, cut_out, cuts_from, tabled}
pub use Rattle.cnf.specs.Tabled.{no_literal, length_numbers, number_at}
use Rattle.cnf.proofs.Asked.{clause_in, literal_in}

length_cuts : (ls : Clause) (a : ℕ) (bs : List ℕ) → length (cuts_from ls a bs) ≡ length bs
length_cuts ls a [] = refl
length_cuts ls a (b ∷ bs) = ap suc (length_cuts ls b bs)

pub length_tabled : (ls : Clause) (ss : List ℕ) → length (tabled ls ss) ≡ length ss - 1
length_tabled ls [] = refl
length_tabled ls (a ∷ bs) = let e = length_cuts ls a bs in omega arith

cuts_at : (ls : Clause) (a : ℕ) (bs : List ℕ) (k : ℕ) → k < length bs → get_or (cuts_from ls a bs) k [] ≡ cut_out ls (get_or (a ∷ bs) k 0) (get_or bs k 0)
cuts_at ls a [] k h = absurd (omega arith)
cuts_at ls a (b ∷ bs) zero h = refl
cuts_at ls a (b ∷ bs) (suc k) h = cuts_at ls b bs k (omega arith)

tabled_at : (ls : Clause) (ss : List ℕ) (k : ℕ) → suc k < length ss → get_or (tabled ls ss) k [] ≡ cut_out ls (get_or ss k 0) (get_or ss (suc k) 0)
tabled_at ls [] k h = absurd (omega arith)
tabled_at ls (a ∷ bs) k h = cuts_at ls a bs k (omega arith)

-- clause k of a table
module _ (ls : Clause) (ss : List ℕ) (k : ℕ) where
  pub clause_tabled : 0 < k → k ≤ 65536 → k < length ss → clause_at (tabled ls ss) k ≡ cut_out ls (get_or ss (k - 1) 0) (get_or ss k 0)
  clause_tabled p near h =
      let e : suc (k - 1) ≡ k = omega arith in
      clause_in (tabled ls ss) k p near
      ∙ tabled_at ls ss (k - 1) (omega arith)
      ∙ ap (λ i. cut_out ls (get_or ss (k - 1) 0) (get_or ss i 0)) e

  pub clause_none : length ss ≤ k → clause_at (tabled ls ss) k ≡ []
  clause_none h = grind (arith, nat_tests, get_or_past, length_tabled)

module _ (ls : Clause) (a b : ℕ) where
  pub cut_in : a ≤ b → b ≤ length ls → cut_out ls a b ≡ take (b - a) (drop a ls)
  cut_in p q = grind (arith, nat_tests)

  pub cut_falls : b < a → cut_out ls a b ≡ []
  cut_falls p = grind (arith, nat_tests)

  pub cut_leaves : length ls < b → cut_out ls a b ≡ []
  cut_leaves p = grind (arith, nat_tests)

-- the literals that a part of them has are those that its numbers are cut out from
pub numbers_cut : (ls : List Literal) (a b : ℕ) (part : Option (Bor (List Literal))) (none : Bor (List Literal)) → none.now ≡ [] → IsGetRangeResult ls a b part → numbers_of (unwrap_or part none).now ≡ cut_out (numbers_of ls) a b
numbers_cut ls a b None none e g =
    let m = length_numbers ls in
    ap numbers_of e
    ∙ sym (⊎_elim (λ f. cut_falls (numbers_of ls) a b f) (λ o. cut_leaves (numbers_of ls) a b (omega arith)) g.0)
numbers_cut ls a b (Some x) none e g =
    let m = length_numbers ls in
    ap numbers_of g.0.2
    ∙ sym (
    cut_in (numbers_of ls) a b g.0.0 (omega (arith, g.0.1))
    ∙ ap (take (b - a)) (drop-map (λ (l : Literal). l.0) a ls)
    ∙ take-map (λ (l : Literal). l.0) (b - a) (drop a ls)
    )

-- the literal at place j, counted from 1
pub literal_number : (ls : List Literal) (j : ℕ) → 0 < j → j ≤ 1024 → literal_at j (numbers_of ls) ≡ (get_or ls (j - 1) no_literal).0
literal_number ls j p near = literal_in (numbers_of ls) j p near ∙ number_at ls (j - 1)

-- Each model of the listing is the assignment of a filling that keeps the rules.
use Rattle.std.proofs.Common.{◌≡◌, ℕ, zero, suc, ◌+◌, ◌-◌, ◌*◌, ◌<◌, ◌≤◌, Bool, true, false, cond, eqb, List, map, length, get_or, sym, refl, ap, ◌∙◌, ⊎_elim, arith}
use Rattle.std.specs.List.{AllByRecursion}
use Rattle.std.proofs.ByRecursion.{All-map}
use Rattle.std.proofs.lemmas.List.{ext_get_or}
use Rattle.std.proofs.lemmas.List.FromFn.{length-map-range_with_len, get_or-map-range_with_len}
use Rattle.std.proofs.lemmas.Bool.{eq-eqb, ne_eqb, cases_eq, cases_Bool, cases_lt, both_ways}
use Rattle.cnf.specs.Formula.{Assignment, value_of, Model}
use Rattle.futoshiki.specs.declared.sign.Sign.{Sign}
use Rattle.futoshiki.specs.Board.{InRange, up_to, cell_at, variable_at}
use Rattle.futoshiki.specs.Listing.{five_groups}
use Rattle.fillings.specs.Fillings.{Filling, held_value, ExactlyOne, Keeps, filling_assignment}
use Rattle.futoshiki.specs.Rules.{OnBoard}
use Rattle.futoshiki.proofs.Lists.{all_both}
use Rattle.fillings.proofs.Groups.{all_upto}
use Rattle.futoshiki.proofs.Places.{within, apart}
use Rattle.fillings.proofs.Pigeonhole.{Injects, onto}
use Rattle.fillings.proofs.Assignments.{length_assignment, value_assignment}
use Rattle.fillings.proofs.Truth.{value_placed}
use Rattle.fillings.proofs.View.{SignSays, View, view_from_satisfies}

-- the greatest of 1 to n that passes, and 0 where none does
abbrev pub last_true : (ℕ → Bool) → ℕ → ℕ
last_true p zero = 0
last_true p (suc n) = cond (p (suc n)) (suc n) (last_true p n)

last_true_passes : (p : ℕ → Bool) (n v : ℕ) → InRange n v → p v ≡ true → InRange n (last_true p n) × (p (last_true p n) ≡ true)
last_true_passes p zero v w h = absurd (omega arith)
last_true_passes p (suc n) v w h = go (last_true_passes p n v) (p (suc n)) refl
  where
    go : (InRange n v → p v ≡ true → InRange n (last_true p n) × (p (last_true p n) ≡ true)) → (t : Bool) → p (suc n) ≡ t → InRange (suc n) (cond t (suc n) (last_true p n)) × (p (cond t (suc n) (last_true p n)) ≡ true)
    go ih true e = ((omega arith, omega arith), e)
    go ih false e =
        ⊎_elim
        (λ (q : v ≡ suc n). absurd (both_ways (p (suc n)) e (ap p (sym q) ∙ h)))
        (λ (d : v ≡ suc n → ⊥). let t = ih (w.0, omega arith) h in ((t.0.0, omega arith), t.1))
        (cases_eq v (suc n))

-- two numbers of which neither is less
by_order : (m n : ℕ) → (m < n → ⊥) → (n < m → ⊥) → m ≡ n
by_order m n p q = omega arith

-- the value that the assignment gives cell i
abbrev pub value_in : ℕ → Assignment → ℕ → ℕ
value_in N a i = last_true (λ v. value_of a (variable_at N i v)) N

-- the filling that the assignment gives
abbrev pub filling_of : ℕ → Assignment → List ℕ
filling_of N a = map (value_in N a) (up_to (N * N))

module _ (N : ℕ) (signs : List Sign) (a : Assignment) (view : View a N signs) where
  abbrev f : List ℕ
  f = filling_of N a

  held_is : (i : ℕ) → InRange (N * N) i → held_value f i ≡ value_in N a i
  held_is i w = get_or-map-range_with_len (value_in N a) 1 (N * N) (i - 1) i 0 (omega arith) (omega arith)

  in_cell : (i : ℕ) → InRange (N * N) i → InRange N (value_in N a i) × (value_of a (variable_at N i (value_in N a i)) ≡ true)
  in_cell i w = let t = view.some i w in last_true_passes (λ v. value_of a (variable_at N i v)) N t.0 t.1 t.2

  filling : Filling N f
  filling = (length-map-range_with_len (value_in N a) 1 (N * N), All-map (InRange N) (value_in N a) (up_to (N * N)) (all_upto (λ i. InRange N (value_in N a i)) (N * N) (λ i w. (in_cell i w).0)))

  held_within : (i : ℕ) → InRange (N * N) i → InRange N (held_value f i)
  held_within i w = rw (held_is i w) (in_cell i w).0

  held_true : (i : ℕ) → InRange (N * N) i → value_of a (variable_at N i (held_value f i)) ≡ true
  held_true i w = rw (held_is i w) (in_cell i w).1

  -- a true variable tells what its cell holds
  held_only : (i v : ℕ) → InRange (N * N) i → InRange N v → value_of a (variable_at N i v) ≡ true → held_value f i ≡ v
  held_only i v wi wv h =
      by_order (held_value f i) v
      (λ l. view.single i (held_value f i) v wi (held_within i wi).0 l wv.1 (held_true i wi) h)
      (λ l. view.single i v (held_value f i) wi wv.0 l (held_within i wi).1 h (held_true i wi))

  value_is : (i v : ℕ) → InRange (N * N) i → InRange N v → eqb (held_value f i) v ≡ value_of a (variable_at N i v)
  value_is i v wi wv =
      ⊎_elim
      (λ (h : value_of a (variable_at N i v) ≡ true). eq-eqb (held_value f i) v (held_only i v wi wv h) ∙ sym h)
      (λ (h : value_of a (variable_at N i v) ≡ false). ne_eqb (held_value f i) v (λ e. both_ways (value_of a (variable_at N i v)) h (ap (λ x. value_of a (variable_at N i x)) (sym e) ∙ held_true i wi)) ∙ sym h)
      (cases_Bool (value_of a (variable_at N i v)))

  -- a cell that holds the value of another
  held_too : (i j : ℕ) → InRange (N * N) j → held_value f i ≡ held_value f j → value_of a (variable_at N j (held_value f i)) ≡ true
  held_too i j w e = ap (λ x. value_of a (variable_at N j x)) e ∙ held_true j w

  row_apart : (r c d : ℕ) → InRange N r → InRange N c → InRange N d → c < d → held_value f (cell_at N r c) ≡ held_value f (cell_at N r d) → ⊥
  row_apart r c d wr wc wd l e =
      let wi = within N N r c wr wc in
      view.in_row r (held_value f (cell_at N r c)) c d wr (held_within (cell_at N r c) wi) wc.0 l wd.1 (held_true (cell_at N r c) wi) (held_too (cell_at N r c) (cell_at N r d) (within N N r d wr wd) e)

  column_apart : (c r s : ℕ) → InRange N c → InRange N r → InRange N s → r < s → held_value f (cell_at N r c) ≡ held_value f (cell_at N s c) → ⊥
  column_apart c r s wc wr ws l e =
      let wi = within N N r c wr wc in
      view.in_column c (held_value f (cell_at N r c)) r s wc (held_within (cell_at N r c) wi) wr.0 l ws.1 (held_true (cell_at N r c) wi) (held_too (cell_at N r c) (cell_at N s c) (within N N s c ws wc) e)

  row_injects : (r : ℕ) → InRange N r → Injects (λ c. held_value f (cell_at N r c)) N N
  row_injects r wr = record {
    into = λ c wc. held_within (cell_at N r c) (within N N r c wr wc);
    apart = λ c d wc wd e. by_order c d (λ l. row_apart r c d wr wc wd l e) (λ l. row_apart r d c wr wd wc l (sym e));
  }

  column_injects : (c : ℕ) → InRange N c → Injects (λ r. held_value f (cell_at N r c)) N N
  column_injects c wc = record {
    into = λ r wr. held_within (cell_at N r c) (within N N r c wr wc);
    apart = λ r s wr ws e. by_order r s (λ l. column_apart c r s wc wr ws l e) (λ l. column_apart c s r wc ws wr l (sym e));
  }

  -- a function that takes no value twice takes each exactly once
  exactly_one : (g : ℕ → ℕ) → Injects g N N → (v : ℕ) → InRange N v → ExactlyOne N (λ k. g k ≡ v)
  exactly_one g i v w = let t = onto N g i v w in (t.0, t.1, t.2, λ j wj e. i.apart j t.0 wj t.1 (e ∙ sym t.2))

  keeps : AllByRecursion (OnBoard N) signs → Keeps N signs f
  keeps on = record {
    rows_whole = λ r v wr wv. exactly_one (λ c. held_value f (cell_at N r c)) (row_injects r wr) v wv;
    columns_whole = λ c v wc wv. exactly_one (λ r. held_value f (cell_at N r c)) (column_injects c wc) v wv;
    signs_hold = all_both (OnBoard N) (SignSays a N) (λ s. held_value f s.lesser < held_value f s.greater)
        (λ s o h. ⊎_elim
        (λ l. l)
        (λ (l : held_value f s.greater ≤ held_value f s.lesser). absurd (h (held_value f s.lesser) (held_value f s.greater) (held_within s.lesser o.0) ((held_within s.greater o.1).0, l) (held_true s.lesser o.0) (held_true s.greater o.1)))
        (cases_lt (held_value f s.lesser) (held_value f s.greater)))
        signs on view.of_signs;
  }

  assignment_is : 1 ≤ N → length a ≡ N * N * N → filling_assignment N f ≡ a
  assignment_is p e = ext_get_or false (filling_assignment N f) a same_length same
    where
      same_length : length (filling_assignment N f) ≡ length a
      same_length = length_assignment N f ∙ ap (λ m. m * N) filling.0 ∙ sym e

      same : (k : ℕ) → k < length (filling_assignment N f) → get_or (filling_assignment N f) k false ≡ get_or a k false
      same k l =
          let bound : length (filling_assignment N f) ≡ N * N * N = same_length ∙ e in
          let t = apart (N * N) N (k + 1) p (omega arith, omega arith) in
          ap (λ m. get_or (filling_assignment N f) m false) (omega arith)
          ∙ sym (value_placed (filling_assignment N f) (variable_at N t.0 t.1) (omega arith))
          ∙ value_assignment N f t.0 t.1 t.2.0 (omega (arith, filling.0)) t.3
          ∙ value_is t.0 t.1 t.2 t.3
          ∙ value_placed a (variable_at N t.0 t.1) (omega arith)
          ∙ ap (λ m. get_or a m false) (omega arith)

pub complete : (N : ℕ) (signs : List Sign) → 1 ≤ N → AllByRecursion (OnBoard N) signs → (a : Assignment) → Model (N * N * N) (five_groups N signs) a → (f : List ℕ) × Filling N f × Keeps N signs f × (filling_assignment N f ≡ a)
complete N signs p on a m =
    let view = view_from_satisfies a N signs m.holds in
    (filling_of N a, filling N signs a view, keeps N signs a view on, assignment_is N signs a view p m.total)

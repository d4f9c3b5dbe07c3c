-- A test of one element after another: what the answer is by the first that fails, and what it tells.
use Rattle.std.proofs.Common.{◌≡◌, ℕ, zero, suc, ◌+◌, ◌-◌, ◌<◌, ◌≤◌, Bool, true, false, ◌&&◌, ◌↔◌, List, [], ◌∷◌, ◌++◌, length, get_or, Err, sym, refl, ap, ◌∙◌, subst, arith}
use Rattle.std.specs.List.{AllByRecursion}
use Rattle.std.proofs.lemmas.Bool.{and_parts, and_from}
use Rattle.cnf.specs.declared.fault.Fault.{Fault}
use Rattle.cnf.specs.Faults.{Answer, accepted, ◌then◌, check_for}
use Rattle.cnf.specs.Checks.{each_passes}
use Rattle.cnf.specs.Laws.{TellsFirst}

-- a test of all, one after another, is a test of each
pub test_of_all : {X : Type 0} (test : X → Bool) (all : List X → Bool) → all [] ≡ true → ((x : X) (xs : List X) → all (x ∷ xs) ≡ (test x && all xs)) → (xs : List X) → (all xs ≡ true) ↔ AllByRecursion (λ x. test x ≡ true) xs
test_of_all test all none more [] = (λ _. tt, λ _. none)
test_of_all test all none more (x ∷ xs) =
    let ih = test_of_all test all none more xs in (
      λ h. let w = and_parts (test x) (all xs) (sym (more x xs) ∙ h) in (w.0, ih.0 w.1),
      λ h. more x xs ∙ and_from (test x) (all xs) h.0 (ih.1 h.1),
    )

module _ {X : Type 0} (test : X → Bool) (fault : ℕ → Fault) where
  -- the element at index i fails, and each before it passes
  pub stops_at : (p : ℕ) (xs : List X) (i : ℕ) (d : X) → i < length xs → ((j : ℕ) → j < i → test (get_or xs j d) ≡ true) → test (get_or xs i d) ≡ false → each_passes test fault p xs ≡ Err (fault (i + p))
  stops_at p [] i d h passed fails = absurd (omega arith)
  stops_at p (x ∷ xs) zero d h passed fails =
      let s : p ≡ 0 + p = omega arith in
      ap (λ b. check_for b (fault p) then each_passes test fault (suc p) xs) fails ∙ ap (λ q. Err (fault q)) s
  stops_at p (x ∷ xs) (suc i) d h passed fails =
      let s : i + suc p ≡ suc i + p = omega arith in
      ap (λ b. check_for b (fault p) then each_passes test fault (suc p) xs) (passed 0 (omega arith))
      ∙ stops_at (suc p) xs i d (omega arith) (λ j l. passed (suc j) (omega arith)) fails
      ∙ ap (λ q. Err (fault q)) s

  -- each element passes
  pub goes_on : (p : ℕ) (xs : List X) (d : X) → ((j : ℕ) → j < length xs → test (get_or xs j d) ≡ true) → each_passes test fault p xs ≡ accepted
  goes_on p [] d passed = refl
  goes_on p (x ∷ xs) d passed =
      ap (λ b. check_for b (fault p) then each_passes test fault (suc p) xs) (passed 0 (omega arith))
      ∙ goes_on (suc p) xs d (λ j l. passed (suc j) (omega arith))

  -- the places before k, counted from 1, pass
  module _ (xs : List X) (d : X) (k : ℕ) (passed : (j : ℕ) → j < k → 0 < j → test (get_or xs (j - 1) d) ≡ true) where
    before : (j : ℕ) → j < k - 1 → test (get_or xs j d) ≡ true
    before j l =
        let e : j + 1 - 1 ≡ j = omega arith in
        ap (λ i. test (get_or xs i d)) (sym e) ∙ passed (j + 1) (omega arith) (omega arith)

    pub first_fails : 0 < k → k ≤ length xs → test (get_or xs (k - 1) d) ≡ false → each_passes test fault 1 xs ≡ Err (fault k)
    first_fails p h fails =
        let e : k - 1 + 1 ≡ k = omega arith in
        stops_at 1 xs (k - 1) d (omega arith) before fails ∙ ap (λ q. Err (fault q)) e

    pub none_fails : length xs < k → each_passes test fault 1 xs ≡ accepted
    none_fails h = goes_on 1 xs d (λ j l. before j (omega arith))

  all_from : (p : ℕ) (xs : List X) → AllByRecursion (λ x. test x ≡ true) xs → each_passes test fault p xs ≡ accepted
  all_from p [] h = refl
  all_from p (x ∷ xs) h =
      ap (λ b. check_for b (fault p) then each_passes test fault (suc p) xs) h.0 ∙ all_from (suc p) xs h.1

  all_since : (p : ℕ) (xs : List X) → each_passes test fault p xs ≡ accepted → AllByRecursion (λ x. test x ≡ true) xs
  all_since p [] e = tt
  all_since p (x ∷ xs) e = go (all_since (suc p) xs) (test x) refl e
    where
      go : (each_passes test fault (suc p) xs ≡ accepted → AllByRecursion (λ y. test y ≡ true) xs) → (b : Bool) → test x ≡ b → (check_for b (fault p) then each_passes test fault (suc p) xs) ≡ accepted → (test x ≡ true) × AllByRecursion (λ y. test y ≡ true) xs
      go ih true t e = (t, ih e)
      go ih false t e = absurd cc

  passed_over : (p : ℕ) (ys : List X) (x : X) (zs : List X) → AllByRecursion (λ y. test y ≡ true) ys → test x ≡ false → each_passes test fault p (ys ++ x ∷ zs) ≡ Err (fault (length ys + p))
  passed_over p [] x zs h e =
      let s : p ≡ 0 + p = omega arith in
      ap (λ b. check_for b (fault p) then each_passes test fault (suc p) zs) e ∙ ap (λ q. Err (fault q)) s
  passed_over p (y ∷ ys) x zs h e =
      let s : length ys + suc p ≡ suc (length ys) + p = omega arith in
      ap (λ b. check_for b (fault p) then each_passes test fault (suc p) (ys ++ x ∷ zs)) h.0
      ∙ passed_over (suc p) ys x zs h.1 e
      ∙ ap (λ q. Err (fault q)) s

  pub tells_first : (xs : List X) → TellsFirst test fault xs (each_passes test fault 1 xs)
  tells_first xs =
      record {
        all_pass = (all_since 1 xs, all_from 1 xs);
        first_fails = λ p f.
            ap (each_passes test fault 1) f.parts
            ∙ passed_over 1 f.passing f.failing f.others f.passes f.fails
            ∙ ap (λ q. Err (fault q)) (sym f.place);
      }

  pub tells_by : (xs : List X) (answer : Answer) → answer ≡ each_passes test fault 1 xs → TellsFirst test fault xs answer
  tells_by xs answer e = subst (TellsFirst test fault xs) (sym e) (tells_first xs)

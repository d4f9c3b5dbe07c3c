-- The first number that fails a test.
use Rattle.std.proofs.Common.{◌≡◌, ℕ, zero, suc, ◌+◌, ◌<◌, ◌≤◌, Bool, true, false, cond, not, eqb, ltb, None, Some, List, [], ◌∷◌, length, take, get_or, sym, refl, ap, ◌∙◌, subst, ⊎_elim, arith, unwrap_or}
use Rattle.std.specs.List.{range_with_len, find, position, position_or_len}
use Rattle.std.proofs.lemmas.List.Sums.{prefix_len-le-length}
use Rattle.std.proofs.lemmas.Bool.{cases_eq, cases_Bool, eq-eqb, ltb-false, cond-true, cond-false}
use Rattle.drawing.specs.Drawn.{first_failing}

module _ (test : ℕ → Bool) where
  stops_from : (a n m : ℕ) → a ≤ m → m < a + n → ((k : ℕ) → a ≤ k → k < m → test k ≡ true) → test m ≡ false → first_failing test a n ≡ m
  stops_from a zero m p q h f = absurd (omega arith)
  stops_from a (suc n) m p q h f =
      ⊎_elim
      (λ (e : a ≡ m). let P : ℕ → Type 0 = λ k. test k ≡ false in cond-false (test a) (first_failing test (a + 1) n) a (subst P (sym e) f) ∙ e)
      (λ (d : a ≡ m → ⊥). cond-true (test a) (first_failing test (a + 1) n) a (h a (omega arith) (omega arith)) ∙ stops_from (a + 1) n m (omega arith) (omega arith) (λ k l u. h k (omega arith) u) f)
      (cases_eq a m)

  passes_from : (a n m : ℕ) → a + n ≡ m → ((k : ℕ) → a ≤ k → k < m → test k ≡ true) → first_failing test a n ≡ m
  passes_from a zero m e h = omega arith
  passes_from a (suc n) m e h =
      cond-true (test a) (first_failing test (a + 1) n) a (h a (omega arith) (omega arith)) ∙ passes_from (a + 1) n m (omega arith) (λ k l u. h k (omega arith) u)

  -- a number below that passes the test, and fails it itself, is the first
  pub stops : (n m : ℕ) → m < n → ((k : ℕ) → k < m → test k ≡ true) → test m ≡ false → first_failing test 0 n ≡ m
  stops n m p h f = stops_from 0 n m (omega arith) (omega arith) (λ k _ u. h k u) f

  pub passes : (n : ℕ) → ((k : ℕ) → k < n → test k ≡ true) → first_failing test 0 n ≡ n
  passes n h = passes_from 0 n n (omega arith) (λ k _ u. h k u)

  before_from : (a n k : ℕ) → a ≤ k → k < first_failing test a n → test k ≡ true
  before_from a zero k p q = absurd (omega arith)
  before_from a (suc n) k p q =
      ⊎_elim
      (λ (t : test a ≡ true).
      let e = cond-true (test a) (first_failing test (a + 1) n) a t in
      ⊎_elim
      (λ (e' : a ≡ k). let P : ℕ → Type 0 = λ j. test j ≡ true in subst P e' t)
      (λ (d : a ≡ k → ⊥). before_from (a + 1) n k (omega arith) (omega arith))
      (cases_eq a k))
      (λ (f : test a ≡ false). let e = cond-false (test a) (first_failing test (a + 1) n) a f in absurd (omega arith))
      (cases_Bool (test a))

  most_from : (a n : ℕ) → first_failing test a n ≤ a + n
  most_from a zero = omega arith
  most_from a (suc n) =
      ⊎_elim
      (λ (t : test a ≡ true). let e = cond-true (test a) (first_failing test (a + 1) n) a t in let r = most_from (a + 1) n in omega arith)
      (λ (f : test a ≡ false). let e = cond-false (test a) (first_failing test (a + 1) n) a f in omega arith)
      (cases_Bool (test a))

  -- every number before the first passes, and it is at most the number after all
  pub before_passes : (n k : ℕ) → k < first_failing test 0 n → test k ≡ true
  before_passes n k h = before_from 0 n k (omega arith) h

  pub first_most : (n : ℕ) → first_failing test 0 n ≤ n
  first_most n = let h = most_from 0 n in omega arith

  -- a search among the numbers finds it
  pub first_found : (a n : ℕ) → unwrap_or (find (λ k. not (test k)) (range_with_len a n)) (a + n) ≡ first_failing test a n
  first_found a zero = omega arith
  first_found a (suc n) =
      let e : a + suc n ≡ a + 1 + n = omega arith in
      ⊎_elim
      (λ (t : test a ≡ true).
      ap (λ b. unwrap_or (cond (not b) (Some a) (find (λ k. not (test k)) (range_with_len (a + 1) n))) (a + suc n)) t
      ∙ ap (unwrap_or (find (λ k. not (test k)) (range_with_len (a + 1) n))) e ∙ first_found (a + 1) n ∙ sym (cond-true (test a) (first_failing test (a + 1) n) a t))
      (λ (f : test a ≡ false).
      ap (λ b. unwrap_or (cond (not b) (Some a) (find (λ k. not (test k)) (range_with_len (a + 1) n))) (a + suc n)) f ∙ sym (cond-false (test a) (first_failing test (a + 1) n) a f))
      (cases_Bool (test a))

-- a search through a list gives the place that it finds, and the list's length where it finds none
pub place_or_length : {A : Type 0} (p : A → Bool) (xs : List A) → unwrap_or (position p xs) (length xs) ≡ position_or_len p xs
place_or_length p xs =
    let k = position_or_len p xs in
    let most = prefix_len-le-length (λ x. not (p x)) xs in
    ⊎_elim
    (λ (t : ltb k (length xs) ≡ true). ap (λ b. unwrap_or (cond b (Some k) None) (length xs)) t)
    (λ (f : ltb k (length xs) ≡ false). let past = ltb-false k (length xs) f in ap (λ b. unwrap_or (cond b (Some k) None) (length xs)) f ∙ omega arith)
    (cases_Bool (ltb k (length xs)))

-- the first number at which a list has an item, or no more items
module _ (item : ℕ) where
  abbrev goes_on : ℕ → Bool
  goes_on b = not (eqb b item)

  placed_from : (test : ℕ → Bool) (bytes : List ℕ) (a n : ℕ) → ((k : ℕ) → test (a + k) ≡ goes_on (get_or bytes k item)) → a + position_or_len (λ b. eqb b item) (take n bytes) ≡ first_failing test a n
  placed_from test bytes a zero h = omega arith
  placed_from test [] a (suc n) h =
      let here : a ≡ a + 0 = omega arith in
      sym here ∙ sym (cond-false (test a) (first_failing test (a + 1) n) a (ap test here ∙ h 0 ∙ ap not (eq-eqb item item refl)))
  placed_from test (b ∷ bytes) a (suc n) h =
      let rest = position_or_len (λ x. eqb x item) (take n bytes) in
      let here : a ≡ a + 0 = omega arith in
      let first : test a ≡ goes_on b = ap test here ∙ h 0 in
      let next : a + (1 + rest) ≡ a + 1 + rest = omega arith in
      ⊎_elim
      (λ (t : goes_on b ≡ true).
      ap (λ x. a + cond x (1 + rest) 0) t ∙ next ∙ placed_from test bytes (a + 1) n (λ k. let shifted : a + 1 + k ≡ a + suc k = omega arith in ap test shifted ∙ h (suc k))
      ∙ sym (cond-true (test a) (first_failing test (a + 1) n) a (first ∙ t)))
      (λ (f : goes_on b ≡ false). ap (λ x. a + cond x (1 + rest) 0) f ∙ sym here ∙ sym (cond-false (test a) (first_failing test (a + 1) n) a (first ∙ f)))
      (cases_Bool (goes_on b))

  pub first_placed : (bytes : List ℕ) (n : ℕ) → position_or_len (λ b. eqb b item) (take n bytes) ≡ first_failing (λ k. goes_on (get_or bytes k item)) 0 n
  first_placed bytes n =
      let test : ℕ → Bool = λ k. goes_on (get_or bytes k item) in
      let placed = placed_from test bytes 0 n (λ k. let same : 0 + k ≡ k = omega arith in ap test same) in
      omega arith

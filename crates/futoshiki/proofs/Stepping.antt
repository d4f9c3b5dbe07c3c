-- Variables that go by steps: which they are on the board.
use mathlib.Core.List.{map-map}
use Rattle.std.proofs.Common.{◌≡◌, ℕ, zero, suc, ◌+◌, ◌-◌, ◌*◌, ◌<◌, ◌≤◌, List, [], ◌∷◌, ◌++◌, map, length, get_or, take, pos, sym, refl, ap, ◌∙◌, mul_assoc, add-mul, suc-mul, zero-mul, mul-one, arith, w32, to_z}
use Rattle.std.specs.List.{flat_map, range_with_len}
use Rattle.std.proofs.lemmas.List.{append-nil, append_assoc, map-append}
use Rattle.std.proofs.lemmas.Int.{ints}
use Rattle.cnf.specs.Formula.{Clause}
use Rattle.cnf.specs.declared.literal.Literal.{Literal}
use Rattle.cnf.specs.Tabled.{numbers_of}
use Rattle.cnf.proofs.Cuts.{no_literal}
use Rattle.futoshiki.specs.Board.{up_to, cell_at, variable_at}
use Rattle.futoshiki.specs.Listing.{pairs_of, not_both, some_value, one_of, no_two_values, once_in_row, once_in_column, single_values, row_clauses, column_clauses}
use Rattle.futoshiki.specs.Drafts.{not_with, no_two_stepped, no_two_along}

-- the number of a literal that asserts
pub asserted_number : (x : ℕ) → x ≤ 20000 → to_z w32 x ≡ pos x
asserted_number x h = omega (arith, ints)

-- the first n literals of a list assert the n variables from `first` on
pub counted_literals : (first n : ℕ) (ls : List Literal) → n ≤ length ls → ((i : ℕ) → i < n → (get_or ls i no_literal).0 ≡ pos (first + i)) → numbers_of (take n ls) ≡ one_of (range_with_len first n)
counted_literals first zero ls l h = refl
counted_literals first (suc n) [] l h = absurd (omega arith)
counted_literals first (suc n) (x ∷ ls) l h =
    let e : first + 0 ≡ first = omega arith in
    ap (λ k. k ∷ numbers_of (take n ls)) (h 0 (omega arith) ∙ ap pos e)
    ∙ ap (λ ks. pos first ∷ ks) (counted_literals (first + 1) n ls (omega arith) (λ i p. h (suc i) (omega arith) ∙ ap pos (omega arith)))

joined_longer : {A : Type 0} (g : ℕ → List A) (b n m : ℕ) → flat_map g (range_with_len b (n + m)) ≡ flat_map g (range_with_len b n) ++ flat_map g (range_with_len (b + n) m)
joined_longer g b zero m =
    let p : 0 + m ≡ m = omega arith in
    let q : b + 0 ≡ b = omega arith in
    ap (λ k. flat_map g (range_with_len b k)) p ∙ ap (λ k. flat_map g (range_with_len k m)) (sym q)
joined_longer g b (suc n) m =
    let p : suc n + m ≡ suc (n + m) = omega arith in
    let q : b + 1 + n ≡ b + suc n = omega arith in
    ap (λ k. flat_map g (range_with_len b k)) p
    ∙ ap (λ xs. g b ++ xs) (joined_longer g (b + 1) n m ∙ ap (λ k. flat_map g (range_with_len (b + 1) n) ++ flat_map g (range_with_len k m)) q)
    ∙ sym (append_assoc (g b) (flat_map g (range_with_len (b + 1) n)) (flat_map g (range_with_len (b + suc n) m)))

pub joined_up_more : {A : Type 0} (g : ℕ → List A) (n : ℕ) → flat_map g (up_to (n + 1)) ≡ flat_map g (up_to n) ++ g (n + 1)
joined_up_more g n = joined_longer g 1 n 1 ∙ ap (λ xs. flat_map g (up_to n) ++ xs) (append-nil (g (1 + n)) ∙ ap g (omega arith))

-- two ways to count through one list
pub same_along : {A : Type 0} (f h : ℕ → A) (a b n : ℕ) → ((k : ℕ) → k < n → f (a + k) ≡ h (b + k)) → map f (range_with_len a n) ≡ map h (range_with_len b n)
same_along f h a b zero e = refl
same_along f h a b (suc n) e =
    let p : a + 0 ≡ a = omega arith in
    let q : b + 0 ≡ b = omega arith in
    ap (λ x. x ∷ map f (range_with_len (a + 1) n)) (sym (ap f p) ∙ e 0 (omega arith) ∙ ap h q)
    ∙ ap (λ xs. h b ∷ xs) (same_along f h (a + 1) (b + 1) n (λ k l.
    let r : a + 1 + k ≡ a + (k + 1) = omega arith in
    let s : b + (k + 1) ≡ b + 1 + k = omega arith in
    ap f r ∙ e (k + 1) (omega arith) ∙ ap h s))

joined_along : {A : Type 0} (g h : ℕ → List A) (a b n : ℕ) → ((k : ℕ) → k < n → g (a + k) ≡ h (b + k)) → flat_map g (range_with_len a n) ≡ flat_map h (range_with_len b n)
joined_along g h a b zero e = refl
joined_along g h a b (suc n) e =
    let p : a + 0 ≡ a = omega arith in
    let q : b + 0 ≡ b = omega arith in
    ap (λ xs. xs ++ flat_map g (range_with_len (a + 1) n)) (sym (ap g p) ∙ e 0 (omega arith) ∙ ap h q)
    ∙ ap (λ xs. h b ++ xs) (joined_along g h (a + 1) (b + 1) n (λ k l.
    let r : a + 1 + k ≡ a + (k + 1) = omega arith in
    let s : b + (k + 1) ≡ b + 1 + k = omega arith in
    ap g r ∙ e (k + 1) (omega arith) ∙ ap h s))

-- a count through M blocks of N, one after another
joined_square : {A : Type 0} (g : ℕ → List A) (N M : ℕ) → flat_map (λ r. flat_map (λ c. g (cell_at N r c)) (up_to N)) (up_to M) ≡ flat_map g (up_to (M * N))
joined_square g N zero = ap (λ k. flat_map g (up_to k)) (sym (zero-mul N))
joined_square g N (suc m) =
    let e : suc m ≡ m + 1 = omega arith in
    let f : m + 1 - 1 ≡ m = omega arith in
    ap (λ k. flat_map (λ r. flat_map (λ c. g (cell_at N r c)) (up_to N)) (up_to k)) e
    ∙ joined_up_more (λ r. flat_map (λ c. g (cell_at N r c)) (up_to N)) m
    ∙ ap (λ xs. xs ++ flat_map (λ c. g (cell_at N (m + 1) c)) (up_to N)) (joined_square g N m)
    ∙ ap (λ xs. flat_map g (up_to (m * N)) ++ xs) (joined_along (λ c. g (cell_at N (m + 1) c)) g 1 (1 + m * N) N (λ k l. ap g (omega (arith, ap (λ x. x * N) f))))
    ∙ sym (joined_longer g 1 (m * N) N)
    ∙ ap (λ k. flat_map g (up_to k)) (omega (arith, suc-mul m N))

-- variables that follow by one
pub not_with_one : (x y n : ℕ) → not_with x y 1 n ≡ map (λ b. not_both x (y + b)) (up_to n)
not_with_one x y n = same_along (λ k. not_both x (y + k * 1)) (λ b. not_both x (y + b)) 1 1 n (λ k l. ap (λ m. not_both x (y + m)) (mul-one (1 + k)))

-- the pairs of a count, the pairs of each number after those of the numbers before
module _ (g : ℕ → ℕ) (x step top : ℕ) (at : (j : ℕ) → 1 ≤ j → g j ≡ x + (j - 1) * step) where
  abbrev both : ℕ × ℕ → Clause
  both p = not_both (g p.0) (g p.1)

  later : (b k : ℕ) → 1 ≤ b → x + (b - 1) * step + (1 + k) * step ≡ g (b + 1 + k)
  later b k h =
      let e : b - 1 + (1 + k) ≡ b + 1 + k - 1 = omega arith in
      omega (arith, at (b + 1 + k) (omega arith), add-mul (b - 1) (1 + k) step, ap (λ n. n * step) e)

  one_with_later : (b n : ℕ) → 1 ≤ b → not_with (x + (b - 1) * step) (x + (b - 1) * step) step n ≡ map both (map (λ y. (b, y)) (range_with_len (b + 1) n))
  one_with_later b n h =
      same_along (λ k. not_both (x + (b - 1) * step) (x + (b - 1) * step + k * step)) (λ y. not_both (g b) (g y)) 1 (b + 1) n
      (λ k l. ap (λ v. not_both v (x + (b - 1) * step + (1 + k) * step)) (sym (at b h)) ∙ ap (λ v. not_both (g b) v) (later b k h))
      ∙ sym (map-map both (λ y. (b, y)) (range_with_len (b + 1) n))

  stepped : (b n : ℕ) → 1 ≤ b → b + n ≡ top + 1 → flat_map (λ j. not_with (x + (j - 1) * step) (x + (j - 1) * step) step (top - j)) (range_with_len b n) ≡ map both (pairs_of (range_with_len b n))
  stepped b zero h e = refl
  stepped b (suc n) h e =
      let left : top - b ≡ n = omega arith in
      let rest = flat_map (λ j. not_with (x + (j - 1) * step) (x + (j - 1) * step) step (top - j)) (range_with_len (b + 1) n) in
      ap (λ m. not_with (x + (b - 1) * step) (x + (b - 1) * step) step m ++ rest) left
      ∙ ap (λ cs. cs ++ rest) (one_with_later b n h)
      ∙ ap (λ cs. map both (map (λ y. (b, y)) (range_with_len (b + 1) n)) ++ cs) (stepped (b + 1) n (omega arith) (omega arith))
      ∙ sym (map-append both (map (λ y. (b, y)) (range_with_len (b + 1) n)) (pairs_of (range_with_len (b + 1) n)))

  pub stepped_pairs : no_two_stepped x step top ≡ map both (pairs_of (up_to top))
  stepped_pairs = stepped 1 top (omega arith) (omega arith)

module _ (N : ℕ) where
  -- the variables of a cell
  pub cell_one_of : (i : ℕ) → one_of (range_with_len (i * N + 1) N) ≡ some_value N (i + 1)
  cell_one_of i =
      let e : i + 1 - 1 ≡ i = omega arith in
      same_along pos (λ v. pos (variable_at N (i + 1) v)) (i * N + 1) 1 N (λ k l. ap pos (omega (arith, ap (λ n. n * N) e)))
      ∙ sym (map-map pos (variable_at N (i + 1)) (up_to N))

  -- no two of the variables of a cell, of a row's cells at one value, of a column's cells at one value
  pub cell_stepped : (r c : ℕ) → 1 ≤ c → no_two_stepped ((r - 1) * (N * N) + (c - 1) * N + 1) 1 N ≡ no_two_values N (cell_at N r c)
  cell_stepped r c h =
      stepped_pairs (variable_at N (cell_at N r c)) ((r - 1) * (N * N) + (c - 1) * N + 1) 1 N
      (λ j l.
      let f : cell_at N r c - 1 ≡ (r - 1) * N + (c - 1) = omega arith in
      omega (arith, ap (λ k. k * N) f, add-mul ((r - 1) * N) (c - 1) N, mul_assoc (r - 1) N N, mul-one (j - 1)))

  pub row_stepped : (r v : ℕ) → 1 ≤ v → no_two_stepped ((r - 1) * (N * N) + (v - 1) * 1 + 1) N N ≡ once_in_row N r v
  row_stepped r v h =
      stepped_pairs (λ c. variable_at N (cell_at N r c) v) ((r - 1) * (N * N) + (v - 1) * 1 + 1) N N
      (λ j l.
      let f : cell_at N r j - 1 ≡ (r - 1) * N + (j - 1) = omega arith in
      omega (arith, ap (λ k. k * N) f, add-mul ((r - 1) * N) (j - 1) N, mul_assoc (r - 1) N N, mul-one (v - 1)))

  pub column_stepped : (c v : ℕ) → 1 ≤ c → 1 ≤ v → no_two_stepped ((c - 1) * N + (v - 1) * 1 + 1) (N * N) N ≡ once_in_column N c v
  column_stepped c v h l =
      stepped_pairs (λ r. variable_at N (cell_at N r c) v) ((c - 1) * N + (v - 1) * 1 + 1) (N * N) N
      (λ j m.
      let f : cell_at N j c - 1 ≡ (j - 1) * N + (c - 1) = omega arith in
      omega (arith, ap (λ k. k * N) f, add-mul ((j - 1) * N) (c - 1) N, mul_assoc (j - 1) N N, mul-one (v - 1)))

  -- lines whose variables are known
  along : (outer inner step : ℕ) (g : ℕ → ℕ → List Clause) → ((a b : ℕ) → 1 ≤ a → 1 ≤ b → no_two_stepped ((a - 1) * outer + (b - 1) * inner + 1) step N ≡ g a b) → no_two_along N outer inner step ≡ flat_map (λ a. flat_map (g a) (up_to N)) (up_to N)
  along outer inner step g h =
      joined_along _ _ 1 1 N (λ a p. joined_along _ _ 1 1 N (λ b q. h (1 + a) (1 + b) (omega arith) (omega arith)))

  pub cells_along : no_two_along N (N * N) N 1 ≡ single_values N
  cells_along = along (N * N) N 1 (λ r c. no_two_values N (cell_at N r c)) (λ r c p q. cell_stepped r c q) ∙ joined_square (no_two_values N) N N

  pub rows_along : no_two_along N (N * N) 1 N ≡ row_clauses N
  rows_along = along (N * N) 1 N (once_in_row N) (λ r v p q. row_stepped r v q)

  pub columns_along : no_two_along N N 1 (N * N) ≡ column_clauses N
  columns_along = along N 1 (N * N) (once_in_column N) column_stepped

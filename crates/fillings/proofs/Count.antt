-- How many clauses the listing has.
use Rattle.std.proofs.Common.{◌≡◌, ℕ, zero, suc, ◌+◌, ◌-◌, ◌*◌, ◌/◌, ◌≤◌, List, [], ◌∷◌, map, length, refl, ap, ◌∙◌, mul_assoc, suc-mul, zero-mul, mul-one, mul-suc, mul-add, arith}
use native.Mathlib.Nat.{div-eq_of_eq-mul_left}
use Rattle.std.specs.List.{flat_map, range_with_len}
use Rattle.std.proofs.lemmas.List.{length-append, length-map}
use Rattle.std.proofs.lemmas.List.FromFn.{length-range_with_len}
use Rattle.std.proofs.lemmas.Nat.{mul-le}
use Rattle.futoshiki.specs.declared.sign.Sign.{Sign}
use Rattle.futoshiki.specs.Board.{InRange, up_to}
use Rattle.futoshiki.specs.Listing.{pairs_of, some_value, no_two_values, once_in_row, once_in_column, not_at_most, some_values, single_values, row_clauses, column_clauses, sign_clauses, five_groups}
use Rattle.fillings.specs.Theorems.{clause_count}
use Rattle.futoshiki.proofs.Lists.{length_blocks}

-- how many pairs n members make
abbrev tri : ℕ → ℕ
tri zero = 0
tri (suc n) = n + tri n

tri_square : (n : ℕ) → tri n * 2 + n ≡ n * n
tri_square zero = refl
tri_square (suc n) = omega (arith, tri_square n, suc-mul n (suc n), mul-suc n n)

tri_double : (n : ℕ) → n * (n - 1) ≡ tri n * 2
tri_double zero = refl
tri_double (suc n) = ap (λ k. suc n * k) pred_suc ∙ omega (arith, tri_square n, suc-mul n n)
  where
    pred_suc : suc n - 1 ≡ n
    pred_suc = omega arith

tri_half : (n : ℕ) → n * (n - 1) / 2 ≡ tri n
tri_half n = div-eq_of_eq-mul_left (omega arith) (tri_double n)

tri_up_half : (n : ℕ) → n * (n + 1) / 2 ≡ n + tri n
tri_up_half n = div-eq_of_eq-mul_left (omega arith) (omega (arith, tri_square n, mul-add n n 1, mul-one n))

length_pairs : {A : Type 0} (xs : List A) → length (pairs_of xs) ≡ tri (length xs)
length_pairs [] = refl
length_pairs {A} (x ∷ xs) = length-append (map (λ y. (x, y)) xs) (pairs_of xs) ∙ omega (arith, length-map {B = A × A} xs (λ y. (x, y)), length_pairs xs)

module _ (N : ℕ) where
  -- the pairs of 1 to N, each made a clause
  length_map_pairs : {A : Type 0} (g : ℕ × ℕ → A) → length (map g (pairs_of (up_to N))) ≡ tri N
  length_map_pairs g = length-map (pairs_of (up_to N)) g ∙ length_pairs (up_to N) ∙ ap tri (length-range_with_len 1 N)

  length_upto_joined : {A : Type 0} (g : ℕ → List A) (n m : ℕ) → ((x : ℕ) → length (g x) ≡ m) → length (flat_map g (up_to n)) ≡ n * m
  length_upto_joined g n m h = length_blocks m g h (up_to n) ∙ ap (λ k. k * m) (length-range_with_len 1 n)

  length_some_values : length (some_values N) ≡ N * N
  length_some_values = length-map (up_to (N * N)) (some_value N) ∙ length-range_with_len 1 (N * N)

  length_single_values : length (single_values N) ≡ N * N * tri N
  length_single_values = length_upto_joined (no_two_values N) (N * N) (tri N) (λ i. length_map_pairs _)

  length_rows : length (row_clauses N) ≡ N * (N * tri N)
  length_rows = length_upto_joined _ N (N * tri N) (λ r. length_upto_joined (once_in_row N r) N (tri N) (λ v. length_map_pairs _))

  length_columns : length (column_clauses N) ≡ N * (N * tri N)
  length_columns = length_upto_joined _ N (N * tri N) (λ c. length_upto_joined (once_in_column N c) N (tri N) (λ v. length_map_pairs _))

  length_not_at_most : (s : Sign) (a : ℕ) → length (not_at_most N s a) ≡ a
  length_not_at_most s a = length-map (up_to a) _ ∙ length-range_with_len 1 a

  length_of_counting : (s : Sign) (b n : ℕ) → length (flat_map (not_at_most N s) (range_with_len b n)) ≡ n * b + tri n
  length_of_counting s b zero = omega (arith, zero-mul b)
  length_of_counting s b (suc n) =
      length-append (not_at_most N s b) (flat_map (not_at_most N s) (range_with_len (b + 1) n))
      ∙ omega (arith, length_not_at_most s b, length_of_counting s (b + 1) n, suc-mul n b, mul-add n b 1, mul-one n)

  length_of_sign : (s : Sign) → length (sign_clauses N s) ≡ N + tri N
  length_of_sign s = omega (arith, length_of_counting s 1 N, mul-one N)

  length_listing : (signs : List Sign) → length (five_groups N signs) ≡ N * N + 3 * (N * N) * tri N + length signs * (N + tri N)
  length_listing signs =
      simp (length-append, length_some_values, length_single_values, length_rows, length_columns, length_blocks (N + tri N) (sign_clauses N) length_of_sign signs)
      (omega (arith, mul_assoc N N (tri N), mul_assoc 3 (N * N) (tri N)))

  pub count : (signs : List Sign) → length (five_groups N signs) ≡ clause_count N (length signs)
  count signs = rw (tri_half N, tri_up_half N) (length_listing signs)

  pub variables_fit : 2 ≤ N → N ≤ 9 → InRange 1024 (N * N * N)
  variables_fit p q = (omega (arith, mul-le 1 1 N N (omega arith) (omega arith), mul-le 1 1 (N * N) N (mul-le 1 1 N N (omega arith) (omega arith)) (omega arith)), omega (arith, mul-le (N * N) N 81 9 (mul-le N N 9 9 q q) q))

  pub count_fits : (signs : List Sign) → N ≤ 9 → length signs ≤ 1000 → length (five_groups N signs) ≤ 65535
  count_fits signs q r =
      let half : tri N ≤ 36 = omega (arith, tri_double N, mul-le N (N - 1) 9 8 q (omega arith)) in
      rw (length_listing signs) (omega (arith, mul-le N N 9 9 q q, mul_assoc 3 (N * N) (tri N), mul-le (N * N) (tri N) 81 36 (mul-le N N 9 9 q q) half, mul-le (length signs) (N + tri N) 1000 45 r (omega arith)))

-- A statement of every clause of the listing, group by group, over rows, columns, cells and values.
use Rattle.std.proofs.Common.{ℕ, ◌*◌, ◌<◌, ◌≤◌, List, ◌++◌, map, arith}
use Rattle.std.specs.List.{AllByRecursion, flat_map}
use Rattle.std.proofs.ByRecursion.{All-append, All-map, All-weaker}
use Rattle.cnf.specs.Formula.{Clause}
use Rattle.futoshiki.specs.declared.sign.Sign.{Sign}
use Rattle.futoshiki.specs.Board.{InRange, up_to, cell_at, variable_at}
use Rattle.futoshiki.specs.Listing.{pairs_of, not_both, some_value, no_two_values, once_in_row, once_in_column, not_at_most, some_values, single_values, row_clauses, column_clauses, sign_clauses, five_groups}
use Rattle.futoshiki.proofs.Lists.{all_left, all_right, all_joined, all_from_joined, all_from_map, all_counting, all_from_counting, all_pairs, all_from_pairs}

-- P holds of each clause that the sign lists
abbrev pub OfSign : (Clause → Type 0) → ℕ → Sign → Type 0
OfSign P N s = (x y : ℕ) → InRange N x → InRange x y → P (not_both (variable_at N s.lesser x) (variable_at N s.greater y))

-- P holds of each clause of each group
pub record Groups (P : Clause → Type 0) (N : ℕ) (signs : List Sign) : Type 0 where
  pub some : (i : ℕ) → InRange (N * N) i → P (some_value N i)
  pub single : (i v w : ℕ) → InRange (N * N) i → 1 ≤ v → v < w → w ≤ N → P (not_both (variable_at N i v) (variable_at N i w))
  pub in_row : (r v c d : ℕ) → InRange N r → InRange N v → 1 ≤ c → c < d → d ≤ N → P (not_both (variable_at N (cell_at N r c) v) (variable_at N (cell_at N r d) v))
  pub in_column : (c v r s : ℕ) → InRange N c → InRange N v → 1 ≤ r → r < s → s ≤ N → P (not_both (variable_at N (cell_at N r c) v) (variable_at N (cell_at N s c) v))
  pub of_signs : AllByRecursion (OfSign P N) signs

module _ (P : ℕ → Type 0) (n : ℕ) where
  pub all_upto : ((k : ℕ) → InRange n k → P k) → AllByRecursion P (up_to n)
  all_upto h = all_counting P 1 n (λ k p q. h k (p, omega arith))

  pub all_from_upto : AllByRecursion P (up_to n) → (k : ℕ) → InRange n k → P k
  all_from_upto h k w = all_from_counting P 1 n h k w.0 (omega arith)

-- each combinator of the listing: what holds of its clauses is what holds at each number, at each pair of numbers
module _ (P : Clause → Type 0) (n : ℕ) where
  each : (g : ℕ → Clause) → ((k : ℕ) → InRange n k → P (g k)) → AllByRecursion P (map g (up_to n))
  each g h = All-map P g (up_to n) (all_upto (λ k. P (g k)) n h)

  at_each : (g : ℕ → Clause) → AllByRecursion P (map g (up_to n)) → (k : ℕ) → InRange n k → P (g k)
  at_each g h = all_from_upto (λ k. P (g k)) n (all_from_map P g (up_to n) h)

  each_group : (g : ℕ → List Clause) → ((k : ℕ) → InRange n k → AllByRecursion P (g k)) → AllByRecursion P (flat_map g (up_to n))
  each_group g h = all_joined P g (up_to n) (all_upto (λ k. AllByRecursion P (g k)) n h)

  at_group : (g : ℕ → List Clause) → AllByRecursion P (flat_map g (up_to n)) → (k : ℕ) → InRange n k → AllByRecursion P (g k)
  at_group g h = all_from_upto (λ k. AllByRecursion P (g k)) n (all_from_joined P g (up_to n) h)

  each_pair : (g : ℕ × ℕ → Clause) → ((j k : ℕ) → 1 ≤ j → j < k → k ≤ n → P (g (j, k))) → AllByRecursion P (map g (pairs_of (up_to n)))
  each_pair g h = All-map P g (pairs_of (up_to n)) (all_pairs (λ p. P (g p)) 1 n (λ j k p q r. h j k p q (omega arith)))

  at_pair : (g : ℕ × ℕ → Clause) → AllByRecursion P (map g (pairs_of (up_to n))) → (j k : ℕ) → 1 ≤ j → j < k → k ≤ n → P (g (j, k))
  at_pair g h j k p q r = all_from_pairs (λ p. P (g p)) 1 n (all_from_map P g (pairs_of (up_to n)) h) j k p q (omega arith)

module _ (P : Clause → Type 0) (N : ℕ) (signs : List Sign) where
  each_of_sign : (s : Sign) → OfSign P N s → AllByRecursion P (sign_clauses N s)
  each_of_sign s h = each_group P N (not_at_most N s) (λ x wx. each P x _ (λ y wy. h x y wx wy))

  at_sign : (s : Sign) → AllByRecursion P (sign_clauses N s) → OfSign P N s
  at_sign s h x y wx wy = at_each P x _ (at_group P N (not_at_most N s) h x wx) y wy

  pub all_listing : Groups P N signs → AllByRecursion P (five_groups N signs)
  all_listing g =
      let one = each P (N * N) (some_value N) g.some in
      let two = each_group P (N * N) (no_two_values N) (λ i wi. each_pair P N _ (λ v w p q r. g.single i v w wi p q r)) in
      let three = each_group P N _ (λ r wr. each_group P N (once_in_row N r) (λ v wv. each_pair P N _ (λ c d p q u. g.in_row r v c d wr wv p q u))) in
      let four = each_group P N _ (λ c wc. each_group P N (once_in_column N c) (λ v wv. each_pair P N _ (λ r s p q u. g.in_column c v r s wc wv p q u))) in
      let five = all_joined P (sign_clauses N) signs (All-weaker (OfSign P N) (λ s. AllByRecursion P (sign_clauses N s)) each_of_sign signs g.of_signs) in
      All-append P (some_values N) _ one (All-append P (single_values N) _ two (All-append P (row_clauses N) _ three (All-append P (column_clauses N) _ four five)))

  pub from_listing : AllByRecursion P (five_groups N signs) → Groups P N signs
  from_listing h =
      let after_four = flat_map (sign_clauses N) signs in
      let after_three = column_clauses N ++ after_four in
      let after_two = row_clauses N ++ after_three in
      let after_one = single_values N ++ after_two in
      let h₂ = all_right P (some_values N) after_one h in
      let h₃ = all_right P (single_values N) after_two h₂ in
      let h₄ = all_right P (row_clauses N) after_three h₃ in
      let h₅ = all_right P (column_clauses N) after_four h₄ in
      record {
        some = at_each P (N * N) (some_value N) (all_left P (some_values N) after_one h);
        single = λ i v w wi p q r. at_pair P N _ (at_group P (N * N) (no_two_values N) (all_left P (single_values N) after_two h₂) i wi) v w p q r;
        in_row = λ r v c d wr wv p q u. at_pair P N _ (at_group P N (once_in_row N r) (at_group P N _ (all_left P (row_clauses N) after_three h₃) r wr) v wv) c d p q u;
        in_column = λ c v r s wc wv p q u. at_pair P N _ (at_group P N (once_in_column N c) (at_group P N _ (all_left P (column_clauses N) after_four h₄) c wc) v wv) r s p q u;
        of_signs = All-weaker (λ s. AllByRecursion P (sign_clauses N s)) (OfSign P N) at_sign signs (all_from_joined P (sign_clauses N) signs h₅);
      }

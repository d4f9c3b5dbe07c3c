-- What it says of an assignment that each clause of the listing is true, over cells and values.
use Rattle.std.proofs.Common.{◌≡◌, ℕ, ◌*◌, ◌<◌, ◌≤◌, true, List, arith}
use Rattle.std.specs.List.{AllByRecursion}
use Rattle.std.proofs.ByRecursion.{All-weaker}
use Rattle.cnf.specs.Formula.{Assignment, Clause, value_of, clause_true, all_true}
use Rattle.futoshiki.specs.declared.sign.Sign.{Sign}
use Rattle.futoshiki.specs.Board.{InRange, cell_at, variable_at}
use Rattle.futoshiki.specs.Listing.{five_groups}
use Rattle.fillings.proofs.Groups.{OfSign, all_listing, from_listing}
use Rattle.fillings.proofs.Truth.{NotBoth, all_true_from, each_true, not_both_true, not_both_from, one_of_true, one_of_from}

-- where the lesser cell holds x, the greater holds none of 1 to x
abbrev pub SignSays : Assignment → ℕ → Sign → Type 0
SignSays a N s = (x y : ℕ) → InRange N x → InRange x y → NotBoth a (variable_at N s.lesser x) (variable_at N s.greater y)

pub record View (a : Assignment) (N : ℕ) (signs : List Sign) : Type 0 where
  pub some : (i : ℕ) → InRange (N * N) i → (v : ℕ) × InRange N v × (value_of a (variable_at N i v) ≡ true)
  pub single : (i v w : ℕ) → InRange (N * N) i → 1 ≤ v → v < w → w ≤ N → NotBoth a (variable_at N i v) (variable_at N i w)
  pub in_row : (r v c d : ℕ) → InRange N r → InRange N v → 1 ≤ c → c < d → d ≤ N → NotBoth a (variable_at N (cell_at N r c) v) (variable_at N (cell_at N r d) v)
  pub in_column : (c v r s : ℕ) → InRange N c → InRange N v → 1 ≤ r → r < s → s ≤ N → NotBoth a (variable_at N (cell_at N r c) v) (variable_at N (cell_at N s c) v)
  pub of_signs : AllByRecursion (SignSays a N) signs

module _ (a : Assignment) (N : ℕ) (signs : List Sign) where
  abbrev IsTrue : Clause → Type 0
  IsTrue c = clause_true a c ≡ true

  pub satisfies_from_view : View a N signs → all_true a (five_groups N signs) ≡ true
  satisfies_from_view u = all_true_from a (five_groups N signs) (all_listing IsTrue N signs (record {
    some = λ i wi. let t = u.some i wi in one_of_true a (variable_at N i) 1 N t.0 t.1.0 (omega arith) (omega arith) t.2;
    single = λ i v w wi p q r. not_both_true a _ _ (omega arith) (omega arith) (u.single i v w wi p q r);
    in_row = λ r v c d wr wv p q t. not_both_true a _ _ (omega arith) (omega arith) (u.in_row r v c d wr wv p q t);
    in_column = λ c v r s wc wv p q t. not_both_true a _ _ (omega arith) (omega arith) (u.in_column c v r s wc wv p q t);
    of_signs = All-weaker (SignSays a N) (OfSign IsTrue N) (λ s h x y wx wy. not_both_true a _ _ (omega arith) (omega arith) (h x y wx wy)) signs u.of_signs;
  }))

  pub view_from_satisfies : all_true a (five_groups N signs) ≡ true → View a N signs
  view_from_satisfies h = let g = from_listing IsTrue N signs (each_true a (five_groups N signs) h) in record {
    some = λ i wi. let t = one_of_from a (variable_at N i) 1 N (λ k p. omega arith) (g.some i wi) in (t.0, (t.1, omega arith), t.3);
    single = λ i v w wi p q r. not_both_from a _ _ (omega arith) (omega arith) (g.single i v w wi p q r);
    in_row = λ r v c d wr wv p q t. not_both_from a _ _ (omega arith) (omega arith) (g.in_row r v c d wr wv p q t);
    in_column = λ c v r s wc wv p q t. not_both_from a _ _ (omega arith) (omega arith) (g.in_column c v r s wc wv p q t);
    of_signs = All-weaker (OfSign IsTrue N) (SignSays a N) (λ s h x y wx wy. not_both_from a _ _ (omega arith) (omega arith) (h x y wx wy)) signs g.of_signs;
  }

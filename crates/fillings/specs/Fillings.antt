-- Fillings of the board, the rules that they keep, and their assignments.
use Rattle.std.specs.Prelude.{◌≡◌, ℕ, ◌-◌, ◌*◌, ◌<◌, List, map, length, nat_eq, slice_index}
use Rattle.std.specs.List.{flat_map, AllByRecursion}
use Rattle.cnf.specs.Formula.{Assignment}
use Rattle.futoshiki.specs.declared.sign.Sign.{Sign}
use Rattle.futoshiki.specs.Board.{InRange, up_to, cell_at}

-- a filling: the cells' values, in reading order
abbrev pub Filling : ℕ → List ℕ → Type 0
Filling N f = (length f ≡ N * N) × AllByRecursion (InRange N) f

-- the value in cell i
abbrev pub held_value : List ℕ → ℕ → ℕ
held_value f i = slice_index f (i - 1)

-- exactly one of 1 to n is such
abbrev pub ExactlyOne : ℕ → (ℕ → Type 0) → Type 0
ExactlyOne n P = (k : ℕ) × InRange n k × P k × ((j : ℕ) → InRange n j → P j → j ≡ k)

-- the rules: each row and each column holds each value exactly once, and each sign's lesser cell holds less than its greater
pub record Keeps (N : ℕ) (signs : List Sign) (f : List ℕ) : Type 0 where
  pub rows_whole : (r v : ℕ) → InRange N r → InRange N v → ExactlyOne N (λ c. held_value f (cell_at N r c) ≡ v)
  pub columns_whole : (c v : ℕ) → InRange N c → InRange N v → ExactlyOne N (λ r. held_value f (cell_at N r c) ≡ v)
  pub signs_hold : AllByRecursion (λ s. held_value f s.lesser < held_value f s.greater) signs

-- the assignment of a filling: cell by cell, value by value, whether the cell holds the value
abbrev pub filling_assignment : ℕ → List ℕ → Assignment
filling_assignment N f = flat_map (λ x. map (nat_eq x) (up_to N)) f

-- The board: cells, their rows and columns, variables, and cells that share a side. Rows, columns, cells, values and variables are counted from 1.
use Rattle.std.specs.Prelude.{◌≡◌, ℕ, ◌+◌, ◌-◌, ◌*◌, ◌/◌, ◌%◌, ◌≤◌, Bool, ◌&&◌, ◌||◌, ◌⊎◌, List, ◌==◌}
use Rattle.std.specs.List.{range_with_len}

-- k is one of 1 to n
abbrev pub InRange : ℕ → ℕ → Type 0
InRange n k = (1 ≤ k) × (k ≤ n)

-- the numbers from 1 to n, ascending
abbrev pub up_to : ℕ → List ℕ
up_to n = range_with_len 1 n

-- the cell in row r and column c, in reading order
abbrev pub cell_at : ℕ → ℕ → ℕ → ℕ
cell_at N r c = (r - 1) * N + c

-- the variable that says that cell i holds v
abbrev pub variable_at : ℕ → ℕ → ℕ → ℕ
variable_at N i v = (i - 1) * N + v

-- the row of a cell
abbrev pub row_of : ℕ → ℕ → ℕ
row_of N i = (i - 1) / N + 1

-- the column of a cell
abbrev pub column_of : ℕ → ℕ → ℕ
column_of N i = (i - 1) % N + 1

-- whether two numbers differ by one
abbrev pub differ_by_one : ℕ → ℕ → Bool
differ_by_one a b = a + 1 == b || b + 1 == a

-- whether two cells share a side
unfoldable pub sharing_side : ℕ → ℕ → ℕ → Bool
sharing_side N i j = (row_of N i == row_of N j && differ_by_one (column_of N i) (column_of N j)) || (column_of N i == column_of N j && differ_by_one (row_of N i) (row_of N j))

-- two numbers differ by one, as a statement
abbrev pub DifferByOne : ℕ → ℕ → Type 0
DifferByOne a b = (a + 1 ≡ b) ⊎ (b + 1 ≡ a)

-- two cells of the board share a side: they stand in one row and in columns that differ by one, or in one column and in rows that differ by one
pub record SharingSide (N i j : ℕ) : Type 0 where
  pub row_i : ℕ
  pub column_i : ℕ
  pub row_j : ℕ
  pub column_j : ℕ
  pub row_i_on : InRange N row_i
  pub column_i_on : InRange N column_i
  pub row_j_on : InRange N row_j
  pub column_j_on : InRange N column_j
  pub place_i : i ≡ cell_at N row_i column_i
  pub place_j : j ≡ cell_at N row_j column_j
  pub beside : ((row_i ≡ row_j) × DifferByOne column_i column_j) ⊎ ((column_i ≡ column_j) × DifferByOne row_i row_j)

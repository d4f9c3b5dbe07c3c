-- The listing of clauses of a Futoshiki of side N with the given signs.
use Rattle.std.specs.Prelude.{ℕ, ◌*◌, cond, List, [], ◌∷◌, ◌++◌, map, pos, neg_ℤ}
use Rattle.std.specs.List.{flat_map}
use Rattle.cnf.specs.Formula.{Clause}
use Rattle.futoshiki.specs.declared.sign.Sign.{Sign}
use Rattle.futoshiki.specs.Board.{up_to, cell_at, variable_at}
use Rattle.futoshiki.specs.Rules.{rules_kept}

-- the pairs of members, in lexicographic order of their places
abbrev pub pairs_of : {A : Type 0} → List A → List (A × A)
pairs_of [] = []
pairs_of (x ∷ xs) = map (λ y. (x, y)) xs ++ pairs_of xs

-- variables x and y are not both true
abbrev pub not_both : ℕ → ℕ → Clause
not_both x y = neg_ℤ (pos x) ∷ neg_ℤ (pos y) ∷ []

-- one of the variables is true
abbrev pub one_of : List ℕ → Clause
one_of xs = map pos xs

-- cell i holds some value
abbrev pub some_value : ℕ → ℕ → Clause
some_value N i = one_of (map (variable_at N i) (up_to N))

-- cell i holds no two values
abbrev pub no_two_values : ℕ → ℕ → List Clause
no_two_values N i = map (λ p. not_both (variable_at N i p.0) (variable_at N i p.1)) (pairs_of (up_to N))

-- row r holds v in no two columns
abbrev pub once_in_row : ℕ → ℕ → ℕ → List Clause
once_in_row N r v = map (λ p. not_both (variable_at N (cell_at N r p.0) v) (variable_at N (cell_at N r p.1) v)) (pairs_of (up_to N))

-- column c holds v in no two rows
abbrev pub once_in_column : ℕ → ℕ → ℕ → List Clause
once_in_column N c v = map (λ p. not_both (variable_at N (cell_at N p.0 c) v) (variable_at N (cell_at N p.1 c) v)) (pairs_of (up_to N))

-- where the lesser cell holds a, the greater holds none of 1 to a
abbrev pub not_at_most : ℕ → Sign → ℕ → List Clause
not_at_most N s a = map (λ b. not_both (variable_at N s.lesser a) (variable_at N s.greater b)) (up_to a)

-- 1: each cell holds some value
abbrev pub some_values : ℕ → List Clause
some_values N = map (some_value N) (up_to (N * N))

-- 2: no cell holds two values
abbrev pub single_values : ℕ → List Clause
single_values N = flat_map (no_two_values N) (up_to (N * N))

-- 3: no row holds a value twice
abbrev pub row_clauses : ℕ → List Clause
row_clauses N = flat_map (λ r. flat_map (once_in_row N r) (up_to N)) (up_to N)

-- 4: no column holds a value twice
abbrev pub column_clauses : ℕ → List Clause
column_clauses N = flat_map (λ c. flat_map (once_in_column N c) (up_to N)) (up_to N)

-- 5: the clauses of one sign
abbrev pub sign_clauses : ℕ → Sign → List Clause
sign_clauses N s = flat_map (not_at_most N s) (up_to N)

-- the five groups, in order
abbrev pub five_groups : ℕ → List Sign → List Clause
five_groups N signs = some_values N ++ (single_values N ++ (row_clauses N ++ (column_clauses N ++ flat_map (sign_clauses N) signs)))

-- the number of variables that a board tells: none where it breaks the rules
abbrev pub board_variables : ℕ → List Sign → ℕ
board_variables N signs = cond (rules_kept N signs) (N * N * N) 0

-- the clauses that a board lists: none where it breaks the rules
abbrev pub board_listing : ℕ → List Sign → List Clause
board_listing N signs = cond (rules_kept N signs) (five_groups N signs) []

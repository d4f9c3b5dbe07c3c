-- What an accepted puzzle means: its source, its solutions, and the filling that its claims give.
use Rattle.std.specs.Prelude.{◌≡◌, ℕ, ◌*◌, Bool, cond, List, [], ◌∷◌, map, pos, ◌==◌}
use Rattle.std.specs.List.{AllByRecursion}
use Rattle.cnf.specs.Formula.{Clause}
use Rattle.layers.specs.Fixed.{fixed_listing}
use Rattle.futoshiki.specs.declared.sign.Sign.{Sign}
use Rattle.futoshiki.specs.Board.{up_to, variable_at}
use Rattle.futoshiki.specs.Listing.{board_variables, board_listing}
use Rattle.fillings.specs.Fillings.{Filling, held_value, Keeps, filling_assignment}
use Rattle.words.specs.declared.entry.Entry.{Entry}
use Rattle.puzzle.specs.Reading.{Puzzle, Tables}

-- the givens as literals to fix: the variable of each value
abbrev pub given_literals : ℕ → List Entry → Clause
given_literals N gs = map (λ g. pos (variable_at N g.cell g.value)) gs

-- the number of variables of a puzzle
abbrev pub puzzle_variables : Puzzle → ℕ
puzzle_variables P = board_variables P.size P.signs

-- the clauses of a puzzle: those of board and signs, with the givens fixed over them
unfoldable pub puzzle_listing : Puzzle → List Clause
puzzle_listing P = fixed_listing (board_listing P.size P.signs) (given_literals P.size P.givens)

-- a filling that keeps the rules and the givens
pub record Solves (P : Puzzle) (f : List ℕ) : Type 0 where
  pub fills : Filling P.size f
  pub keeps : Keeps P.size P.signs f
  pub given_kept : AllByRecursion (λ g. held_value f g.cell ≡ g.value) P.givens

-- the value that a cell's claim gives it
unfoldable pub claim_at : List Entry → ℕ → ℕ
claim_at [] i = 0
claim_at (e ∷ es) i = cond (e.cell == i) e.value (claim_at es i)

-- the filling that the claims give, cell by cell
unfoldable pub claimed_filling : ℕ → List Entry → List ℕ
claimed_filling N es = map (claim_at es) (up_to (N * N))

-- a truth value as a byte
abbrev pub byte_of : Bool → ℕ
byte_of b = cond b 1 0

-- the claim's bytes: the assignment of that filling
unfoldable pub claim_bytes : ℕ → List Entry → List ℕ
claim_bytes N es = map byte_of (filling_assignment N (claimed_filling N es))

-- the puzzle whose records three lists are
abbrev pub puzzle_from : ℕ → List Entry → List Entry → List Sign → Puzzle
puzzle_from N gs cs ss = record { size = N; givens = gs; claims = cs; signs = ss }

-- tables that are never full: 81 givens, 81 claims, 162 signs
abbrev pub ample_tables : Tables
ample_tables = record { for_givens = 81; for_claims = 81; for_signs = 162 }

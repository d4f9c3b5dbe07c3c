-- What is proved of a board and its listing.
use Rattle.std.specs.Prelude.{◌≡◌, ℕ, ◌+◌, ◌-◌, ◌*◌, ◌/◌, true, false, List, [], ◌∷◌, length, negsuc, Decides}
use Rattle.cnf.specs.Formula.{Clause, Assignment, value_of, Model, Lawful}
use Rattle.cnf.specs.Told.{clause_at}
use Rattle.futoshiki.specs.declared.sign.Sign.{Sign}
use Rattle.futoshiki.specs.Board.{InRange, variable_at}
use Rattle.futoshiki.specs.Rules.{rules_kept}
use Rattle.futoshiki.specs.Listing.{board_variables, board_listing}
use Rattle.fillings.specs.Fillings.{Filling, held_value, Keeps, filling_assignment}

-- the assignment of a filling gives every variable, and makes one true exactly when its cell holds its value
pub record Assigns (N : ℕ) (f : List ℕ) : Type 0 where
  pub whole : length (filling_assignment N f) ≡ N * N * N
  pub exactly : (i v : ℕ) → InRange (N * N) i → InRange N v → Decides (value_of (filling_assignment N f) (variable_at N i v)) (held_value f i ≡ v)

-- the models of a listing over n variables are the assignments of the fillings that keep the rules, one for one
pub record ModelsAreFillings (N : ℕ) (signs : List Sign) (n : ℕ) (cs : List Clause) : Type 0 where
  -- what the assignment of a filling is
  pub assigns : (f : List ℕ) → Filling N f → Assigns N f
  -- a filling that keeps the rules gives a model
  pub sound : (f : List ℕ) → Filling N f → Keeps N signs f → Model n cs (filling_assignment N f)
  -- each model comes from a filling that keeps them
  pub complete : (a : Assignment) → Model n cs a → (f : List ℕ) × Filling N f × Keeps N signs f × (filling_assignment N f ≡ a)
  -- from one filling only
  pub one_for_one : (f g : List ℕ) → Filling N f → Filling N g → filling_assignment N f ≡ filling_assignment N g → f ≡ g

-- how many clauses a Futoshiki of side N with m signs lists
abbrev pub clause_count : ℕ → ℕ → ℕ
clause_count N m = N * N + 3 * (N * N) * (N * (N - 1) / 2) + m * (N * (N + 1) / 2)

-- what holds of the listing of a board that keeps the rules
pub record BoardStands (N : ℕ) (signs : List Sign) : Type 0 where
  pub models : ModelsAreFillings N signs (board_variables N signs) (board_listing N signs)
  pub lawful : Lawful (board_variables N signs) (board_listing N signs)
  pub variables_count : board_variables N signs ≡ N * N * N
  pub clauses_count : length (board_listing N signs) ≡ clause_count N (length signs)

-- what holds of every board
pub record BoardTheorem (N : ℕ) (signs : List Sign) : Type 0 where
  pub kept : rules_kept N signs ≡ true → BoardStands N signs
  pub broken_variables : rules_kept N signs ≡ false → board_variables N signs ≡ 0
  pub broken_listing : rules_kept N signs ≡ false → board_listing N signs ≡ []

-- the sample board has side 2, and cell 1 holds less than cell 2
abbrev pub sample_signs : List Sign
sample_signs = record { lesser = 1; greater = 2 } ∷ []

-- its listing has 19 clauses, 16 without the sign, and clause 18 is (-2 -3); what the assignment of its filling is
pub record SampleBoard : Type 0 where
  pub keeps_rules : rules_kept 2 sample_signs ≡ true
  pub eight_variables : board_variables 2 sample_signs ≡ 8
  pub nineteen : length (board_listing 2 sample_signs) ≡ 19
  pub sixteen : length (board_listing 2 []) ≡ 16
  pub eighteenth : clause_at (board_listing 2 sample_signs) 18 ≡ negsuc 1 ∷ negsuc 2 ∷ []
  pub assigned : filling_assignment 2 (1 ∷ 2 ∷ 2 ∷ 1 ∷ []) ≡ true ∷ false ∷ false ∷ true ∷ false ∷ true ∷ true ∷ false ∷ []

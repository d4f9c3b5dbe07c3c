-- What is proved of lists of words and of accepted puzzles.
use Rattle.std.specs.Prelude.{◌≡◌, ℕ, ◌+◌, ◌*◌, ◌≤◌, ◌≢◌, ◌↔◌, List, length, Ok, Err}
use Rattle.cnf.specs.declared.fault.Fault.{Fault}
use Rattle.cnf.specs.declared.fault.Fault.TheVariants.{TableFull}
use Rattle.cnf.specs.Formula.{Assignment, Model, Lawful}
use Rattle.cnf.specs.Faults.{accepted}
use Rattle.cnf.specs.Checks.{form_answer, claim_answer, assignment_of}
use Rattle.futoshiki.specs.Board.{InRange}
use Rattle.fillings.specs.Theorems.{clause_count}
use Rattle.fillings.specs.Fillings.{Filling, held_value, filling_assignment}
use Rattle.puzzle.specs.Registers.{Any}
use Rattle.puzzle.specs.Reading.{Puzzle, Tables, read_list}
use Rattle.puzzle.specs.Accepted.{Accepted}
use Rattle.puzzle.specs.Refused.{Refused}
use Rattle.puzzle.specs.Meaning.{puzzle_variables, puzzle_listing, Solves, claimed_filling, claim_bytes}

-- which lists are taken and which are refused
pub record ListRead (t : Tables) (ws : List ℕ) : Type 0 where
  -- taken exactly when it is a board's word, the words of records and the end word, and the puzzle that they give is sound and has room
  pub taken_list : (P : Puzzle) → (read_list t ws ≡ Ok P) ↔ Accepted t ws P
  -- refused with a fault exactly when that is its first
  pub refused_list : (f : Fault) → (read_list t ws ≡ Err f) ↔ Refused t ws f
  -- tables for 81 givens, 81 claims and 162 signs are never full
  pub tables_suffice : 81 ≤ t.for_givens → 81 ≤ t.for_claims → 162 ≤ t.for_signs → (p : ℕ) → read_list t ws ≢ Err (TableFull p)

-- what is known of an accepted puzzle
pub record Stands (P : Puzzle) : Type 0 where
  -- the claims give a filling, each cell the value that its claim says
  pub filling : Filling P.size (claimed_filling P.size P.claims)
  pub claimed : (i v : ℕ) → InRange (P.size * P.size) i → (held_value (claimed_filling P.size P.claims) i ≡ v) ↔ Any (λ e. (e.cell ≡ i) × (e.value ≡ v)) P.claims
  -- no more givens than cells, and no more signs than two to a cell; so at most 128 literals are fixed
  pub few_givens : length P.givens ≤ P.size * P.size
  pub few_signs : length P.signs ≤ 2 * (P.size * P.size)
  -- the source has N × N × N variables and its clauses in number, is lawful, and the claim is in form and gives that filling's assignment
  pub variables_are : puzzle_variables P ≡ P.size * P.size * P.size
  pub clauses_are : length (puzzle_listing P) ≡ clause_count P.size (length P.signs) + length P.givens
  pub lawful : Lawful (puzzle_variables P) (puzzle_listing P)
  pub form : form_answer (puzzle_variables P) (claim_bytes P.size P.claims) ≡ accepted
  pub claim_is : assignment_of (claim_bytes P.size P.claims) ≡ filling_assignment P.size (claimed_filling P.size P.claims)
  -- its models are the assignments of the fillings that keep rules and givens, one for one
  pub model : (f : List ℕ) → Solves P f → Model (puzzle_variables P) (puzzle_listing P) (filling_assignment P.size f)
  pub solution : (a : Assignment) → Model (puzzle_variables P) (puzzle_listing P) a → (f : List ℕ) × Solves P f × (filling_assignment P.size f ≡ a)
  pub one_for_one : (f g : List ℕ) → Solves P f → Solves P g → filling_assignment P.size f ≡ filling_assignment P.size g → f ≡ g
  -- the claim is accepted exactly when the claimed filling keeps rules and givens
  pub claim_checked : (claim_answer (puzzle_variables P) (puzzle_listing P) (claim_bytes P.size P.claims) ≡ accepted) ↔ Solves P (claimed_filling P.size P.claims)

-- every taken list's puzzle is such
abbrev pub TakenStands : Tables → List ℕ → Type 0
TakenStands t ws = (P : Puzzle) → read_list t ws ≡ Ok P → Stands P

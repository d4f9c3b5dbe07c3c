-- A puzzle as a task: the source that a session stands on, and the claim.
use Rattle.std.specs.Prelude.{◌≡◌, ℕ, List, Ok, Err, vec_items, Result, MatchResult}
use Rattle.cnf.specs.declared.fault.Fault.{Fault}
use Rattle.cnf.specs.Formula.{Clause}
use Rattle.cnf.specs.Tabled.{numbers_of}
use Rattle.layers.specs.declared.fix.Fix.{Fix}
use Rattle.layers.specs.Fixed.{fixed_listing, source_below, fixed_literals}
use Rattle.futoshiki.specs.declared.source.Futoshiki.{Futoshiki}
use Rattle.futoshiki.specs.Meaning.{source_variables, source_listing}
use Rattle.puzzle.specs.declared.taken.Records.{Records}
use Rattle.puzzle.specs.declared.task.Task.{Task}
use Rattle.puzzle.specs.Reading.{Puzzle, Verdict}
use Rattle.puzzle.specs.Meaning.{puzzle_variables, puzzle_listing, claim_bytes, puzzle_from}

-- the puzzle whose records lie in tables
abbrev pub puzzle_in : Records → Puzzle
puzzle_in r = puzzle_from r.side r.givens.now r.claims.now r.signs.now

-- the number of variables that a board with fixed literals tells
abbrev pub fixed_variables : Fix Futoshiki → ℕ
fixed_variables s = source_variables (source_below s)

-- the clauses that it lists: those of the board, then each literal as a clause
abbrev pub fixed_clauses : Fix Futoshiki → List Clause
fixed_clauses s = fixed_listing (source_listing (source_below s)) (numbers_of (fixed_literals s))

-- a task poses a puzzle: its source has the puzzle's variables and clauses, and its claim is the assignment of the claimed filling
pub record Poses (P : Puzzle) (q : Task) : Type 0 where
  pub variables_posed : fixed_variables q.source ≡ puzzle_variables P
  pub clauses_posed : fixed_clauses q.source ≡ puzzle_listing P
  pub claim_posed : vec_items q.claim ≡ claim_bytes P.size P.claims

-- what is made of the answer to a list: a task that poses the puzzle of a taken one, or the fault of a refused one
abbrev pub Posed : Verdict → Result Task Fault → Type 0
Posed v r = MatchResult r (λ q. (P : Puzzle) × (v ≡ Ok P) × Poses P q) (λ f. v ≡ Err f)

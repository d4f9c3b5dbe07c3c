-- What the report says, in the puzzle's words.
use Rattle.std.specs.Prelude.{◌≡◌, ℕ, ◌+◌, ◌*◌, ◌<◌, ◌≤◌, ◌⊎◌, ◌↔◌, List, length}
use Rattle.cnf.specs.declared.fault.Fault.{Fault}
use Rattle.cnf.specs.declared.fault.Fault.TheVariants.{ClaimFalse, TooManyBytes}
use Rattle.fillings.specs.Theorems.{clause_count}
use Rattle.words.specs.Bytes.{words_in}
use Rattle.puzzle.specs.Reading.{Puzzle}
use Rattle.puzzle.specs.Accepted.{Accepted}
use Rattle.puzzle.specs.Refused.{Refused}
use Rattle.puzzle.specs.Meaning.{Solves, claimed_filling, ample_tables}
use Rattle.report.specs.declared.verdict.Report.TheVariants.{Source, Refusal}
use Rattle.report.specs.Reported.{reported}

-- a file holds an accepted puzzle whose claimed filling keeps rules and givens; n and m are its numbers of variables and clauses, fixed givens included
pub record ClaimKept (file_bytes : List ℕ) (n m : ℕ) : Type 0 where
  pub short : length file_bytes ≤ 65536
  pub posed : Puzzle
  pub accepted_list : Accepted ample_tables (words_in file_bytes) posed
  pub solved : Solves posed (claimed_filling posed.size posed.claims)
  pub variables_are : n ≡ posed.size * posed.size * posed.size
  pub clauses_are : m ≡ clause_count posed.size (length posed.signs) + length posed.givens

pub record ReportMeans (file_bytes : List ℕ) : Type 0 where
  -- the source's numbers are reported exactly when the claimed filling keeps rules and givens
  pub stands : (n m : ℕ) → (reported file_bytes ≡ Source n m) ↔ ClaimKept file_bytes n m
  -- a refusal is that of the file's size, of its words, or of a clause that the claim makes false: no other comes
  pub causes : (f : Fault) → reported file_bytes ≡ Refusal f → ((65536 < length file_bytes) × (f ≡ TooManyBytes)) ⊎ (Refused ample_tables (words_in file_bytes) f ⊎ ((k : ℕ) × (f ≡ ClaimFalse k)))

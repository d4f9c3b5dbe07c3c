-- The report on a puzzle file's bytes.
use Rattle.std.specs.Prelude.{ℕ, cond, List, length, Ok, Err, nat_le}
use Rattle.cnf.specs.declared.fault.Fault.TheVariants.{TooManyBytes}
use Rattle.cnf.specs.Formula.{Clause}
use Rattle.cnf.specs.Told.{told_variables, told_clauses}
use Rattle.cnf.specs.Faults.{Answer}
use Rattle.cnf.specs.Checks.{claim_answer}
use Rattle.words.specs.Bytes.{words_in}
use Rattle.puzzle.specs.Reading.{Verdict, read_list}
use Rattle.puzzle.specs.Meaning.{puzzle_variables, puzzle_listing, claim_bytes, ample_tables}
use Rattle.report.specs.declared.verdict.Report.{Report}
use Rattle.report.specs.declared.verdict.Report.TheVariants.{Source, Refusal}

-- the numbers of a source, or why its claim is refused
abbrev pub claim_report : ℕ → List Clause → Answer → Report
claim_report n cs (Ok x) = Source (told_variables n) (told_clauses cs)
claim_report n cs (Err f) = Refusal f

-- the report on an answer to a list of words: the claim of a taken one is checked
abbrev pub list_report : Verdict → Report
list_report (Ok P) = claim_report (puzzle_variables P) (puzzle_listing P) (claim_answer (puzzle_variables P) (puzzle_listing P) (claim_bytes P.size P.claims))
list_report (Err f) = Refusal f

-- the report on a file of at most 65,536 bytes is that on its words
abbrev pub reported : List ℕ → Report
reported file_bytes = cond (nat_le (length file_bytes) 65536) (list_report (read_list ample_tables (words_in file_bytes))) (Refusal TooManyBytes)

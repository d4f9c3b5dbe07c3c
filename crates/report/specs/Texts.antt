-- The report as it is printed, in decimal numbers.
use Rattle.std.specs.Prelude.{ℕ, List, ◌++◌, codes, decimal}
use Rattle.cnf.specs.Faults.{fault_text}
use Rattle.report.specs.declared.verdict.Report.{Report}
use Rattle.report.specs.declared.verdict.Report.TheVariants.{Source, Refusal}

-- a word and numbers after it, each after a blank; for a refusal, its fault as it is printed
abbrev pub report_text : Report → List ℕ
report_text (Source n m) = codes "source " ++ (decimal n ++ (codes " " ++ decimal m))
report_text (Refusal f) = fault_text f

use Rattle.std.proofs.Common.{◌≡◌, Ok, Err, ◌∙◌, rules}
use Rattle.std.proofs.lemmas.Result.{MatchResult-at_ok, MatchResult-at_err}
use Rattle.cnf.specs.declared.fault.Fault.{Fault}
use Rattle.puzzle.specs.declared.task.Task.{Task}
use Rattle.puzzle.specs.Reading.{Puzzle, read_list}
use Rattle.puzzle.specs.Meaning.{ample_tables}
use Rattle.puzzle.specs.Poses.{Poses}
use Rattle.report.proofs.Telling.{report_means, short_report, posed_report}
use Rattle.report.proofs.judging.judge.Goals as goal

pub returns-in_err-words : goal.returns-in_err-words
returns-in_err-words c = record { answer = search rules; means = report_means c.args.bytes.now }

pub returns-in_err-task : goal.returns-in_err-task
returns-in_err-task c = record { answer = search rules; means = report_means c.args.bytes.now }

pub returns-then-bytes-gt-LIMIT : goal.returns-then-bytes-gt-LIMIT
returns-then-bytes-gt-LIMIT c = record { answer = search rules; means = report_means c.args.bytes.now }

pub returns-in-Ok : goal.returns-in-Ok
returns-in-Ok c =
    let ws = c.as_slice.result.now in
    let v = read_list ample_tables ws in
    let posed = MatchResult-at_ok (λ (q : Task). (P : Puzzle) × (v ≡ Ok P) × Poses P q) (λ (f : Fault). v ≡ Err f) c.in-Ok.task c.in-Ok.is c.in_ok-task.ensures.answer in
    let same = c.as_slice.ensures.value ∙ c.in_ok-words.ensures.answer in
    record {
      answer = c.judge_task.ensures ∙ posed_report posed.0 c.in-Ok.task posed.2 ∙ short_report c.args.bytes.now ws (Ok posed.0) c.if-bytes-gt-LIMIT.false same posed.1;
      means = report_means c.args.bytes.now;
    }

pub returns : goal.returns
returns c =
    let ws = c.as_slice.result.now in
    let v = read_list ample_tables ws in
    let fault = MatchResult-at_err (λ (q : Task). (P : Puzzle) × (v ≡ Ok P) × Poses P q) (λ (f : Fault). v ≡ Err f) c.in-Err.fault c.in-Err.is c.in_ok-task.ensures.answer in
    let same = c.as_slice.ensures.value ∙ c.in_ok-words.ensures.answer in
    record { answer = short_report c.args.bytes.now ws (Err c.in-Err.fault) c.if-bytes-gt-LIMIT.false same fault; means = report_means c.args.bytes.now }

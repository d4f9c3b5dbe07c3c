use Rattle.std.proofs.Common.{ap, ◌∙◌}
use Rattle.cnf.specs.Faults.{Answer}
use Rattle.cnf.specs.Checks.{claim_answer}
use Rattle.puzzle.specs.Poses.{fixed_variables, fixed_clauses}
use Rattle.report.specs.Reported.{claim_report}
use Rattle.report.proofs.judging.judge_task.Goals as goal

pub returns-in-Err : goal.returns-in-Err
returns-in-Err c =
    let s = c.args.task.now.source in
    let n = fixed_variables s in
    let cs = fixed_clauses s in
    ap (λ (a : Answer). claim_report n cs a) (c.in-Err.ensures.answer ∙ ap (claim_answer n cs) c.as_slice.ensures.value)

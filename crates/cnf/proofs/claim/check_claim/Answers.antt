use Rattle.std.proofs.Common.{Err, ap, ◌∙◌}
use Rattle.std.proofs.lemmas.Result.{err_from_is_err_and}
use Rattle.cnf.proofs.Claims.{claim_tells, refused_form, clauses_last}
use Rattle.cnf.proofs.claim.check_claim.Goals as goal

pub returns-in_err-check_form : goal.returns-in_err-check_form
returns-in_err-check_form g c =
    let n = g.S.Source.vars c.args.source.now in
    let cs = g.S.Source.listing c.args.source.now in
    let bs = c.args.claim.now in
    let r = c.from_residual-in_err-check_form.result in
    let p = err_from_is_err_and r c.from_residual-in_err-check_form.ensures.1 in
    let e = p.1 ∙ ap Err p.2 ∙ refused_form n cs bs c.in_ok-check_lawful.ensures.answer _ c.in_err-check_form.ensures.answer in
    record { answer = e; stands = claim_tells n cs bs r e }

pub returns : goal.returns
returns g c =
    let n = g.S.Source.vars c.args.source.now in
    let cs = g.S.Source.listing c.args.source.now in
    let bs = c.args.claim.now in
    let r = c.check_model.result in
    let e = clauses_last n cs bs c.in_ok-check_lawful.ensures.answer c.in_ok-check_form.ensures.answer r c.check_model.ensures.answer in
    record { answer = e; stands = claim_tells n cs bs r e }

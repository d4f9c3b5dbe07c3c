use Rattle.std.proofs.Common.{◌≡◌, ◌<◌, ◌≤◌, Err, sym, arith, rules, tests}
use Rattle.std.proofs.lemmas.Iterator.{IsFirst-from_position, YieldsList-from_slice}
use Rattle.std.proofs.lemmas.Option.{MatchOption-at_some, MatchOption-at_none}
use Rattle.cnf.specs.declared.fault.Fault.TheVariants.{ClaimForm}
use Rattle.cnf.specs.Faults.{Answer}
use Rattle.cnf.specs.Checks.{form_answer}
use Rattle.cnf.proofs.Forms.{form_fits, form_stops, form_tells}
use Rattle.cnf.proofs.form.check_form.Goals as goal

pub returns-then-n-gt1024 : goal.returns-then-n-gt1024
returns-then-n-gt1024 g c =
    let n = g.S.Source.vars c.args.source.now in
    let bs = c.args.claim.now in
    let e : ◌≡◌ {A = Answer} (Err (ClaimForm 0)) (form_answer n bs) = search rules in
    record { answer = e; first = form_tells n bs _ e }

pub returns-in-Some : goal.returns-in-Some
returns-in-Some g c =
    let n = g.S.Source.vars c.args.source.now in
    let bs = c.args.claim.now in
    let first = MatchOption-at_some _ _ _ c.in-Some.is (IsFirst-from_position _ _ _ (λ b. 1 < b) (λ b. b ≤ 1) c.position.ensures.ran (YieldsList-from_slice _ c.iter.ensures.rest) (λ x q k. search (rules, tests)) (λ x q k. search (rules, tests))) in
    let e = sym (form_stops n bs (omega arith) (omega arith) _ first) in
    record { answer = e; first = form_tells n bs _ e }

pub returns : goal.returns
returns g c =
    let n = g.S.Source.vars c.args.source.now in
    let bs = c.args.claim.now in
    let first = MatchOption-at_none _ _ c.in_default.is (IsFirst-from_position _ _ _ (λ b. 1 < b) (λ b. b ≤ 1) c.position.ensures.ran (YieldsList-from_slice _ c.iter.ensures.rest) (λ x q k. search (rules, tests)) (λ x q k. search (rules, tests))) in
    let e = sym (form_fits n bs (omega arith) (omega arith) first) in
    record { answer = e; first = form_tells n bs _ e }

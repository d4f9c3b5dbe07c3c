use Rattle.std.proofs.Common.{◌≡◌, ◌-◌, eqb, get_or, sym, ◌∙◌, rules}
use Rattle.cnf.proofs.Truths.{value_at}
use Rattle.cnf.proofs.model.value.Goals as goal

pub returns-then-v-gt0 : goal.returns-then-v-gt0
returns-then-v-gt0 c =
    let e : c.is_some_and.result ≡ eqb (get_or c.args.claim.now (c.args.v - 1) 0) 1 = search rules in
    e ∙ sym (value_at c.args.claim.now c.args.v c.if-v-gt0.true)

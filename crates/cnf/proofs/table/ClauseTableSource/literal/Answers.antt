use Rattle.std.proofs.Common.{◌≡◌, ◌-◌, get_or, sym, ap, ◌∙◌, arith, rules}
use Rattle.cnf.specs.declared.literal.Literal.{Literal}
use Rattle.cnf.specs.Told.{literal_at}
use Rattle.cnf.specs.Tabled.{no_literal}
use Rattle.cnf.proofs.Cuts.{literal_number}
use Rattle.cnf.proofs.table.ClauseTableSource.literal.Goals as goal

pub returns : goal.returns
returns c =
    let j = c.args.j in
    let ls = c.clause.result.now in
    let e : c.unwrap_or.result ≡ get_or ls (j - 1) no_literal = search rules in
    ap (λ (l : Literal). l.0) e ∙ sym (literal_number ls j (omega arith) (omega arith)) ∙ ap (literal_at j) c.clause.ensures

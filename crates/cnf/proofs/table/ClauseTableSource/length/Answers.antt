use Rattle.std.proofs.Common.{ap, rules}
use Rattle.cnf.specs.Told.{capped_length}
use Rattle.cnf.specs.Tabled.{length_numbers}
use Rattle.cnf.proofs.table.ClauseTableSource.length.Goals as goal

pub returns : goal.returns
returns c =
    let m = length_numbers c.clause.result.now in
    let e = ap capped_length c.clause.ensures in
    search rules

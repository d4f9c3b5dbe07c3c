use Rattle.std.proofs.Common.{rules}
use Rattle.cnf.specs.Tabled.{numbers_of}
use Rattle.cnf.proofs.Cuts.{length_tabled}
use Rattle.cnf.proofs.table.ClauseTableSource.clauses.Goals as goal

pub returns : goal.returns
returns c =
    let e = length_tabled (numbers_of c.args.self.now.literals.now) c.args.self.now.starts.now in
    search rules

use Rattle.store.proofs.Lawful.{table_laws}
use Rattle.store.specs.Canon.{same_tables}
use Rattle.store.proofs.laws.table_laws.Goals as goal

pub returns : goal.returns
returns c = record { laws = table_laws; same = same_tables 0 0 }

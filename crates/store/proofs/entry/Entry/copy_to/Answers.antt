use Rattle.std.proofs.Common.{arith}
use Rattle.store.specs.Copies.{copied}
use Rattle.store.proofs.entry.Entry.copy_to.Goals as goal

pub returns : goal.returns
returns c = copied c.min-n.result c.args.self.now.literals.items c.args.into.now c.copy_from_slice.new.self (omega arith) (cc)

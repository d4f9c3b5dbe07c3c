use Rattle.register.proofs.Blanks.{laid}
use Rattle.register.proofs.register.Register.len.Goals as goal

pub returns-clause-table : goal.returns-clause-table
returns-clause-table g c = let s = c.args.self.now in laid s.blank s.slots.now s.used s.fits s.rest

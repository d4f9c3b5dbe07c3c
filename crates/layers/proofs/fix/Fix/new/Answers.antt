use Rattle.layers.proofs.Fixing.{fix_means}
use Rattle.layers.proofs.fix.Fix.new.Goals as goal

pub returns-in-Ok-clause-models : goal.returns-in-Ok-clause-models
returns-in-Ok-clause-models g c = fix_means _ _ _

pub returns-in-Err-clause-models : goal.returns-in-Err-clause-models
returns-in-Err-clause-models g c = fix_means _ _ _

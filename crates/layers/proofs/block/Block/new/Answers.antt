use Rattle.layers.proofs.Blocking.{block_means}
use Rattle.layers.proofs.block.Block.new.Goals as goal

pub returns-in-Ok-clause-models : goal.returns-in-Ok-clause-models
returns-in-Ok-clause-models g c = block_means _ _ _

pub returns-in-Err-clause-models : goal.returns-in-Err-clause-models
returns-in-Err-clause-models g c = block_means _ _ _

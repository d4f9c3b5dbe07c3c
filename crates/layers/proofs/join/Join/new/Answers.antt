use Rattle.std.proofs.Common.{refl}
use Rattle.layers.proofs.Joining.{join_means}
use Rattle.layers.proofs.join.Join.new.Goals as goal

pub returns : goal.returns
returns g c = record { parts = (refl, refl); models = join_means _ _ _ _ }

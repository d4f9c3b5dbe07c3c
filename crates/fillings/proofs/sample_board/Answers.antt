use Rattle.std.proofs.Common.{refl}
use Rattle.futoshiki.specs.Board.{sharing_side}
use Rattle.fillings.proofs.sample_board.Goals as goal

pub returns-clause-sample : goal.returns-clause-sample
unfolding sharing_side
returns-clause-sample c = record { keeps_rules = refl; eight_variables = refl; nineteen = refl; sixteen = refl; eighteenth = refl; assigned = refl }

use Rattle.std.proofs.Common.{rules}
use Rattle.futoshiki.specs.Board.{sharing_side}
use Rattle.futoshiki.proofs.rules.share_side.Goals as goal

pub returns-then-beside : goal.returns-then-beside
unfolding sharing_side
returns-then-beside c = search rules

pub returns-else-beside : goal.returns-else-beside
unfolding sharing_side
returns-else-beside c = search rules

use Rattle.fillings.proofs.Standing.{board_theorem}
use Rattle.fillings.proofs.board.Goals as goal

pub returns-clause-theorem : goal.returns-clause-theorem
returns-clause-theorem c = board_theorem c.args.side c.args.signs.now

use Rattle.futoshiki.proofs.Kept.{rules_from}
use Rattle.futoshiki.proofs.source.Futoshiki.new.Goals as goal

pub five_groups-requires-clause-kept : goal.five_groups-requires-clause-kept
five_groups-requires-clause-kept c = rw c.in-Some.ensures.0 (rules_from c.args.side c.args.signs.now c.in-Some.ensures.1)

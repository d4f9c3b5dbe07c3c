use Rattle.std.proofs.Common.{rules}
use Rattle.std.proofs.lemmas.Bool.Decides.{Decides-at}
use Rattle.futoshiki.specs.Rules.{rules_kept}
use Rattle.futoshiki.proofs.Kept.{rules_told}
use Rattle.futoshiki.proofs.rules.rules_kept.Goals as goal

pub returns-clause-words : goal.returns-clause-words
returns-clause-words c =
    Decides-at c.is_some.result (rules_kept c.args.side c.args.signs.now) (search rules) (rules_told c.args.side c.args.signs.now)

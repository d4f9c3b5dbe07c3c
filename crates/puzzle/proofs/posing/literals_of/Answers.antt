use Rattle.std.proofs.Common.{pos, rules}
use Rattle.std.proofs.lemmas.Iterator.{YieldsList-from_slice, YieldsList-from_map_by}
use Rattle.std.proofs.lemmas.Iterator.Consumers.{map_from_collect}
use Rattle.cnf.specs.declared.literal.Literal.{Literal}
use Rattle.futoshiki.specs.Board.{variable_at}
use Rattle.words.specs.declared.entry.Entry.{Entry}
use Rattle.puzzle.proofs.posing.literals_of.Goals as goal

pub returns : goal.returns
returns c =
    map_from_collect _ c.collect.ensures.ran (
    YieldsList-from_map_by _ (λ (l : Literal). l.0) (λ (g : Entry). pos (variable_at c.args.side.n g.cell g.value)) (YieldsList-from_slice c.args.givens.now cc) c.map.ensures.closure (λ x r q k. search rules)
    )

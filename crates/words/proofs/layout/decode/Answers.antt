use Rattle.std.proofs.Common.{sym, ◌∙◌}
use Rattle.words.proofs.Layouting.{layouts}
use Rattle.words.proofs.ByKind.{unknown_kind}
use Rattle.words.proofs.layout.decode.Goals as goal

pub returns-in_err-ok-clause-answer : goal.returns-in_err-ok-clause-answer
returns-in_err-ok-clause-answer c =
    let w = c.args.word in
    c.from_residual.ensures ∙ sym (unknown_kind w c.try_from.result c.try_from.ensures (sym c.ok.ensures.value ∙ c.in_err-ok.was))

pub returns-in_err-ok-clause-layout : goal.returns-in_err-ok-clause-layout
returns-in_err-ok-clause-layout c = layouts c.args.word

pub returns-in-Board-clause-layout : goal.returns-in-Board-clause-layout
returns-in-Board-clause-layout c = layouts c.args.word

pub returns-in-Given-clause-layout : goal.returns-in-Given-clause-layout
returns-in-Given-clause-layout c = layouts c.args.word

pub returns-in-Less-clause-layout : goal.returns-in-Less-clause-layout
returns-in-Less-clause-layout c = layouts c.args.word

pub returns-in-Claim-clause-layout : goal.returns-in-Claim-clause-layout
returns-in-Claim-clause-layout c = layouts c.args.word

pub returns-in-End-clause-layout : goal.returns-in-End-clause-layout
returns-in-End-clause-layout c = layouts c.args.word

use Rattle.std.proofs.Common.{◌≡◌, eqb, Bor, MatchOption, ap, ◌∙◌, rules}
use Rattle.std.proofs.lemmas.Iterator.{YieldsList-from_slice}
use Rattle.std.proofs.lemmas.Iterator.Search.{find_from_yields_List}
use Rattle.words.specs.declared.entry.Entry.{Entry}
use Rattle.puzzle.proofs.Bytewise.{value_in, claim_found, value_found}
use Rattle.puzzle.proofs.claim.claimed_value.Goals as goal
use borrow.Author.Tests.{tests}

pub returns : goal.returns
returns c =
    let es = c.args.claims.now in
    let found = find_from_yields_List (λ (e : Entry). eqb e.cell c.args.cell) _ _ c.find.result c.find.ensures.ran (YieldsList-from_slice es cc) (λ x b q k. search (rules, tests)) in
    let held : MatchOption c.find.result (c.map_or.result ≡ 0) (λ (r : Bor Entry). c.map_or.result ≡ r.now.value) = search rules in
    value_found c.find.result c.map_or.result held ∙ ap value_in found ∙ claim_found es c.args.cell

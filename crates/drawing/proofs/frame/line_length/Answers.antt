use Rattle.std.proofs.Common.{◌≡◌, not, eqb, get_or, length, take, min, unwrap_or, ap, ◌∙◌, arith, rules, tests}
use Rattle.std.specs.List.{position_or_len}
use Rattle.std.proofs.lemmas.List.{take_min}
use Rattle.std.proofs.lemmas.Iterator.{YieldsList-from_slice}
use Rattle.std.proofs.lemmas.Iterator.Search.{position_from_yields_List}
use Rattle.drawing.specs.Drawn.{first_line}
use Rattle.drawing.proofs.Failing.{place_or_length, first_placed, first_most}
use Rattle.drawing.proofs.frame.line_length.Goals as goal

pub returns : goal.returns
unfolding first_line
returns c =
    let bytes = c.args.text.now in
    let start = take c.min.result bytes in
    let found = position_from_yields_List (λ b. eqb b 10) _ _ _ c.position.ensures.ran (YieldsList-from_slice start cc) (λ x b q k. search (rules, tests)) in
    let most : c.min.result ≡ min 38 (length bytes) = search rules in
    let place = c.unwrap_or.ensures ∙ ap (λ o. unwrap_or o (length start)) found ∙ place_or_length (λ b. eqb b 10) start
    ∙ ap (λ n. position_or_len (λ b. eqb b 10) (take n bytes)) most ∙ ap (position_or_len (λ b. eqb b 10)) (take_min 38 bytes) ∙ first_placed 10 bytes 38 in
    record { is = place; most = omega (arith, first_most (λ k. not (eqb (get_or bytes k 10) 10)) 38) }

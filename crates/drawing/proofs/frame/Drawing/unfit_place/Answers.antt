use Rattle.std.proofs.Common.{◌≡◌, ◌+◌, ◌*◌, true, false, ap, subst, ◌∙◌, arith, rules, tests}
use Rattle.std.proofs.lemmas.Iterator.{first_from_Range}
use Rattle.std.proofs.lemmas.Nat.{mul-le}
use Rattle.drawing.specs.Drawn.{line_width}
use Rattle.drawing.proofs.Lines.{fits_here, Told, line_passes, line_within, line_stops, all_lines}
use Rattle.drawing.proofs.frame.Drawing.unfit_place.Goals as goal

pub loop-line-preserved : goal.loop-line-preserved
loop-line-preserved c =
    let N = c.args.self.now.grid.side in
    let bytes = c.args.self.now.text.now in
    let l = c.loop-line.line-counter in
    let W = c.width-width.result in
    let found = first_from_Range _ _ _ _ (λ k. fits_here N bytes l (l * W) k ≡ false) (λ k. fits_here N bytes l (l * W) k ≡ true) c.find-unfit.ensures.ran (λ x q k. search (rules, tests)) (λ x q k. search (rules, tests)) in
    line_passes N bytes l (l * W) (l * W + W) (ap (λ w. l * w) c.width-width.ensures) (ap (λ w. l * W + w) c.width-width.ensures) c.loop-line.invariant
    (subst (Told N bytes l (l * W) (l * W + W)) c.in_default.is found)

pub returns-in-Some : goal.returns-in-Some
returns-in-Some c =
    let N = c.args.self.now.grid.side in
    let bytes = c.args.self.now.text.now in
    let l = c.loop-line.line-counter in
    let W = c.width-width.result in
    let found = first_from_Range _ _ _ _ (λ k. fits_here N bytes l (l * W) k ≡ false) (λ k. fits_here N bytes l (l * W) k ≡ true) c.find-unfit.ensures.ran (λ x q k. search (rules, tests)) (λ x q k. search (rules, tests)) in
    let at = subst (Told N bytes l (l * W) (l * W + W)) c.in-Some.is found in
    let starts = ap (λ w. l * w) c.width-width.ensures in
    let ends = ap (λ w. l * W + w) c.width-width.ensures in
    let within = line_within N bytes l (l * W) (l * W + W) starts ends c.loop-line.invariant c.in-Some.k at.0 at.1 c.loop-line-test.true in
    let most = mul-le (2 * N + 1) (line_width N) 19 38 (omega (arith, c.args.self.now.grid.most)) (omega (arith, c.args.self.now.grid.most)) in
    record {
      is = line_stops N bytes l (l * W) (l * W + W) starts ends c.loop-line.invariant c.in-Some.k at.0 at.1 c.loop-line-test.true at.2 at.3;
      most = omega (arith, within, most);
    }

pub returns-clause-is : goal.returns-clause-is
returns-clause-is c = c.places.ensures.is ∙ all_lines c.args.self.now.grid.side c.args.self.now.text.now c.loop-line.line-counter (omega (arith, c.loop-line.auto.line-counter-end, c.loop-line-test.false)) c.loop-line.invariant

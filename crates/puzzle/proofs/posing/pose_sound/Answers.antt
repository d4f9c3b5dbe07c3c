use Rattle.std.proofs.Common.{◌≡◌, ◌≤◌, List, Result, Ok, Err, MatchResult, IsOk, length, ℤ, pos, sym, ap, ◌∙◌, arith, rules}
use Rattle.std.proofs.lemmas.Nat.{mul-le}
use Rattle.std.proofs.lemmas.List.{length-map}
use Rattle.cnf.specs.declared.literal.Literal.{Literal}
use Rattle.cnf.specs.Formula.{Clause}
use Rattle.cnf.specs.Tabled.{numbers_of}
use Rattle.layers.specs.declared.fix.Fix.{Fix}
use Rattle.layers.specs.declared.unmade.Unmade.{Unmade}
use Rattle.layers.specs.Fixed.{fixed_listing, Fixed, NotFixed}
use Rattle.futoshiki.specs.declared.source.Futoshiki.{Futoshiki}
use Rattle.futoshiki.specs.Board.{variable_at}
use Rattle.futoshiki.specs.Meaning.{source_variables, source_listing}
use Rattle.words.specs.declared.entry.Entry.{Entry}
use Rattle.puzzle.specs.Meaning.{given_literals, puzzle_listing, claim_bytes}
use Rattle.puzzle.specs.Poses.{puzzle_in}
use Rattle.puzzle.proofs.Solving.{stands}
use Rattle.puzzle.proofs.posing.pose_sound.Goals as goal

-- few literals are fixed, not refused
made : {S : Type 0} (source : S) (ls : List Literal) (r : Result (Fix S) (Unmade S)) → length ls ≤ 128 → MatchResult r (Fixed source ls) (NotFixed source ls) → IsOk r
made source ls (Ok f) h k = search rules
made source ls (Err u) h k = absurd (omega (arith, k.too_many))

pub unwrap-source-requires : goal.unwrap-source-requires
unwrap-source-requires c =
    let N = c.args.puzzle.side in
    let gs = c.args.puzzle.givens.now in
    let ls = c.as_slice.result.now in
    let number : Entry → ℤ = λ e. pos (variable_at c.unwrap-side.result.n e.cell e.value) in
    let same = ap (λ (xs : List Literal). numbers_of xs) c.as_slice.ensures.value ∙ c.in_ok-literals.ensures in
    let many = sym (length-map ls (λ (l : Literal). l.0)) ∙ ap length same ∙ length-map gs number in
    let high = c.requires.high in
    let few : length gs ≤ 81 = omega (arith, (stands (puzzle_in c.args.puzzle) c.requires).few_givens, mul-le N N 9 9 high high) in
    made c.in_ok-rules.rules ls c.new-2.result (omega arith) c.new-2.ensures.answer

pub returns : goal.returns
unfolding puzzle_listing
returns c =
    let gs = c.args.puzzle.givens.now in
    let side : c.unwrap-side.result.n ≡ c.args.puzzle.side = search (rules, c.unwrap-side.ensures, c.new.ensures) in
    let fixed : Fixed c.in_ok-rules.rules c.as_slice.result.now c.unwrap-source.result = search (rules, c.unwrap-source.ensures, c.new-2.ensures.answer) in
    let told = c.in_ok-rules.ensures.tells in
    let ls = ap (λ (xs : List Literal). numbers_of xs) (fixed.in_order ∙ c.as_slice.ensures.value) ∙ c.in_ok-literals.ensures ∙ ap (λ N. given_literals N gs) side in
    record {
      variables_posed = ap (λ (s : Futoshiki). source_variables s) fixed.over ∙ told.variables_told;
      clauses_posed = (λ i. fixed_listing (source_listing (fixed.over i)) (ls i)) ∙ ap (λ (cs : List Clause). fixed_listing cs (given_literals c.args.puzzle.side gs)) told.listing_told;
      claim_posed = c.in_ok-claim.ensures ∙ ap (λ N. claim_bytes N c.args.puzzle.claims.now) side;
    }

use Rattle.std.proofs.Common.{◌≡◌, ◌-◌, eqb, ◌++◌, map, vec_items, ap, ◌∙◌, arith, rules, tests}
use Rattle.futoshiki.specs.Board.{up_to}
use Rattle.puzzle.specs.Meaning.{byte_of}
use Rattle.puzzle.proofs.Bytewise.{value_more}
use Rattle.puzzle.proofs.claim.push_cell.Goals as goal

pub loop-v-preserved : goal.loop-v-preserved
loop-v-preserved c =
    let bit : c.from-in-loop-v.result ≡ byte_of (eqb c.args.value c.loop-v.v) = search (rules, tests) in
    (omega arith, c.in_ok-push.ensures.items ∙ value_more (vec_items c.args.bytes.now) _ c.args.value c.loop-v.v _ _ (omega arith) (omega arith) c.loop-v.invariant.1 bit)

pub returns : goal.returns
returns c =
    let all : c.loop-v.v - 1 ≡ c.args.side.n = omega arith in
    c.loop-v.invariant.1 ∙ ap (λ k. vec_items c.args.bytes.now ++ map byte_of (map (eqb c.args.value) (up_to k))) all

pub returns-in_ok-push : goal.returns-in_ok-push
returns-in_ok-push c =
    let bit : c.from-in-loop-v.result ≡ byte_of (eqb c.args.value c.loop-v.v) = search (rules, tests) in
    c.in_ok-push.ensures.items ∙ value_more (vec_items c.args.bytes.now) _ c.args.value c.loop-v.v _ _ (omega arith) (omega arith) c.loop-v.invariant.1 bit

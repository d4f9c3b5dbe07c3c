use Rattle.std.proofs.Common.{◌≡◌, ℕ, ◌-◌, ◌*◌, map, Vec, Global, vec_items, ap, ◌∙◌, arith}
use Rattle.futoshiki.specs.Board.{up_to}
use Rattle.fillings.specs.Fillings.{filling_assignment}
use Rattle.puzzle.specs.Meaning.{claim_at, byte_of, claim_bytes, claimed_filling}
use Rattle.puzzle.proofs.Bytewise.{cell_more}
use Rattle.puzzle.proofs.claim.claim_of.Goals as goal
use Rattle.puzzle.proofs.claim.claim_of.Goals.{else-loop-cell-test, then-loop-cell-test+in_ok-push_cell+else-cell-cell-end}

pub loop-cell-preserved : goal.loop-cell-preserved
loop-cell-preserved c =
    (omega arith, c.in_ok-push_cell.ensures ∙ cell_more c.args.side.n (claim_at c.args.claims.now) _ _ c.loop-cell.cell _ (omega arith) (omega arith) c.loop-cell.invariant.1 c.claimed_value.ensures)

pub returns : goal.returns
unfolding claim_bytes claimed_filling
returns c =
    let N = c.args.side.n in
    elim c.loop-cell-test.branch [
      | else-loop-cell-test w ↦ let all : c.loop-cell.cell - 1 ≡ N * N = omega arith in
          ap (λ (v : Vec ℕ Global). vec_items v) w.bytes-is ∙ c.loop-cell.invariant.1 ∙ ap (λ k. map byte_of (filling_assignment N (map (claim_at c.args.claims.now) (up_to k)))) all
      | then-loop-cell-test+in_ok-push_cell+else-cell-cell-end w ↦ ap (λ (v : Vec ℕ Global). vec_items v) w.bytes-is ∙ w.in_ok-push_cell.ensures ∙ cell_more N (claim_at c.args.claims.now) _ _ c.loop-cell.cell (N * N) (omega arith) (omega arith) c.loop-cell.invariant.1 w.claimed_value.ensures
    ]

use Rattle.std.proofs.Common.{◌≡◌, ℕ, ◌+◌, ◌-◌, ◌*◌, List, ap, arith}
use Rattle.std.specs.List.{flat_map}
use Rattle.std.proofs.lemmas.Nat.{mul-le}
use Rattle.cnf.specs.Formula.{Clause}
use Rattle.futoshiki.specs.Board.{up_to}
use Rattle.futoshiki.specs.Drafts.{no_two_stepped}
use Rattle.futoshiki.proofs.Growing.{group_more, groups_done}
use Rattle.futoshiki.proofs.draft.Draft.no_two_along.Goals as goal

pub no_two-requires : goal.no_two-requires
no_two-requires c =
    let few = c.loop-a.invariant.few_literals in
    let few_more = c.loop-b.invariant.few_literals in
    let outer = mul-le c.loop-a.a c.args.outer 8 81 (omega arith) (omega arith) in
    let inner = mul-le c.loop-b.b c.args.inner 8 81 (omega arith) (omega arith) in
    record { room = omega arith; small = (omega arith, omega arith, omega arith) }

pub loop-b-preserved : goal.loop-b-preserved
loop-b-preserved c =
    let line : ℕ → List Clause = λ k. no_two_stepped (c.loop-a.a * c.args.outer + k * c.args.inner + 1) c.args.step c.args.side.n in
    let b = c.loop-b.b in
    let e : b ≡ b + 1 - 1 = omega arith in
    group_more c.loop-a.self c.loop-b.self c.no_two.new.self b 162 (λ k. line (k - 1)) c.loop-b.invariant c.in_ok-no_two.ensures (ap line e)

pub loop-a-preserved : goal.loop-a-preserved
loop-a-preserved c =
    let n = c.args.side.n in
    let lines : ℕ → List Clause = λ j. flat_map (λ k. no_two_stepped (j * c.args.outer + (k - 1) * c.args.inner + 1) c.args.step n) (up_to n) in
    let a = c.loop-a.a in
    let e : a ≡ a + 1 - 1 = omega arith in
    let all : c.loop-b.b ≡ n = omega arith in
    group_more c.args.self.now c.loop-a.self c.loop-b.self a 1458 (λ j. lines (j - 1)) c.loop-a.invariant
    (groups_done c.loop-a.self c.loop-b.self c.loop-b.b n 162 1458 all (omega arith) (λ k. no_two_stepped (a * c.args.outer + (k - 1) * c.args.inner + 1) c.args.step n) c.loop-b.invariant)
    (ap lines e)

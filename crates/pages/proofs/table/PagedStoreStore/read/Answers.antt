use Rattle.std.proofs.Common.{◌≡◌, ◌+◌, ◌-◌, ◌*◌, min, length, sym, ap, ◌∙◌, arith}
use Rattle.pages.specs.Chained.{page_next}
use Rattle.pages.specs.Chains.{after_more}
use Rattle.pages.specs.Numbers.{full_on}
use Rattle.pages.specs.Fills.{turn_below}
use Rattle.pages.proofs.Copies.{copied_more}
use Rattle.pages.proofs.table.PagedStoreStore.read.Goals as goal

pub bounds-self-p : goal.bounds-self-p
bounds-self-p c =
    let e = c.in_ok-e.e in
    let p = c.in_ok-e.ensures in
    turn_below c.args.self.now.pages c.loop-i.i e.pages e.head c.loop-i.p 1024 c.loop-i.invariant.0 (omega (arith, c.min-n.ensures)) p.inside

pub loop-i-preserved : goal.loop-i-preserved
loop-i-preserved c =
    let s = c.args.self.now in
    let e = c.in_ok-e.e in
    let p = c.in_ok-e.ensures in
    let i = c.loop-i.i in
    let inv = c.loop-i.invariant in
    let full = full_on s.pages e.pages e.head 1024 s.full p.inside in
    let n : c.min-n.result ≡ min (length c.args.into.now) e.size = c.min-n.ensures in
    let m : c.min-end.result ≡ min c.min-n.result (i * 8 + 8) = c.min-end.ensures in (
      ap (page_next s.pages) inv.0 ∙ sym (after_more s.pages i e.head),
      copied_more s.pages e full i (c.min-end.result - i * 8) (omega arith) (omega arith) (omega arith) c.loop-i.into c.args.into.now c.copy_from_slice.new.self c.loop-i.p (min c.min-n.result (8 * i)) (min c.min-n.result (8 * (i + 1))) inv.0 (omega arith) (omega arith) (omega arith) c.copy_from_slice.ensures.after inv.1,
    )

use Rattle.std.proofs.Common.{◌≡◌, ◌+◌, ◌<◌, sym, ap, ◌∙◌, arith, rules}
use Rattle.pages.specs.Chained.{page_after, page_next}
use Rattle.pages.specs.Chains.{after_more, after_below}
use Rattle.pages.proofs.page.walk.Goals as goal

-- the page of a turn is a page
below : (c : goal.In-loop-unread) → c.loop.p < 1024
below c =
    let b = after_below c.args.pages.now c.loop.counter (c.args.n + 1) c.args.head 1024 (omega arith) c.requires in
    let e : c.loop.p ≡ page_after c.args.pages.now c.loop.counter c.args.head = c.loop.invariant in
    omega arith

pub overflow_cast-p : goal.overflow_cast-p
overflow_cast-p c = let b = below c in search rules

pub offset_bounds-pages-p : goal.offset_bounds-pages-p
offset_bounds-pages-p c = let b = below c in search rules

pub bounds-pages-p : goal.bounds-pages-p
bounds-pages-p c = below c

pub loop-preserved : goal.loop-preserved
loop-preserved c =
    let ps = c.args.pages.now in
    ap (page_next ps) c.loop.invariant ∙ sym (after_more ps c.loop.counter c.args.head)

pub returns : goal.returns
returns c =
    let ps = c.args.pages.now in
    let e : c.loop.counter ≡ c.args.n = omega arith in
    let i : c.loop.p ≡ page_after ps c.args.n c.args.head = c.loop.invariant ∙ ap (λ m. page_after ps m c.args.head) e in
    let b = after_below ps c.args.n (c.args.n + 1) c.args.head 1024 (omega arith) c.requires in
    record { is = i; below = omega arith }

use Rattle.std.proofs.Common.{◌≡◌, ◌<◌, length, ◌∙◌, arith, rules}
use Rattle.std.proofs.lemmas.List.{length-set}
use Rattle.pages.specs.Chains.{full_set}
use Rattle.pages.specs.Fills.{turn_below, next_is, links_still, others_still, holds_more}
use Rattle.pages.proofs.page.fill.Goals as goal

pub overflow_cast-page : goal.overflow_cast-page
overflow_cast-page c = let b = turn_below c.args.pages.now c.loop-i.i c.args.need c.args.head c.loop-i.p 1024 c.loop-i.invariant.1 c.loop-i-test.true c.requires.inside in search rules

pub offset_bounds-pages-p : goal.offset_bounds-pages-p
offset_bounds-pages-p c = let b = turn_below c.args.pages.now c.loop-i.i c.args.need c.args.head c.loop-i.p 1024 c.loop-i.invariant.1 c.loop-i-test.true c.requires.inside in search rules

pub bounds-pages-p : goal.bounds-pages-p
bounds-pages-p c = turn_below c.args.pages.now c.loop-i.i c.args.need c.args.head c.loop-i.p 1024 c.loop-i.invariant.1 c.loop-i-test.true c.requires.inside

pub loop-i-preserved : goal.loop-i-preserved
loop-i-preserved c =
    let b = turn_below c.args.pages.now c.loop-i.i c.args.need c.args.head c.loop-i.p 1024 c.loop-i.invariant.1 c.loop-i-test.true c.requires.inside in
    let ps = c.args.pages.now in
    let qs = c.loop-i.pages in
    let h = c.args.head in
    let n = c.args.need in
    let i = c.loop-i.i in
    let p = c.loop-i.p in
    let part = c.cut-page.result in
    let ls = c.args.literals.now in
    let inv = c.loop-i.invariant in
    let room : p < length qs = omega arith in
    let eight : length part ≡ 8 = search rules in
    let lt = c.loop-i-test.true in
    let once = c.requires.once in (
      length-set qs p _ ∙ inv.0,
      next_is ps qs h n i p part ls inv.1 lt once room inv.2,
      links_still ps qs h n i p part ls inv.1 lt once room inv.2,
      full_set qs p _ 1024 room eight inv.3,
      others_still ps qs h n i p part ls inv.1 lt once room inv.4,
      holds_more ps qs h n i p part ls inv.1 lt once room inv.5 c.cut-page.ensures,
    )

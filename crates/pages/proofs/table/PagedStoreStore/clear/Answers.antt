use Rattle.std.proofs.Common.{◌+◌, length, ap, ◌∙◌, arith}
use Rattle.pages.specs.Chained.{owner_count, page_total}
use Rattle.pages.specs.Chains.{fresh_one, fresh_none}
use Rattle.pages.proofs.table.PagedStoreStore.clear.Goals as goal

pub invariant_of-self : goal.invariant_of-self
invariant_of-self c =
    let ps = c.all_pages-self.result in
    let e = c.clear.ensures.items in
    let z = ap length e in
    record {
      room = omega (arith, c.args.self.now.room, c.clear.ensures.capacity);
      all = ap (λ es. 1024 + page_total es) e;
      one = λ k l. ap (λ es. owner_count ps 0 1024 es k) e ∙ fresh_one ps 1024 c.all_pages-self.ensures.linked k l;
      none = λ k l. ap (λ es. owner_count ps 0 1024 es k) e ∙ fresh_none ps 1024 c.all_pages-self.ensures.linked k l;
      full = c.all_pages-self.ensures.full;
      order = λ i j l h. absurd (omega arith);
    }

use Rattle.std.proofs.Common.{◌+◌, length, ap, ◌∙◌, arith}
use Rattle.pages.specs.Chained.{owner_count, page_total}
use Rattle.pages.specs.Chains.{fresh_one, fresh_none}
use Rattle.pages.proofs.paged.PagedStore.new.Goals as goal

pub invariant_of-result : goal.invariant_of-result
invariant_of-result c =
    let ps = c.all_pages-pages.result in
    let m = c.in_ok-directory.ensures in
    let e = m.items in
    let z = ap length e in
    record {
      room = m.capacity;
      all = ap (λ es. 1024 + page_total es) e;
      one = λ k l. ap (λ es. owner_count ps 0 1024 es k) e ∙ fresh_one ps 1024 c.all_pages-pages.ensures.linked k l;
      none = λ k l. ap (λ es. owner_count ps 0 1024 es k) e ∙ fresh_none ps 1024 c.all_pages-pages.ensures.linked k l;
      full = c.all_pages-pages.ensures.full;
      order = λ i j l h. absurd (omega arith);
    }

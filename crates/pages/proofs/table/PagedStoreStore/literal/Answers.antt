use Rattle.std.proofs.Common.{◌+◌, ◌-◌, ◌/◌, ◌%◌, get_or, sym, ap, ◌∙◌, arith}
use Rattle.store.specs.Tables.{literal_in}
use Rattle.cnf.specs.Tabled.{no_literal}
use Rattle.pages.specs.Chained.{no_page}
use Rattle.pages.specs.Chains.{chain_front}
use Rattle.pages.specs.Numbers.{full_on, literal_in_some}
use Rattle.pages.proofs.table.PagedStoreStore.literal.Goals as goal

pub walk-p-requires : goal.walk-p-requires
walk-p-requires c =
    let s = c.args.self.now in
    let e = c.in-Some.e in
    let f = e.fitting in
    chain_front s.pages ((c.args.j - 1) / 8 + 1) e.pages e.head 1024 (omega arith) c.in-Some.ensures.inside

pub returns : goal.returns
returns c =
    let s = c.args.self.now in
    let e = c.in-Some.e in
    let j = c.args.j in
    let full = full_on s.pages e.pages e.head 1024 s.full c.in-Some.ensures.inside in
    ap (λ k. (get_or (get_or s.pages k no_page).literals ((j - 1) % 8) no_literal).0) c.walk-p.ensures.is
    ∙ sym (ap (literal_in j) c.in-Some.ensures.clause ∙ literal_in_some s.pages e full j (omega arith) c.if-j-e.false)

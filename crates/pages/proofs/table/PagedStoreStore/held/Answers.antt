use Rattle.std.proofs.Common.{◌≤◌, length, vec_items, arith, rules}
use Rattle.pages.specs.Places.{few_entries, length_table}
use Rattle.pages.proofs.table.PagedStoreStore.held.Goals as goal

pub overflow_cast-result : goal.overflow_cast-result
overflow_cast-result c =
    let s = c.args.self.now in
    let f = few_entries (vec_items s.directory) in
    let a = s.all in
    let b : length (vec_items s.directory) ≤ 1024 = omega arith in
    search rules

pub returns : goal.returns
returns c =
    let s = c.args.self.now in
    let e = length_table s.pages (vec_items s.directory) in
    search rules

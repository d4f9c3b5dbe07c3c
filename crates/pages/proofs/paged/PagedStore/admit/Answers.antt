use Rattle.std.proofs.Common.{◌<◌, ◌≤◌, length, vec_items, arith}
use Rattle.cnf.specs.Tabled.{numbers_of, length_numbers}
use Rattle.store.proofs.Lawful.{put_held, put_long, put_full, put_accepts}
use Rattle.store.specs.Tables.{cost, free_units}
use Rattle.pages.specs.Chained.{paged_kind}
use Rattle.pages.specs.Meant.{paged_table}
use Rattle.pages.specs.Places.{cost_is}
use Rattle.pages.specs.Owners.{free_pages}
use Rattle.pages.proofs.paged.PagedStore.admit.Goals as goal

pub returns-in_default-clause-answer : goal.returns-in_default-clause-answer
returns-in_default-clause-answer c =
    put_held paged_kind (paged_table c.args.self.now) c.args.id (numbers_of c.args.literals.now) _ c.in_default.ensures.clause

pub returns-then-literals-gt-LONGEST-clause-answer : goal.returns-then-literals-gt-LONGEST-clause-answer
returns-then-literals-gt-LONGEST-clause-answer c =
    let ls = c.args.literals.now in
    let m = length_numbers ls in
    put_long paged_kind (paged_table c.args.self.now) c.args.id (numbers_of ls) c.in-Err.ensures.clause (omega arith)

pub returns-then-pages_needed-self-clause-answer : goal.returns-then-pages_needed-self-clause-answer
returns-then-pages_needed-self-clause-answer c =
    let s = c.args.self.now in
    let ls = c.args.literals.now in
    let m = length_numbers ls in
    let u = free_pages s.pages s.first s.spare (vec_items s.directory) s.all s.none s.full in
    let k = cost_is (numbers_of ls) (length ls) m in
    let full : free_units paged_kind (paged_table s) < cost paged_kind (numbers_of ls) = omega arith in
    put_full paged_kind (paged_table s) c.args.id (numbers_of ls) c.in-Err.ensures.clause (omega arith) full

pub returns-clause-answer : goal.returns-clause-answer
returns-clause-answer c =
    let s = c.args.self.now in
    let ls = c.args.literals.now in
    let m = length_numbers ls in
    let u = free_pages s.pages s.first s.spare (vec_items s.directory) s.all s.none s.full in
    let k = cost_is (numbers_of ls) (length ls) m in
    let fits : cost paged_kind (numbers_of ls) ≤ free_units paged_kind (paged_table s) = omega arith in
    put_accepts paged_kind (paged_table s) c.args.id (numbers_of ls) c.in-Err.ensures.clause (omega arith) fits

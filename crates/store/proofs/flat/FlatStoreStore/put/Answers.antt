use Rattle.std.proofs.Common.{◌≡◌, true, is_ok, vec_items, sym, refl, ap, ◌∙◌, arith}
use Rattle.std.proofs.lemmas.Bool.{cond-true}
use Rattle.cnf.specs.Faults.{accepted}
use Rattle.cnf.specs.Tabled.{numbers_of, length_numbers}
use Rattle.store.specs.Tables.{insert, settled}
use Rattle.store.specs.Rows.{flat_kind, rows_of, ids_ascend}
use Rattle.store.specs.Stands.{found_held, put_rows, put_ordered, free_rows, cost_one}
use Rattle.store.proofs.Lawful.{put_held, put_long, put_full, put_accepts}
use Rattle.store.proofs.flat.FlatStoreStore.put.Goals as goal

pub returns-in_default : goal.returns-in_default
returns-in_default c =
    let es = vec_items c.args.self.now.entries in
    let h = found_held c.args.id.0 es c.in_default.field-0 c.in_default.ensures in
    record { answer = sym (put_held flat_kind (rows_of es) c.args.id.0 (numbers_of c.args.literals.now) h.0 h.1); after = refl }

pub returns-then-literals-gt-LONGEST : goal.returns-then-literals-gt-LONGEST
returns-then-literals-gt-LONGEST c =
    let es = vec_items c.args.self.now.entries in
    let n = length_numbers c.args.literals.now in
    record { answer = sym (put_long flat_kind (rows_of es) c.args.id.0 (numbers_of c.args.literals.now) c.in-Err.ensures.2 (omega arith)); after = refl }

pub returns-then-len-ge-UNITS : goal.returns-then-len-ge-UNITS
returns-then-len-ge-UNITS c =
    let s = c.args.self.now in
    let es = vec_items s.entries in
    let d = numbers_of c.args.literals.now in
    let n = length_numbers c.args.literals.now in
    let f = free_rows es in
    let m = s.entries.ok.0 in
    let o = cost_one d (omega arith) in
    record { answer = sym (put_full flat_kind (rows_of es) c.args.id.0 d c.in-Err.ensures.2 (omega arith) (omega arith)); after = refl }

pub invariant_of-self : goal.invariant_of-self
invariant_of-self c =
    let s = c.args.self.now in
    let es = vec_items s.entries in
    let ok : is_ok c.insert.result ≡ true = c.insert.ensures.succeeds (omega arith) in
    let one = c.insert.ensures.len ∙ cond-true (is_ok c.insert.result) _ _ ok in
    let room = c.insert.ensures.capacity in
    let up = put_ordered c.args.id.0 (numbers_of c.args.literals.now) es c.in-Err.at c.in-Some.entry s.ordered c.in-Err.ensures c.in-Some.ensures.1 in
    record {
      reserved = omega arith;
      few = omega arith;
      ordered = ap (λ xs. ids_ascend 0 (rows_of xs)) (c.insert.ensures.items ∙ cond-true (is_ok c.insert.result) _ _ ok) ∙ up;
    }

pub returns : goal.returns
returns c =
    let s = c.args.self.now in
    let es = vec_items s.entries in
    let d = numbers_of c.args.literals.now in
    let n = length_numbers c.args.literals.now in
    let f = free_rows es in
    let m = s.entries.ok.0 in
    let o = cost_one d (omega arith) in
    let ok : is_ok c.insert.result ≡ true = c.insert.ensures.succeeds (omega arith) in
    let done : c.map_err.result ≡ accepted = grind arith in
    record {
      answer = done ∙ sym (put_accepts flat_kind (rows_of es) c.args.id.0 d c.in-Err.ensures.2 (omega arith) (omega arith));
      after =
          ap rows_of (c.insert.ensures.items ∙ cond-true (is_ok c.insert.result) _ _ ok)
          ∙ put_rows c.args.id.0 d es c.in-Err.at c.in-Some.entry c.in-Err.ensures c.in-Some.ensures.1
          ∙ ap (λ a. settled a (insert c.args.id.0 d (rows_of es)) (rows_of es)) (sym done);
    }

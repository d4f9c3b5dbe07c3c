use Rattle.std.proofs.Common.{◌≡◌, None, Ok, vec_items, sym, ap, ◌∙◌, subst, arith}
use Rattle.std.proofs.lemmas.Result.{err_from_is_err_and}
use Rattle.store.specs.Tables.{lookup}
use Rattle.store.specs.Rows.{rows_of, ids_ascend, FoundPlace}
use Rattle.store.proofs.Lawful.{remove_held, remove_absent}
use Rattle.store.specs.Stands.{found_lookup, remove_rows, remove_ordered}
use Rattle.store.proofs.flat.FlatStoreStore.remove.Goals as goal

pub returns-in_err-at-clause-answer : goal.returns-in_err-at-clause-answer
returns-in_err-at-clause-answer c =
    let t = rows_of (vec_items c.args.self.now.entries) in
    let p = err_from_is_err_and c.from_residual.result c.from_residual.ensures.1 in
    let none : lookup c.args.id.0 t ≡ None = grind arith in
    rw (p.1, p.2, remove_absent t c.args.id.0 none) (grind arith)

pub invariant_of-self : goal.invariant_of-self
invariant_of-self c =
    let s = c.args.self.now in
    let es = vec_items s.entries in
    let ok : c.find.result ≡ Ok c.in_ok-at.at = grind arith in
    let f = subst (FoundPlace c.args.id.0 es) ok c.find.ensures in
    let room = c.remove.ensures.capacity in
    let fewer = c.remove.ensures.len in
    let up = remove_ordered c.args.id.0 es c.in_ok-at.at c.remove.result s.ordered f c.remove.ensures.value in
    record { reserved = omega arith; few = omega arith; ordered = ap (λ xs. ids_ascend 0 (rows_of xs)) c.remove.ensures.items ∙ up }

pub returns : goal.returns
returns c =
    let es = vec_items c.args.self.now.entries in
    let i = c.args.id.0 in
    let ok : c.find.result ≡ Ok c.in_ok-at.at = grind arith in
    let f = subst (FoundPlace i es) ok c.find.ensures in
    let q = c.remove.ensures.value in
    record {
      answer = sym (remove_held (rows_of es) i _ (found_lookup i es c.in_ok-at.at c.remove.result f q));
      after = ap rows_of c.remove.ensures.items ∙ remove_rows i es c.in_ok-at.at c.remove.result f q;
    }

-- The laws of put and remove, at every lawful table.
use Rattle.std.proofs.Common.{◌≡◌, ℕ, ◌<◌, ◌≤◌, true, not, length, Some, None, Err, Option, sym, refl, ap, subst, arith}
use Rattle.std.proofs.lemmas.Bool.{leb-true, le-leb, lt-leb}
use Rattle.cnf.specs.declared.fault.Fault.{Fault}
use Rattle.cnf.specs.declared.fault.Fault.TheVariants.{IdHeld, TooLong, NoRoom, NotHeld}
use Rattle.cnf.specs.Formula.{Clause}
use Rattle.cnf.specs.Faults.{Answer, accepted}
use Rattle.cnf.proofs.Accepting.{then_parts, check_passed}
use Rattle.store.specs.Tables.{Kind, Table, cost, free_units, lookup, insert, erase, is_there, put_answer, remove_answer, settled}
use Rattle.store.specs.Laws.{LawfulTable, HasPlace, AfterPut, AfterRemove, TableLaws}
use Rattle.store.specs.Canon.{lookup_insert_same, lookup_insert_other, lookup_erase_same, lookup_erase_other, ascending_insert, ascending_erase, length_insert, costs_insert, length_erase_held, costs_erase_held, erase_insert, insert_erase}

-- a clause that is not there is none
absent_none : (o : Option Clause) → not (is_there o) ≡ true → o ≡ None
absent_none None h = refl
absent_none (Some c) h = let z : ◌≡◌ {A = ℕ} 0 1 = cc in absurd (omega arith)

pub put_says : (k : Kind) (t : Table) (i : ℕ) (c : Clause) → put_answer k t i c ≡ accepted → HasPlace k t i c
unfolding put_answer
put_says k t i c h =
    let p = then_parts _ _ h in
    let q = then_parts _ _ p.1 in
    record {
      id_absent = absent_none (lookup i t) (check_passed _ IdHeld p.0);
      short_enough = leb-true (length c) k.longest (check_passed _ TooLong q.0);
      room_enough = leb-true (cost k c) (free_units k t) (check_passed _ NoRoom q.1);
    }

pub put_held : (k : Kind) (t : Table) (i : ℕ) (c d : Clause) → lookup i t ≡ Some d → put_answer k t i c ≡ Err IdHeld
unfolding put_answer
put_held k t i c d h = rw h

pub put_long : (k : Kind) (t : Table) (i : ℕ) (c : Clause) → lookup i t ≡ None → k.longest < length c → put_answer k t i c ≡ Err TooLong
unfolding put_answer
put_long k t i c h l = rw (h, lt-leb (length c) k.longest l)

pub put_full : (k : Kind) (t : Table) (i : ℕ) (c : Clause) → lookup i t ≡ None → length c ≤ k.longest → free_units k t < cost k c → put_answer k t i c ≡ Err NoRoom
unfolding put_answer
put_full k t i c h l r = rw (h, le-leb (length c) k.longest l, lt-leb (cost k c) (free_units k t) r)

pub put_accepts : (k : Kind) (t : Table) (i : ℕ) (c : Clause) → lookup i t ≡ None → length c ≤ k.longest → cost k c ≤ free_units k t → put_answer k t i c ≡ accepted
unfolding put_answer
put_accepts k t i c h l r = rw (h, le-leb (length c) k.longest l, le-leb (cost k c) (free_units k t) r)

pub remove_held : (t : Table) (i : ℕ) (d : Clause) → lookup i t ≡ Some d → remove_answer t i ≡ accepted
unfolding remove_answer
remove_held t i d h = rw h

pub remove_absent : (t : Table) (i : ℕ) → lookup i t ≡ None → remove_answer t i ≡ Err NotHeld
unfolding remove_answer
remove_absent t i h = rw h

-- what is settled by an answer that is known
pub settled_accepted : (a : Answer) (new old : Table) → a ≡ accepted → settled a new old ≡ new
settled_accepted a new old h = ap (λ b. settled b new old) h

pub settled_refused : (a : Answer) (f : Fault) (new old : Table) → a ≡ Err f → settled a new old ≡ old
settled_refused a f new old h = ap (λ b. settled b new old) h

pub after_put : (k : Kind) (t : Table) (i : ℕ) (c : Clause) → LawfulTable k t → HasPlace k t i c → AfterPut k t i c (insert i c t)
unfolding free_units
after_put k t i c w p =
    let n = costs_insert k i c t in
    let room = p.room_enough in
    let most = w.within_units in
    record {
      finds_it = lookup_insert_same i c t p.id_absent;
      finds_others = λ j h. lookup_insert_other j i c t h;
      one_more = let m = length_insert i c t in omega arith;
      cost_less = omega arith;
      still_lawful = record { in_order = ascending_insert 0 i c t (omega arith) p.id_absent w.in_order; within_units = omega arith };
      taken_back = erase_insert i c t p.id_absent;
    }

pub after_remove : (k : Kind) (t : Table) (i : ℕ) (c : Clause) → LawfulTable k t → lookup i t ≡ Some c → AfterRemove k t i c (erase i t)
unfolding free_units
after_remove k t i c w h =
    let n = costs_erase_held k i c t h in
    let most = w.within_units in
    record {
      finds_none = lookup_erase_same 0 i t w.in_order;
      finds_others = λ j e. lookup_erase_other j i t e;
      one_less = length_erase_held i c t h;
      cost_more = omega arith;
      still_lawful = record { in_order = ascending_erase 0 i t w.in_order; within_units = omega arith };
      put_back = insert_erase 0 i c t w.in_order h;
    }

pub table_laws : (k : Kind) (t : Table) (i : ℕ) (c : Clause) → LawfulTable k t → TableLaws k t i c
table_laws k t i c w = record {
  put_told = record {
    accepts = (put_says k t i c, λ p. put_accepts k t i c p.id_absent p.short_enough p.room_enough);
    first_held = put_held k t i c;
    then_long = put_long k t i c;
    then_full = put_full k t i c;
  };
  put_leaves = λ a. subst (AfterPut k t i c) (sym (settled_accepted (put_answer k t i c) (insert i c t) t a)) (after_put k t i c w (put_says k t i c a));
  put_refused = λ f e. settled_refused (put_answer k t i c) f (insert i c t) t e;
  remove_accepts = remove_held t i c;
  remove_refuses = remove_absent t i;
  remove_leaves = λ h. subst (AfterRemove k t i c) (sym (settled_accepted (remove_answer t i) (erase i t) t (remove_held t i c h))) (after_remove k t i c w h);
  remove_refused = λ f e. settled_refused (remove_answer t i) f (erase i t) t e;
}

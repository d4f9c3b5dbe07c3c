-- What the answers of a store come to, and the tables that its calls leave, in the subject's words.
use Rattle.std.specs.Prelude.{◌≡◌, ℕ, ◌+◌, ◌<◌, ◌≤◌, ◌≢◌, ◌↔◌, length, Some, None, Err}
use Rattle.cnf.specs.declared.fault.Fault.{Fault}
use Rattle.cnf.specs.declared.fault.Fault.TheVariants.{IdHeld, TooLong, NoRoom, NotHeld}
use Rattle.cnf.specs.Formula.{Clause}
use Rattle.cnf.specs.Faults.{accepted}
use Rattle.store.specs.Tables.{Kind, Table, cost, costs, free_units, lookup, insert, erase, Ascending, put_answer, remove_answer, settled}

-- a table that a store of a kind may hold: its ids ascend, and its clauses cost no more than there is
pub record LawfulTable (k : Kind) (t : Table) : Type 0 where
  pub in_order : Ascending 0 t
  pub within_units : costs k t ≤ k.units

-- a clause has a place under an id: the id is free, the clause is not too long, and there is room for it
pub record HasPlace (k : Kind) (t : Table) (i : ℕ) (c : Clause) : Type 0 where
  pub id_absent : lookup i t ≡ None
  pub short_enough : length c ≤ k.longest
  pub room_enough : cost k c ≤ free_units k t

-- what a put answers: accepted where the clause has a place, else the first of three causes
pub record PutTold (k : Kind) (t : Table) (i : ℕ) (c : Clause) : Type 0 where
  pub accepts : (put_answer k t i c ≡ accepted) ↔ HasPlace k t i c
  pub first_held : (d : Clause) → lookup i t ≡ Some d → put_answer k t i c ≡ Err IdHeld
  pub then_long : lookup i t ≡ None → k.longest < length c → put_answer k t i c ≡ Err TooLong
  pub then_full : lookup i t ≡ None → length c ≤ k.longest → free_units k t < cost k c → put_answer k t i c ≡ Err NoRoom

-- what an accepted put leaves: the clause under its id, all else as it was, one clause more and its cost less free
pub record AfterPut (k : Kind) (t : Table) (i : ℕ) (c : Clause) (new : Table) : Type 0 where
  pub finds_it : lookup i new ≡ Some c
  pub finds_others : (j : ℕ) → j ≢ i → lookup j new ≡ lookup j t
  pub one_more : length new ≡ length t + 1
  pub cost_less : free_units k new + cost k c ≡ free_units k t
  pub still_lawful : LawfulTable k new
  pub taken_back : erase i new ≡ t

-- what an accepted remove of a clause leaves: nothing under its id, all else as it was, one clause less and its cost free
pub record AfterRemove (k : Kind) (t : Table) (i : ℕ) (c : Clause) (new : Table) : Type 0 where
  pub finds_none : lookup i new ≡ None
  pub finds_others : (j : ℕ) → j ≢ i → lookup j new ≡ lookup j t
  pub one_less : length new + 1 ≡ length t
  pub cost_more : free_units k new ≡ free_units k t + cost k c
  pub still_lawful : LawfulTable k new
  pub put_back : insert i c new ≡ t

-- the laws of put and remove at a table, an id and a clause
pub record TableLaws (k : Kind) (t : Table) (i : ℕ) (c : Clause) : Type 0 where
  pub put_told : PutTold k t i c
  pub put_leaves : put_answer k t i c ≡ accepted → AfterPut k t i c (settled (put_answer k t i c) (insert i c t) t)
  pub put_refused : (f : Fault) → put_answer k t i c ≡ Err f → settled (put_answer k t i c) (insert i c t) t ≡ t
  pub remove_accepts : lookup i t ≡ Some c → remove_answer t i ≡ accepted
  pub remove_refuses : lookup i t ≡ None → remove_answer t i ≡ Err NotHeld
  pub remove_leaves : lookup i t ≡ Some c → AfterRemove k t i c (settled (remove_answer t i) (erase i t) t)
  pub remove_refused : (f : Fault) → remove_answer t i ≡ Err f → settled (remove_answer t i) (erase i t) t ≡ t

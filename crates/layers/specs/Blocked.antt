-- Blocking an assignment: its block clause is listed last, and only that assignment stops being a model.
use Rattle.std.specs.Prelude.{◌≡◌, ℕ, ◌+◌, ◌≤◌, ◌≢◌, ◌↔◌, List, [], ◌∷◌, length, Err}
use Rattle.layers.specs.declared.block.Block.{Block}
use Rattle.layers.specs.declared.unmade.Unmade.{Unmade}
use Rattle.cnf.specs.Faults.{accepted}
use Rattle.cnf.specs.Checks.{form_answer, assignment_of}
use Rattle.cnf.specs.Formula.{Clause, Assignment, Model, Lawful, block_clause}
use Rattle.layers.specs.Joined.{joined_listing}

-- a listing, and after it the block clause of an assignment
abbrev pub blocked_listing : List Clause → Assignment → List Clause
blocked_listing cs a = joined_listing cs (block_clause a ∷ [])

-- the source below a block
abbrev pub source_below : {S : Type 0} → Block S → S
source_below b = b.joined.first

-- the assignment that is blocked
abbrev pub blocked_assignment : {S : Type 0} → Block S → Assignment
blocked_assignment b = b.joined.second.values.items

-- a block that was made: over the source below, of n variables, with the assignment of a claim in form
pub record Blocked {S : Type 0} (n : ℕ) (source : S) (bytes : List ℕ) (b : Block S) : Type 0 where
  pub in_form : form_answer n bytes ≡ accepted
  pub over : source_below b ≡ source
  pub in_order : blocked_assignment b ≡ assignment_of bytes

-- a block that was refused: the claim is not in form, and the source below is given back
pub record NotBlocked {S : Type 0} (n : ℕ) (source : S) (bytes : List ℕ) (u : Unmade S) : Type 0 where
  pub cause : form_answer n bytes ≡ Err u.fault
  pub given_back : u.below ≡ source

-- what blocking an assignment of the variables 1 to n does to the models, and when it is lawful
pub record BlockMeans (n : ℕ) (cs : List Clause) (a : Assignment) : Type 0 where
  pub models : length a ≡ n → (x : Assignment) → Model n (blocked_listing cs a) x ↔ (Model n cs x × (x ≢ a))
  pub lawful : length a ≡ n → Lawful n cs → (Lawful n (blocked_listing cs a) ↔ (length cs + 1 ≤ 65535))

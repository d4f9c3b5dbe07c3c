-- The registers after a word.
use Rattle.std.proofs.Common.{◌≡◌, Bool, ◌||◌, ◌∙◌}
use Rattle.register.specs.declared.register.Register.{Register}
use Rattle.words.specs.declared.item.Item.{Item}
use Rattle.puzzle.specs.Reading.{Puzzle, State, with_item, ends_list, next_state}
use Rattle.puzzle.specs.declared.registers.Registers.{Registers}
use Rattle.puzzle.specs.Steps.{tables_held, SameTable, SameTables}

-- the same tables take as many records
pub tables_same : {r r' : Registers} → SameTables r r' → tables_held r' ≡ tables_held r
tables_same s = λ i. record { for_givens = s.givens.slots_same i; for_claims = s.claims.slots_same i; for_signs = s.signs.slots_same i }

-- tables that stay the same, and stay so further on
pub table_on : {X : Type 0} {a b c : Register X} → SameTable a b → SameTable b c → SameTable a c
table_on p q = record { slots_same = q.slots_same ∙ p.slots_same; blank_same = q.blank_same ∙ p.blank_same }

pub tables_on : {a b c : Registers} → SameTables a b → SameTables b c → SameTables a c
tables_on p q = record {
  givens = table_on p.givens q.givens;
  claims = table_on p.claims q.claims;
  signs = table_on p.signs q.signs;
  same = record {
    givens = q.same.givens ∙ p.same.givens;
    claims = q.same.claims ∙ p.same.claims;
    signs = q.same.signs ∙ p.same.signs;
    given_slots = q.same.given_slots ∙ p.same.given_slots;
    claim_slots = q.same.claim_slots ∙ p.same.claim_slots;
    sign_slots = q.same.sign_slots ∙ p.same.sign_slots;
  };
}

-- the state after an item, from the puzzle that is held then
pub state_after : (st : State) (P : Puzzle) (it : Item) (e : Bool) → P ≡ with_item st.so_far it → e ≡ (st.after_end || ends_list it) → record { so_far = P; after_end = e } ≡ next_state st it
state_after st P it e p q = λ i. record { so_far = p i; after_end = q i }

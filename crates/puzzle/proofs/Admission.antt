-- One later word: it is accepted exactly when no end word came and it keeps each condition.
use Rattle.std.proofs.Common.{◌≡◌, ℕ, ◌≤◌, false}
use Rattle.cnf.specs.Faults.{accepted}
use Rattle.words.specs.declared.item.Item.{Item}
use Rattle.puzzle.specs.Reading.{Puzzle, Tables, State, item_answer}
use Rattle.puzzle.specs.Refused.{NoBoard, ItemRanged, NewKey, SideShared, ClaimsWhole, HasRoom}
use Rattle.puzzle.proofs.Faults.{accepted_says, accepted_from}

-- what a word must be to be taken after a puzzle
pub record Admissible (t : Tables) (P : Puzzle) (it : Item) : Type 0 where
  pub later : NoBoard it
  pub ranged : ItemRanged P.size it
  pub new : NewKey P it
  pub sided : SideShared P.size it
  pub whole : ClaimsWhole P it
  pub room : HasRoom t P it

pub admissible : (t : Tables) (st : State) (p : ℕ) (it : Item) → 1 ≤ st.so_far.size → item_answer t st p it ≡ accepted → (st.after_end ≡ false) × Admissible t st.so_far it
admissible t st p it some h =
    let c = accepted_says t st p it some h in
    let d = c.1.1.1 in
    (d.1.0, record { later = c.0; ranged = c.1.0; new = c.1.1.0; sided = d.0; whole = d.1.1.0; room = d.1.1.1.0 })

pub admitted : (t : Tables) (st : State) (p : ℕ) (it : Item) → 1 ≤ st.so_far.size → st.after_end ≡ false → Admissible t st.so_far it → item_answer t st p it ≡ accepted
admitted t st p it some o a = accepted_from t st p it some (a.later, (a.ranged, (a.new, (a.sided, (o, (a.whole, (a.room, tt)))))))

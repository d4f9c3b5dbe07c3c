-- Records gathered one by one: what the registers have then, and what they keep.
use Rattle.std.proofs.Common.{◌≡◌, ◌≤◌, List, [], ◌∷◌, ◌++◌, sym, ◌∙◌, append_assoc, append-nil, arith}
use Rattle.std.proofs.ByRecursion.{All-push}
use Rattle.std.proofs.lemmas.List.{length_push, length-append}
use Rattle.std.proofs.lemmas.Nat.{mul-le}
use Rattle.futoshiki.specs.Board.{SharingSide}
use Rattle.futoshiki.specs.Rules.{OnBoard}
use Rattle.futoshiki.proofs.Lists.{all_right}
use Rattle.words.specs.declared.item.Item.{Item}
use Rattle.words.specs.declared.item.Item.TheVariants.{Board, Given, Claim, Less, End}
use Rattle.words.specs.Layouts.{FitsBits}
use Rattle.puzzle.specs.Registers.{SameCell, SamePair}
use Rattle.puzzle.specs.Reading.{Puzzle, Tables, with_item}
use Rattle.puzzle.specs.Accepted.{IsRecord, givens_of, claims_of, signs_of, EntryOn, Registered, Room}
use Rattle.puzzle.proofs.Keys.{turn_cell, turn_pair, once_push, once_new}
use Rattle.puzzle.proofs.Admission.{Admissible}

-- item after item
abbrev pub gathered : Puzzle → List Item → Puzzle
gathered P [] = P
gathered P (it ∷ is) = gathered (with_item P it) is

-- the same, register by register
abbrev pub plus : Puzzle → List Item → Puzzle
plus P is = record { size = P.size; givens = P.givens ++ givens_of is; claims = P.claims ++ claims_of is; signs = P.signs ++ signs_of is }

pub gathered_is : (P : Puzzle) (is : List Item) → gathered P is ≡ plus P is
gathered_is P [] = λ i. record { size = P.size; givens = sym (append-nil P.givens) i; claims = sym (append-nil P.claims) i; signs = sym (append-nil P.signs) i }
gathered_is P (Board p N ∷ is) = gathered_is P is
gathered_is P (Given e ∷ is) =
    gathered_is (with_item P (Given e)) is
    ∙ (λ i. record { size = P.size; givens = append_assoc P.givens (e ∷ []) (givens_of is) i; claims = P.claims ++ claims_of is; signs = P.signs ++ signs_of is })
gathered_is P (Claim e ∷ is) =
    gathered_is (with_item P (Claim e)) is
    ∙ (λ i. record { size = P.size; givens = P.givens ++ givens_of is; claims = append_assoc P.claims (e ∷ []) (claims_of is) i; signs = P.signs ++ signs_of is })
gathered_is P (Less s ∷ is) =
    gathered_is (with_item P (Less s)) is
    ∙ (λ i. record { size = P.size; givens = P.givens ++ givens_of is; claims = P.claims ++ claims_of is; signs = append_assoc P.signs (s ∷ []) (signs_of is) i })
gathered_is P (End ∷ is) = gathered_is P is

-- an admissible record keeps the registers in order
pub registered_more : (t : Tables) (P : Puzzle) (it : Item) → Admissible t P it → Registered P → Registered (with_item P it)
registered_more t P (Board p N) a r = r
registered_more t P (Given e) a r = record {
  givens_on = All-push (EntryOn P.size) P.givens e r.givens_on a.ranged;
  claims_on = r.claims_on;
  signs_on = r.signs_on;
  givens_once = once_push SameCell turn_cell P.givens e r.givens_once a.new;
  claims_once = r.claims_once;
  signs_once = r.signs_once;
  sides = r.sides;
}
registered_more t P (Claim e) a r = record {
  givens_on = r.givens_on;
  claims_on = All-push (EntryOn P.size) P.claims e r.claims_on a.ranged;
  signs_on = r.signs_on;
  givens_once = r.givens_once;
  claims_once = once_push SameCell turn_cell P.claims e r.claims_once a.new;
  signs_once = r.signs_once;
  sides = r.sides;
}
registered_more t P (Less s) a r = record {
  givens_on = r.givens_on;
  claims_on = r.claims_on;
  signs_on = All-push (OnBoard P.size) P.signs s r.signs_on a.ranged;
  givens_once = r.givens_once;
  claims_once = r.claims_once;
  signs_once = once_push SamePair turn_pair P.signs s r.signs_once a.new;
  sides = All-push (λ s. SharingSide P.size s.lesser s.greater) P.signs s r.sides a.sided;
}
registered_more t P End a r = r

pub room_more : (t : Tables) (P : Puzzle) (it : Item) → Admissible t P it → Room t P → Room t (with_item P it)
room_more t P (Board p N) a r = r
room_more t P (Given e) a r = record { givens_fit = omega (arith, length_push P.givens e, a.room); claims_fit = r.claims_fit; signs_fit = r.signs_fit }
room_more t P (Claim e) a r = record { givens_fit = r.givens_fit; claims_fit = omega (arith, length_push P.claims e, a.room); signs_fit = r.signs_fit }
room_more t P (Less s) a r = record { givens_fit = r.givens_fit; claims_fit = r.claims_fit; signs_fit = omega (arith, length_push P.signs s, a.room) }
room_more t P End a r = r

-- a record of a puzzle in order was admissible when it came
pub admit : (t : Tables) (P : Puzzle) (it : Item) (is : List Item) → IsRecord it → Registered (plus P (it ∷ is)) → Room t (plus P (it ∷ is)) → Admissible t P it
admit t P (Board p N) is i r m = absurd i
admit t P (Given e) is i r m = record {
  later = tt;
  ranged = (all_right (EntryOn P.size) P.givens (e ∷ givens_of is) r.givens_on).0;
  new = once_new SameCell turn_cell P.givens e (givens_of is) r.givens_once;
  sided = tt;
  whole = tt;
  room = omega (arith, length-append P.givens (e ∷ givens_of is), m.givens_fit);
}
admit t P (Claim e) is i r m = record {
  later = tt;
  ranged = (all_right (EntryOn P.size) P.claims (e ∷ claims_of is) r.claims_on).0;
  new = once_new SameCell turn_cell P.claims e (claims_of is) r.claims_once;
  sided = tt;
  whole = tt;
  room = omega (arith, length-append P.claims (e ∷ claims_of is), m.claims_fit);
}
admit t P (Less s) is i r m = record {
  later = tt;
  ranged = (all_right (OnBoard P.size) P.signs (s ∷ signs_of is) r.signs_on).0;
  new = once_new SamePair turn_pair P.signs s (signs_of is) r.signs_once;
  sided = (all_right (λ s. SharingSide P.size s.lesser s.greater) P.signs (s ∷ signs_of is) r.sides).0;
  whole = tt;
  room = omega (arith, length-append P.signs (s ∷ signs_of is), m.signs_fit);
}
admit t P End is i r m = absurd i

-- an admissible item's fields have bits enough
pub fits : (t : Tables) (P : Puzzle) (it : Item) → P.size ≤ 9 → Admissible t P it → FitsBits it
fits t P (Board p N) h a = absurd a.later
fits t P (Given e) h a = (omega (arith, mul-le P.size P.size 9 9 h h, a.ranged.0.1), omega (arith, a.ranged.1.1))
fits t P (Claim e) h a = (omega (arith, mul-le P.size P.size 9 9 h h, a.ranged.0.1), omega (arith, a.ranged.1.1))
fits t P (Less s) h a = (omega (arith, mul-le P.size P.size 9 9 h h, a.ranged.0.1), omega (arith, mul-le P.size P.size 9 9 h h, a.ranged.1.1))
fits t P End h a = tt

-- Why a list is refused, in the puzzle's words.
use Rattle.std.specs.Prelude.{◌≡◌, ℕ, ◌+◌, ◌<◌, ◌≤◌, Bool, true, false, ◌⊎◌, List, [], ◌∷◌, ◌++◌, map, length}
use Rattle.std.specs.List.{AllByRecursion}
use Rattle.cnf.specs.declared.fault.Fault.{Fault}
use Rattle.cnf.specs.declared.fault.Fault.TheVariants.{WordForm, BoardWord, OutOfRange, KeyPresent, NoSideShared, EndWord, ClaimMissing, TableFull}
use Rattle.futoshiki.specs.Board.{SharingSide}
use Rattle.futoshiki.specs.Rules.{OnBoard}
use Rattle.words.specs.declared.item.Item.{Item}
use Rattle.words.specs.declared.item.Item.TheVariants.{Board, Given, Claim, Less, End}
use Rattle.words.specs.Layouts.{item_word, FitsBits}
use Rattle.words.specs.Laws.{SaysNothing}
use Rattle.puzzle.specs.Registers.{SameCell, SamePair}
use Rattle.puzzle.specs.Reading.{Puzzle, Tables}
use Rattle.puzzle.specs.Accepted.{IsRecord, puzzle_of, EntryOn, Registered, Claimed, Room}

-- 2: a first word is a Futoshiki board of side 2 to 9
abbrev pub Opens : Item → Type 0
Opens (Board p N) = (p ≡ 1) × (2 ≤ N) × (N ≤ 9)
Opens (Given e) = ⊥
Opens (Claim e) = ⊥
Opens (Less s) = ⊥
Opens End = ⊥

-- 2: a later word is no board
abbrev pub NoBoard : Item → Type 0
NoBoard (Board p N) = ⊥
NoBoard (Given e) = Unit {0}
NoBoard (Claim e) = Unit {0}
NoBoard (Less s) = Unit {0}
NoBoard End = Unit {0}

-- 3: its cells and its value are in range
abbrev pub ItemRanged : ℕ → Item → Type 0
ItemRanged N (Board p M) = Unit {0}
ItemRanged N (Given e) = EntryOn N e
ItemRanged N (Claim e) = EntryOn N e
ItemRanged N (Less s) = OnBoard N s
ItemRanged N End = Unit {0}

-- 4: no record before it has its key
abbrev pub NewKey : Puzzle → Item → Type 0
NewKey P (Board p N) = Unit {0}
NewKey P (Given e) = AllByRecursion (λ g. SameCell e g → ⊥) P.givens
NewKey P (Claim e) = AllByRecursion (λ g. SameCell e g → ⊥) P.claims
NewKey P (Less s) = AllByRecursion (λ g. SamePair s g → ⊥) P.signs
NewKey P End = Unit {0}

-- 5: a sign's cells share a side
abbrev pub SideShared : ℕ → Item → Type 0
SideShared N (Board p M) = Unit {0}
SideShared N (Given e) = Unit {0}
SideShared N (Claim e) = Unit {0}
SideShared N (Less s) = SharingSide N s.lesser s.greater
SideShared N End = Unit {0}

-- 7: at the end word, every cell is claimed
abbrev pub ClaimsWhole : Puzzle → Item → Type 0
ClaimsWhole P (Board p N) = Unit {0}
ClaimsWhole P (Given e) = Unit {0}
ClaimsWhole P (Claim e) = Unit {0}
ClaimsWhole P (Less s) = Unit {0}
ClaimsWhole P End = Claimed P

-- 21: its table is not full
abbrev pub HasRoom : Tables → Puzzle → Item → Type 0
HasRoom t P (Board p N) = Unit {0}
HasRoom t P (Given e) = length P.givens < t.for_givens
HasRoom t P (Claim e) = length P.claims < t.for_claims
HasRoom t P (Less s) = length P.signs < t.for_signs
HasRoom t P End = Unit {0}

-- the conditions on a later word at place p, each with its fault, in the order in which they are tried
abbrev pub conditions : Tables → Puzzle → Bool → ℕ → Item → List (Fault × Type 0)
conditions t P ended p it =
    (BoardWord p, NoBoard it)
    ∷ (OutOfRange p, ItemRanged P.size it)
    ∷ (KeyPresent p, NewKey P it)
    ∷ (NoSideShared p, SideShared P.size it)
    ∷ (EndWord p, ended ≡ false)
    ∷ (ClaimMissing p, ClaimsWhole P it)
    ∷ (TableFull p, HasRoom t P it)
    ∷ []

-- f is the fault of the first that does not hold
abbrev pub FirstBroken : List (Fault × Type 0) → Fault → Type 0
FirstBroken [] f = ⊥
FirstBroken (c ∷ cs) f = ((c.1 → ⊥) × (f ≡ c.0)) ⊎ (c.1 × FirstBroken cs f)

-- a later word at place p breaks the conditions, first the one with fault f
abbrev pub Breaks : Tables → Puzzle → Bool → ℕ → Item → Fault → Type 0
Breaks t P ended p it f = FirstBroken (conditions t P ended p it) f

-- what was read without a fault: records in order that have room, and perhaps the end word, with every cell claimed
pub record InOrder (t : Tables) (N : ℕ) (items : List Item) (P : Puzzle) (ended : Bool) : Type 0 where
  pub records : List Item
  pub each : AllByRecursion IsRecord records
  pub made : P ≡ puzzle_of N records
  pub registered : Registered P
  pub room : Room t P
  pub read : ((ended ≡ false) × (items ≡ records)) ⊎ ((ended ≡ true) × (items ≡ records ++ End ∷ []) × Claimed P)

-- why reading stops at what is left, from place p on: no word is left and no end word came, or the next word says nothing, or it breaks a rule
abbrev pub Stop : Tables → Puzzle → Bool → ℕ → List ℕ → Fault → Type 0
Stop t P ended p [] f = (ended ≡ false) × (f ≡ EndWord p)
Stop t P ended p (w ∷ ws) f = (SaysNothing w × (f ≡ WordForm p)) ⊎ ((it : Item) × FitsBits it × (w ≡ item_word it) × Breaks t P ended p it f)

-- a list that starts with a board stops at a word, or after the last
pub record Stops (t : Tables) (ws : List ℕ) (f : Fault) : Type 0 where
  pub side : ℕ
  pub low : 2 ≤ side
  pub high : side ≤ 9
  pub items : List Item
  pub puzzle : Puzzle
  pub ended : Bool
  pub rest : List ℕ
  pub words : ws ≡ item_word (Board 1 side) ∷ (map item_word items ++ rest)
  pub in_order : InOrder t side items puzzle ended
  pub why : Stop t puzzle ended (2 + length items) rest f

-- why a first word is refused
abbrev pub FirstStop : ℕ → Fault → Type 0
FirstStop w f = (SaysNothing w × (f ≡ WordForm 1)) ⊎ ((it : Item) × FitsBits it × (w ≡ item_word it) × (Opens it → ⊥) × (f ≡ BoardWord 1))

-- a list is refused with a fault
abbrev pub Refused : Tables → List ℕ → Fault → Type 0
Refused t [] f = f ≡ EndWord 1
Refused t (w ∷ ws) f = FirstStop w f ⊎ Stops t (w ∷ ws) f

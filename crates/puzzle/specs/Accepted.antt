-- What a taken list is, in the puzzle's words.
use Rattle.std.specs.Prelude.{◌≡◌, ℕ, ◌*◌, ◌≤◌, List, [], ◌∷◌, ◌++◌, map, length}
use Rattle.std.specs.List.{AllByRecursion}
use Rattle.futoshiki.specs.declared.sign.Sign.{Sign}
use Rattle.futoshiki.specs.Board.{InRange, SharingSide}
use Rattle.futoshiki.specs.Rules.{OnBoard}
use Rattle.words.specs.declared.entry.Entry.{Entry}
use Rattle.words.specs.declared.item.Item.{Item}
use Rattle.words.specs.declared.item.Item.TheVariants.{Board, Given, Claim, Less, End}
use Rattle.words.specs.Layouts.{item_word}
use Rattle.puzzle.specs.Registers.{SameCell, SamePair, Once, Any}
use Rattle.puzzle.specs.Reading.{Puzzle, Tables}

-- a given, a claim or a sign
abbrev pub IsRecord : Item → Type 0
IsRecord (Board p N) = ⊥
IsRecord (Given e) = Unit {0}
IsRecord (Claim e) = Unit {0}
IsRecord (Less s) = Unit {0}
IsRecord End = ⊥

-- the givens among the words, in order; the claims; the signs
abbrev pub givens_of : List Item → List Entry
givens_of [] = []
givens_of (Board p N ∷ is) = givens_of is
givens_of (Given e ∷ is) = e ∷ givens_of is
givens_of (Claim e ∷ is) = givens_of is
givens_of (Less s ∷ is) = givens_of is
givens_of (End ∷ is) = givens_of is

abbrev pub claims_of : List Item → List Entry
claims_of [] = []
claims_of (Board p N ∷ is) = claims_of is
claims_of (Given e ∷ is) = claims_of is
claims_of (Claim e ∷ is) = e ∷ claims_of is
claims_of (Less s ∷ is) = claims_of is
claims_of (End ∷ is) = claims_of is

abbrev pub signs_of : List Item → List Sign
signs_of [] = []
signs_of (Board p N ∷ is) = signs_of is
signs_of (Given e ∷ is) = signs_of is
signs_of (Claim e ∷ is) = signs_of is
signs_of (Less s ∷ is) = s ∷ signs_of is
signs_of (End ∷ is) = signs_of is

-- the puzzle of side N that the records among the words give, each register in order of arrival
abbrev pub puzzle_of : ℕ → List Item → Puzzle
puzzle_of N is = record { size = N; givens = givens_of is; claims = claims_of is; signs = signs_of is }

-- a cell of the board and a value of it
abbrev pub EntryOn : ℕ → Entry → Type 0
EntryOn N e = InRange (N * N) e.cell × InRange N e.value

-- records on the board, none with the key of another, and signs between cells that share a side
pub record Registered (P : Puzzle) : Type 0 where
  pub givens_on : AllByRecursion (EntryOn P.size) P.givens
  pub claims_on : AllByRecursion (EntryOn P.size) P.claims
  pub signs_on : AllByRecursion (OnBoard P.size) P.signs
  pub givens_once : Once SameCell P.givens
  pub claims_once : Once SameCell P.claims
  pub signs_once : Once SamePair P.signs
  pub sides : AllByRecursion (λ s. SharingSide P.size s.lesser s.greater) P.signs

-- every cell of the board is claimed
abbrev pub Claimed : Puzzle → Type 0
Claimed P = (i : ℕ) → InRange (P.size * P.size) i → Any (λ e. e.cell ≡ i) P.claims

-- each table has room for its register
pub record Room (t : Tables) (P : Puzzle) : Type 0 where
  pub givens_fit : length P.givens ≤ t.for_givens
  pub claims_fit : length P.claims ≤ t.for_claims
  pub signs_fit : length P.signs ≤ t.for_signs

-- a puzzle that can be accepted
pub record Sound (P : Puzzle) : Type 0 where
  pub low : 2 ≤ P.size
  pub high : P.size ≤ 9
  pub registered : Registered P
  pub whole : Claimed P

-- the words are a Futoshiki board's, those of givens, claims and signs, and the end word, that and no more; the puzzle is sound, has these records in order of arrival, and the tables have room for it
pub record Accepted (t : Tables) (ws : List ℕ) (P : Puzzle) : Type 0 where
  pub items : List Item
  pub records : AllByRecursion IsRecord items
  pub words : ws ≡ item_word (Board 1 P.size) ∷ (map item_word items ++ item_word End ∷ [])
  pub made : P ≡ puzzle_of P.size items
  pub sound : Sound P
  pub room : Room t P

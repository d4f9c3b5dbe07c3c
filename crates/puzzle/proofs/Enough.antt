-- Tables for as many records as a board can have are never full.
use Rattle.std.proofs.Common.{◌≡◌, ℕ, ◌+◌, ◌<◌, ◌≤◌, Bool, ◌≢◌, ◌⊎◌, List, [], ◌∷◌, ◌++◌, length, Err, ap, inl, inr, arith}
use Rattle.std.specs.List.{AllByRecursion}
use Rattle.std.proofs.ByRecursion.{All-push}
use Rattle.std.proofs.lemmas.List.{length_push}
use Rattle.std.proofs.lemmas.Nat.{mul-le}
use Rattle.cnf.specs.declared.fault.Fault.{Fault}
use Rattle.cnf.specs.declared.fault.Fault.TheVariants.{BoardWord, OutOfRange, KeyPresent, NoSideShared, EndWord, ClaimMissing, TableFull}
use Rattle.futoshiki.specs.Board.{SharingSide}
use Rattle.futoshiki.specs.Rules.{OnBoard}
use Rattle.words.specs.declared.entry.Entry.{Entry}
use Rattle.words.specs.declared.item.Item.{Item}
use Rattle.words.specs.declared.item.Item.TheVariants.{Board, Given, Claim, Less, End}
use Rattle.puzzle.specs.Registers.{Once, SameCell, SamePair}
use Rattle.puzzle.specs.Reading.{Puzzle, Tables, read_list}
use Rattle.puzzle.specs.Accepted.{EntryOn, Registered}
use Rattle.puzzle.specs.Refused.{ItemRanged, NewKey, SideShared, HasRoom, Breaks, Stop, Refused}
use Rattle.puzzle.proofs.Keys.{turn_cell, turn_pair, once_push}
use Rattle.puzzle.proofs.Few.{few_entries, few_signs}
use Rattle.puzzle.proofs.Refusals.{refused_is}

one_more : (N : ℕ) (es : List Entry) (e : Entry) → N ≤ 9 → AllByRecursion (EntryOn N) es → EntryOn N e → Once SameCell es → AllByRecursion (λ g. SameCell e g → ⊥) es → length es < 81
one_more N es e high on o once new =
    omega (
      arith,
      few_entries N (es ++ e ∷ []) (once_push SameCell turn_cell es e once new) (All-push (EntryOn N) es e on o),
      length_push es e,
      mul-le N N 9 9 high high,
    )

-- a fault other than that of the first condition: the first holds, and one after it is broken
later : {C Rest : Type 0} {f g : Fault} → ((C → ⊥) × (f ≡ g)) ⊎ (C × Rest) → (f ≡ g → ⊥) → C × Rest
later h d = elim h [ inl x ↦ absurd (d x.1) | inr a ↦ a ]

module _ (t : Tables) (givens_fit : 81 ≤ t.for_givens) (claims_fit : 81 ≤ t.for_claims) (signs_fit : 162 ≤ t.for_signs) where
  room : (P : Puzzle) (it : Item) → 2 ≤ P.size → P.size ≤ 9 → Registered P → ItemRanged P.size it → NewKey P it → SideShared P.size it → HasRoom t P it
  room P (Board p N) low high reg r n s = tt
  room P (Given e) low high reg r n s = omega (arith, one_more P.size P.givens e high reg.givens_on r reg.givens_once n)
  room P (Claim e) low high reg r n s = omega (arith, one_more P.size P.claims e high reg.claims_on r reg.claims_once n)
  room P (Less g) low high reg r n s =
      omega (
        arith,
        few_signs P.size low (P.signs ++ g ∷ []) (All-push (OnBoard P.size) P.signs g reg.signs_on r) (All-push (λ s. SharingSide P.size s.lesser s.greater) P.signs g reg.sides s) (once_push SamePair turn_pair P.signs g reg.signs_once n),
        length_push P.signs g,
        mul-le P.size P.size 9 9 high high,
      )
  room P End low high reg r n s = tt

  not_full : (P : Puzzle) (b : Bool) (p q : ℕ) (it : Item) → 2 ≤ P.size → P.size ≤ 9 → Registered P → Breaks t P b q it (TableFull p) → ⊥
  not_full P b p q it low high reg h =
      let board = later h (λ (e : TableFull p ≡ BoardWord q). cc) in
      let range = later board.1 (λ (e : TableFull p ≡ OutOfRange q). cc) in
      let key = later range.1 (λ (e : TableFull p ≡ KeyPresent q). cc) in
      let side = later key.1 (λ (e : TableFull p ≡ NoSideShared q). cc) in
      let end = later side.1 (λ (e : TableFull p ≡ EndWord q). cc) in
      let whole = later end.1 (λ (e : TableFull p ≡ ClaimMissing q). cc) in
      elim whole.1 [ inl x ↦ x.0 (room P it low high reg range.0 key.0 side.0) | inr n ↦ n.1 ]

  never_full : (P : Puzzle) (b : Bool) (p q : ℕ) (ws : List ℕ) → 2 ≤ P.size → P.size ≤ 9 → Registered P → Stop t P b q ws (TableFull p) → ⊥
  never_full P b p q [] low high reg s = let e = s.1 in cc
  never_full P b p q (w ∷ ws) low high reg s = elim s [ inl a ↦ let e = a.1 in cc | inr a ↦ not_full P b p q a.0 low high reg a.3 ]

  never_refused : (ws : List ℕ) (p : ℕ) → Refused t ws (TableFull p) → ⊥
  never_refused [] p r = cc
  never_refused (w ∷ ws) p r =
      elim r [
        | inl a ↦ elim a [ inl b ↦ let e = b.1 in cc | inr b ↦ let e = b.4 in cc ]
        | inr s ↦ let e : s.puzzle.size ≡ s.side = ap (λ (Q : Puzzle). Q.size) s.in_order.made in
            never_full s.puzzle s.ended p (2 + length s.items) s.rest (omega (arith, s.low)) (omega (arith, s.high)) s.in_order.registered s.why
      ]

  pub tables_suffice : (ws : List ℕ) (p : ℕ) → read_list t ws ≢ Err (TableFull p)
  tables_suffice ws p h = never_refused ws p (refused_is t ws (TableFull p) h)

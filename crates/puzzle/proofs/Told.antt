-- Each test of a word decides its condition.
use Rattle.std.proofs.Common.{◌≡◌, ℕ, ◌*◌, ◌≤◌, true, false, ◌&&◌, eqb, leb, nat_eq, List, [], ◌∷◌, length, Decides, refl, arith}
use Rattle.std.specs.List.{AllByRecursion}
use Rattle.std.proofs.lemmas.Bool.{leb-true, le-leb, not-true, not_from_false, both_ways}
use Rattle.std.proofs.lemmas.Bool.Decides.{Decides-and, Decides-or, Decides-ltb, Decides-eqb}
use Rattle.futoshiki.specs.Board.{InRange, up_to}
use Rattle.futoshiki.specs.Rules.{in_range}
use Rattle.futoshiki.proofs.Lists.{all_counting, all_from_counting}
use Rattle.futoshiki.proofs.Adjacent.{shares, shared}
use Rattle.register.specs.Keys.{has_key}
use Rattle.words.specs.declared.entry.Entry.{Entry}
use Rattle.words.specs.declared.item.Item.{Item}
use Rattle.words.specs.declared.item.Item.TheVariants.{Board, Given, Claim, Less, End}
use Rattle.futoshiki.specs.Pairs.{pair_key, same_pair}
use Rattle.words.specs.Cells.{entry_key}
use Rattle.puzzle.specs.Registers.{SameCell, SamePair, Any}
use Rattle.puzzle.specs.Reading.{Puzzle, Tables, opens, no_board, item_ranged, new_key, side_shared, all_claimed, claims_whole, has_room}
use Rattle.puzzle.specs.Accepted.{Claimed}
use Rattle.puzzle.specs.Refused.{Opens, NoBoard, ItemRanged, NewKey, SideShared, ClaimsWhole, HasRoom}
use Rattle.puzzle.proofs.Keys.{told_cell, told_pair, absent, absent_from}

always : Decides true (Unit {0})
always = ((λ h. tt), λ h. refl)

never : Decides false ⊥
never = ((λ h. both_ways false refl h), λ h. absurd h)

told_leb : (a b : ℕ) → Decides (leb a b) (a ≤ b)
told_leb a b = (leb-true a b, le-leb a b)

told_in : (n k : ℕ) → Decides (in_range n k) (InRange n k)
told_in n k = Decides-and (leb 1 k) (leb k n) (told_leb 1 k) (told_leb k n)

pub told_opens : (it : Item) → Decides (opens it) (Opens it)
told_opens (Board p N) = (λ h. let q = both.0 h in (q.0.0, q.0.1, q.1), λ h. both.1 ((h.0, h.1), h.2))
  where
    both : Decides (eqb p 1 && leb 2 N && leb N 9) (((p ≡ 1) × (2 ≤ N)) × (N ≤ 9))
    both = Decides-and (eqb p 1 && leb 2 N) (leb N 9) (Decides-and (eqb p 1) (leb 2 N) (Decides-eqb p 1) (told_leb 2 N)) (told_leb N 9)
told_opens (Given e) = never
told_opens (Claim e) = never
told_opens (Less s) = never
told_opens End = never

pub told_board : (it : Item) → Decides (no_board it) (NoBoard it)
told_board (Board p N) = never
told_board (Given e) = always
told_board (Claim e) = always
told_board (Less s) = always
told_board End = always

pub told_range : (N : ℕ) (it : Item) → Decides (item_ranged N it) (ItemRanged N it)
told_range N (Board p M) = always
told_range N (Given e) = Decides-and _ _ (told_in (N * N) e.cell) (told_in N e.value)
told_range N (Claim e) = Decides-and _ _ (told_in (N * N) e.cell) (told_in N e.value)
told_range N (Less s) = Decides-and _ _ (told_in (N * N) s.lesser) (told_in (N * N) s.greater)
told_range N End = always

pub told_key : (P : Puzzle) (it : Item) → Decides (new_key P it) (NewKey P it)
told_key P (Board p N) = always
told_key P (Given e) = ((λ h. absent nat_eq entry_key SameCell told_cell e P.givens (not-true _ h)), λ h. not_from_false _ (absent_from nat_eq entry_key SameCell told_cell e P.givens h))
told_key P (Claim e) = ((λ h. absent nat_eq entry_key SameCell told_cell e P.claims (not-true _ h)), λ h. not_from_false _ (absent_from nat_eq entry_key SameCell told_cell e P.claims h))
told_key P (Less s) = ((λ h. absent same_pair pair_key SamePair told_pair s P.signs (not-true _ h)), λ h. not_from_false _ (absent_from same_pair pair_key SamePair told_pair s P.signs h))
told_key P End = always

pub told_side : (N : ℕ) (it : Item) → 1 ≤ N → ItemRanged N it → Decides (side_shared N it) (SideShared N it)
told_side N (Board p M) some r = always
told_side N (Given e) some r = always
told_side N (Claim e) some r = always
told_side N (Less s) some r = (shares N some s.lesser s.greater r.0 r.1, shared N s.lesser s.greater)
told_side N End some r = always

-- a cell is found among the claims exactly when one of them claims it
told_claimed : (es : List Entry) (i : ℕ) → Decides (has_key nat_eq entry_key es i) (Any (λ e. e.cell ≡ i) es)
told_claimed [] i = never
told_claimed (e ∷ es) i = Decides-or (nat_eq (entry_key e) i) (has_key nat_eq entry_key es i) (Decides-eqb e.cell i) (told_claimed es i)

told_all : (es : List Entry) (is : List ℕ) → Decides (all_claimed es is) (AllByRecursion (λ i. Any (λ e. e.cell ≡ i) es) is)
unfolding all_claimed
told_all es [] = always
told_all es (i ∷ is) = Decides-and (has_key nat_eq entry_key es i) (all_claimed es is) (told_claimed es i) (told_all es is)

whole_says : (P : Puzzle) → claims_whole P End ≡ true → Claimed P
whole_says P h i w = all_from_counting (λ j. Any (λ e. e.cell ≡ j) P.claims) 1 (P.size * P.size) ((told_all P.claims (up_to (P.size * P.size))).0 h) i w.0 (omega arith)

whole_from : (P : Puzzle) → Claimed P → claims_whole P End ≡ true
whole_from P h = (told_all P.claims (up_to (P.size * P.size))).1 (all_counting (λ j. Any (λ e. e.cell ≡ j) P.claims) 1 (P.size * P.size) (λ k p q. h k (p, omega arith)))

pub told_whole : (P : Puzzle) (it : Item) → Decides (claims_whole P it) (ClaimsWhole P it)
told_whole P (Board p N) = always
told_whole P (Given e) = always
told_whole P (Claim e) = always
told_whole P (Less s) = always
told_whole P End = (whole_says P, whole_from P)

pub told_room : (t : Tables) (P : Puzzle) (it : Item) → Decides (has_room t P it) (HasRoom t P it)
told_room t P (Board p N) = always
told_room t P (Given e) = Decides-ltb (length P.givens) t.for_givens
told_room t P (Claim e) = Decides-ltb (length P.claims) t.for_claims
told_room t P (Less s) = Decides-ltb (length P.signs) t.for_signs
told_room t P End = always

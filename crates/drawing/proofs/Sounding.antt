-- The puzzle that a well-drawn text draws is accepted from its words.
use Rattle.std.proofs.Common.{◌≡◌, ℕ, ◌*◌, ◌≤◌, true, false, cond, eqb, List, [], ◌∷◌, ◌++◌, map, length, sym, refl, ap, ◌∙◌, subst, arith}
use Rattle.std.specs.List.{flat_map, AllByRecursion}
use Rattle.std.proofs.lemmas.Nat.{mul-le}
use Rattle.std.proofs.lemmas.List.FromFn.{length-map-range_with_len}
use Rattle.std.proofs.ByRecursion.{All-append, All-map, All-weaker}
use Rattle.std.proofs.lemmas.List.{append-nil}
use Rattle.std.proofs.lemmas.List.Concat.{flat_map_single}
use Rattle.futoshiki.specs.declared.sign.Sign.{Sign}
use Rattle.futoshiki.specs.Board.{InRange, up_to, SharingSide}
use Rattle.futoshiki.specs.Rules.{OnBoard}
use Rattle.futoshiki.proofs.Lists.{all_joined, all_counting}
use Rattle.words.specs.declared.entry.Entry.{Entry}
use Rattle.words.specs.declared.item.Item.{Item}
use Rattle.words.specs.declared.item.Item.TheVariants.{Given, Claim, Less}
use Rattle.puzzle.specs.Registers.{SameCell, SamePair, Once}
use Rattle.puzzle.specs.Reading.{Puzzle, Tables}
use Rattle.puzzle.specs.Accepted.{IsRecord, givens_of, claims_of, signs_of, puzzle_of, EntryOn, Registered, Room, Sound}
use Rattle.drawing.specs.Drawn.{byte_before, drawn_entry, drawn_given, drawn_signs, drawn_puzzle, puzzle_items}
use Rattle.drawing.specs.Theorems.{WellDrawn, WordsAccepted}
use Rattle.drawing.proofs.Registering.{once_joined, once_short, length_joined, any_counted}
use Rattle.drawing.proofs.Signing.{SignOf, same_cells, signs_sound, cell_signs_once, two_signs}
use Rattle.drawing.proofs.Spots.{digit_drawn}

-- the records among givens, signs and claims are these
module _ (is : List Item) where
  givens_first : (es : List Entry) → givens_of (map Given es ++ is) ≡ es ++ givens_of is
  givens_first [] = refl
  givens_first (e ∷ es) = ap (λ l. e ∷ l) (givens_first es)

  givens_no_claims : (es : List Entry) → claims_of (map Given es ++ is) ≡ claims_of is
  givens_no_claims [] = refl
  givens_no_claims (e ∷ es) = givens_no_claims es

  givens_no_signs : (es : List Entry) → signs_of (map Given es ++ is) ≡ signs_of is
  givens_no_signs [] = refl
  givens_no_signs (e ∷ es) = givens_no_signs es

  signs_first : (ss : List Sign) → signs_of (map Less ss ++ is) ≡ ss ++ signs_of is
  signs_first [] = refl
  signs_first (s ∷ ss) = ap (λ l. s ∷ l) (signs_first ss)

  signs_no_givens : (ss : List Sign) → givens_of (map Less ss ++ is) ≡ givens_of is
  signs_no_givens [] = refl
  signs_no_givens (s ∷ ss) = signs_no_givens ss

  signs_no_claims : (ss : List Sign) → claims_of (map Less ss ++ is) ≡ claims_of is
  signs_no_claims [] = refl
  signs_no_claims (s ∷ ss) = signs_no_claims ss

claims_only : (es : List Entry) → claims_of (map Claim es) ≡ es
claims_only [] = refl
claims_only (e ∷ es) = ap (λ l. e ∷ l) (claims_only es)

claims_no_givens : (es : List Entry) → givens_of (map Claim es) ≡ []
claims_no_givens [] = refl
claims_no_givens (e ∷ es) = claims_no_givens es

claims_no_signs : (es : List Entry) → signs_of (map Claim es) ≡ []
claims_no_signs [] = refl
claims_no_signs (e ∷ es) = claims_no_signs es

items_give : (P : Puzzle) → P ≡ puzzle_of P.size (puzzle_items P)
items_give P =
    let g = P.givens in
    let s = P.signs in
    let c = P.claims in
    let rest = map Less s ++ map Claim c in
    let eg : givens_of (map Given g ++ rest) ≡ g = givens_first rest g ∙ ap (λ l. g ++ l) (signs_no_givens (map Claim c) s ∙ claims_no_givens c) ∙ append-nil g in
    let es : signs_of (map Given g ++ rest) ≡ s = givens_no_signs rest g ∙ signs_first (map Claim c) s ∙ ap (λ l. s ++ l) (claims_no_signs c) ∙ append-nil s in
    let ec : claims_of (map Given g ++ rest) ≡ c = givens_no_claims rest g ∙ signs_no_claims (map Claim c) s ∙ claims_only c in
    let with_givens : List Entry → Puzzle = λ l. record { size = P.size; givens = l; claims = c; signs = s } in
    let with_claims : List Entry → Puzzle = λ l. record { size = P.size; givens = givens_of (map Given g ++ rest); claims = l; signs = s } in
    let with_signs : List Sign → Puzzle = λ l. record { size = P.size; givens = givens_of (map Given g ++ rest); claims = claims_of (map Given g ++ rest); signs = l } in
    ap with_givens (sym eg) ∙ ap with_claims (sym ec) ∙ ap with_signs (sym es)

every : {A : Type 0} (xs : List A) → AllByRecursion (λ _. Unit {0}) xs
every [] = tt
every (x ∷ xs) = (tt, every xs)

all_records : (P : Puzzle) → AllByRecursion IsRecord (puzzle_items P)
all_records P =
    All-append IsRecord (map Given P.givens) (map Less P.signs ++ map Claim P.claims) (All-map IsRecord Given P.givens (every P.givens))
    (All-append IsRecord (map Less P.signs) (map Claim P.claims) (All-map IsRecord Less P.signs (every P.signs)) (All-map IsRecord Claim P.claims (every P.claims)))

-- a given is the cell's entry, and none stands twice in a cell
module _ (N : ℕ) (bytes : List ℕ) (i : ℕ) where
  all_given : (Q : Entry → Type 0) → Q (drawn_entry N bytes i) → AllByRecursion Q (drawn_given N bytes i)
  unfolding drawn_given
  all_given Q h = elim (eqb (byte_before N bytes i) 91) as (λ t. AllByRecursion Q (cond t (drawn_entry N bytes i ∷ []) [])) [ true ↦ (h, tt) | false ↦ tt ]

  few_givens : length (drawn_given N bytes i) ≤ 1
  unfolding drawn_given
  few_givens = elim (eqb (byte_before N bytes i) 91) as (λ t. length (cond t (drawn_entry N bytes i ∷ []) []) ≤ 1) [ true ↦ omega arith | false ↦ omega arith ]

  cell_drawn : (drawn_entry N bytes i).cell ≡ i
  unfolding drawn_entry
  cell_drawn = refl

module _ (N : ℕ) (bytes : List ℕ) (drawn : WellDrawn N bytes) where
  abbrev cells : List ℕ
  cells = up_to (N * N)

  entry_on : (i : ℕ) → InRange (N * N) i → EntryOn N (drawn_entry N bytes i)
  unfolding drawn_entry
  entry_on i on = let d = digit_drawn N bytes drawn i on in (on, (omega arith, omega arith))

  -- what holds of every cell of the board holds along its cells
  along : (Q : ℕ → Type 0) → ((i : ℕ) → InRange (N * N) i → Q i) → AllByRecursion Q cells
  along Q h = all_counting Q 1 (N * N) (λ i p q. h i (p, omega arith))

  givens_on : AllByRecursion (EntryOn N) (flat_map (drawn_given N bytes) cells)
  givens_on = all_joined (EntryOn N) (drawn_given N bytes) cells (along (λ i. AllByRecursion (EntryOn N) (drawn_given N bytes i)) (λ i on. all_given N bytes i (EntryOn N) (entry_on i on)))

  claims_on : AllByRecursion (EntryOn N) (map (drawn_entry N bytes) cells)
  claims_on = All-map (EntryOn N) (drawn_entry N bytes) cells (along (λ i. EntryOn N (drawn_entry N bytes i)) entry_on)

  abbrev EntryOf : ℕ → Entry → Type 0
  EntryOf i e = e.cell ≡ i

  same_cell : (i j : ℕ) (x y : Entry) → EntryOf i x → EntryOf j y → SameCell x y → i ≡ j
  same_cell i j x y p q s = sym p ∙ s ∙ q

  givens_once : Once SameCell (flat_map (drawn_given N bytes) cells)
  givens_once =
      once_joined SameCell EntryOf same_cell (drawn_given N bytes) 1 (N * N)
      (λ i _ _. all_given N bytes i (EntryOf i) (cell_drawn N bytes i))
      (λ i _ _. once_short SameCell (drawn_given N bytes i) (few_givens N bytes i))

  claims_once : Once SameCell (map (drawn_entry N bytes) cells)
  claims_once =
      subst (Once SameCell) (flat_map_single (drawn_entry N bytes) cells)
      (once_joined SameCell EntryOf same_cell (λ i. drawn_entry N bytes i ∷ []) 1 (N * N) (λ i _ _. (cell_drawn N bytes i, tt)) (λ i _ _. (tt, tt)))

  signs_all : (Q : Sign → Type 0) → ((i : ℕ) (s : Sign) → SignOf N i s → Q s) → AllByRecursion Q (flat_map (drawn_signs N bytes) cells)
  signs_all Q h =
      all_joined Q (drawn_signs N bytes) cells (along (λ i. AllByRecursion Q (drawn_signs N bytes i)) (λ i on. All-weaker (SignOf N i) Q (h i) (drawn_signs N bytes i) (signs_sound N bytes drawn i on)))

  signs_once : Once SamePair (flat_map (drawn_signs N bytes) cells)
  signs_once =
      once_joined SamePair (SignOf N) (λ i j x y p q s. sym p.0 ∙ (same_cells x y s).0 ∙ q.0) (drawn_signs N bytes) 1 (N * N)
      (λ i p q. signs_sound N bytes drawn i (p, omega arith))
      (λ i p q. cell_signs_once N bytes drawn i (p, omega arith))

  registered : Registered (drawn_puzzle N bytes)
  unfolding drawn_puzzle
  registered = record {
    givens_on = givens_on;
    claims_on = claims_on;
    signs_on = signs_all (OnBoard N) (λ i s h. h.1);
    givens_once = givens_once;
    claims_once = claims_once;
    signs_once = signs_once;
    sides = signs_all (λ s. SharingSide N s.lesser s.greater) (λ i s h. h.2);
  }

  sound : Sound (drawn_puzzle N bytes)
  unfolding drawn_puzzle
  sound = record {
    low = drawn.two_at_least;
    high = drawn.nine_at_most;
    registered = registered;
    whole = λ i on. any_counted (λ e. e.cell ≡ i) (drawn_entry N bytes) 1 (N * N) i on.0 (let h = on.1 in omega arith) (cell_drawn N bytes i);
  }

  room : (t : Tables) → 81 ≤ t.for_givens → 81 ≤ t.for_claims → 162 ≤ t.for_signs → Room t (drawn_puzzle N bytes)
  unfolding drawn_puzzle
  room t p q s =
      let h = drawn.nine_at_most in
      let board = mul-le N N 9 9 h h in
      record {
        givens_fit = omega (arith, length_joined (drawn_given N bytes) 1 1 (N * N) (few_givens N bytes));
        claims_fit = omega (arith, length-map-range_with_len (drawn_entry N bytes) 1 (N * N));
        signs_fit = omega (arith, length_joined (drawn_signs N bytes) 2 1 (N * N) (two_signs N bytes));
      }

  pub accepted_drawing : WordsAccepted N bytes
  accepted_drawing t p q s = record {
    items = puzzle_items (drawn_puzzle N bytes);
    records = all_records (drawn_puzzle N bytes);
    words = refl;
    made = items_give (drawn_puzzle N bytes);
    sound = sound;
    room = room t p q s;
  }

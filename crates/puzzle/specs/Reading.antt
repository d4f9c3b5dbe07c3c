-- Reading a list of words: each is tried in the order of the faults, and the first fault is the answer.
use Rattle.std.specs.Prelude.{ℕ, suc, ◌*◌, Bool, true, false, cond, not, ◌&&◌, ◌||◌, List, [], ◌∷◌, ◌++◌, length, Some, None, Ok, Err, Option, Result, ◌==◌, nat_eq, nat_le, nat_lt}
use Rattle.cnf.specs.declared.fault.Fault.{Fault}
use Rattle.cnf.specs.declared.fault.Fault.TheVariants.{WordForm, BoardWord, OutOfRange, KeyPresent, NoSideShared, EndWord, ClaimMissing, TableFull}
use Rattle.cnf.specs.Faults.{Answer, accepted, ◌then◌, check_for}
use Rattle.futoshiki.specs.declared.sign.Sign.{Sign}
use Rattle.futoshiki.specs.Board.{up_to, sharing_side}
use Rattle.futoshiki.specs.Rules.{in_range}
use Rattle.register.specs.Keys.{has_key}
use Rattle.words.specs.declared.entry.Entry.{Entry}
use Rattle.words.specs.declared.item.Item.{Item}
use Rattle.words.specs.declared.item.Item.TheVariants.{Board, Given, Claim, Less, End}
use Rattle.words.specs.Layouts.{decoded}
use Rattle.futoshiki.specs.Pairs.{pair_key, same_pair}
use Rattle.words.specs.Cells.{entry_key}

-- a puzzle: the side of its board, and its three registers
pub record Puzzle : Type 0 where
  pub size : ℕ
  pub givens : List Entry
  pub claims : List Entry
  pub signs : List Sign

-- how many records each of the caller's tables takes
pub record Tables : Type 0 where
  pub for_givens : ℕ
  pub for_claims : ℕ
  pub for_signs : ℕ

-- a board with nothing on it
abbrev pub blank_board : ℕ → Puzzle
blank_board N = record { size = N; givens = []; claims = []; signs = [] }

-- the puzzle with one more record, after those of its register
abbrev pub with_item : Puzzle → Item → Puzzle
with_item P (Board p N) = P
with_item P (Given e) = record { size = P.size; givens = P.givens ++ e ∷ []; claims = P.claims; signs = P.signs }
with_item P (Claim e) = record { size = P.size; givens = P.givens; claims = P.claims ++ e ∷ []; signs = P.signs }
with_item P (Less s) = record { size = P.size; givens = P.givens; claims = P.claims; signs = P.signs ++ s ∷ [] }
with_item P End = P

-- whether a word ends the list
abbrev pub ends_list : Item → Bool
ends_list (Board p N) = false
ends_list (Given e) = false
ends_list (Claim e) = false
ends_list (Less s) = false
ends_list End = true

-- what has been read: the puzzle so far, and whether the end word was among it
pub record State : Type 0 where
  pub so_far : Puzzle
  pub after_end : Bool

abbrev pub next_state : State → Item → State
next_state st it = record { so_far = with_item st.so_far it; after_end = st.after_end || ends_list it }

-- 2: a first word is a Futoshiki board of side 2 to 9
abbrev pub opens : Item → Bool
opens (Board p N) = p == 1 && nat_le 2 N && nat_le N 9
opens (Given e) = false
opens (Claim e) = false
opens (Less s) = false
opens End = false

-- the side that a board word gives
abbrev pub side_in : Item → ℕ
side_in (Board p N) = N
side_in (Given e) = 0
side_in (Claim e) = 0
side_in (Less s) = 0
side_in End = 0

-- 2: a later word is no board
abbrev pub no_board : Item → Bool
no_board (Board p N) = false
no_board (Given e) = true
no_board (Claim e) = true
no_board (Less s) = true
no_board End = true

-- whether an entry's cell is on the board and its value is one of 1 to N
abbrev pub entry_ranged : ℕ → Entry → Bool
entry_ranged N e = in_range (N * N) e.cell && in_range N e.value

-- 3: its cells and its value are in range
abbrev pub item_ranged : ℕ → Item → Bool
item_ranged N (Board p M) = true
item_ranged N (Given e) = entry_ranged N e
item_ranged N (Claim e) = entry_ranged N e
item_ranged N (Less s) = in_range (N * N) s.lesser && in_range (N * N) s.greater
item_ranged N End = true

-- 4: its register has no record with its key
abbrev pub new_key : Puzzle → Item → Bool
new_key P (Board p N) = true
new_key P (Given e) = not (has_key nat_eq entry_key P.givens (entry_key e))
new_key P (Claim e) = not (has_key nat_eq entry_key P.claims (entry_key e))
new_key P (Less s) = not (has_key same_pair pair_key P.signs (pair_key s))
new_key P End = true

-- 5: a sign's cells share a side
abbrev pub side_shared : ℕ → Item → Bool
side_shared N (Board p M) = true
side_shared N (Given e) = true
side_shared N (Claim e) = true
side_shared N (Less s) = sharing_side N s.lesser s.greater
side_shared N End = true

-- whether each cell of a list is claimed
unfoldable pub all_claimed : List Entry → List ℕ → Bool
all_claimed es [] = true
all_claimed es (i ∷ is) = has_key nat_eq entry_key es i && all_claimed es is

-- 7: at the end word, no cell lacks its claim
abbrev pub claims_whole : Puzzle → Item → Bool
claims_whole P (Board p N) = true
claims_whole P (Given e) = true
claims_whole P (Claim e) = true
claims_whole P (Less s) = true
claims_whole P End = all_claimed P.claims (up_to (P.size * P.size))

-- 21: its table is not full
abbrev pub has_room : Tables → Puzzle → Item → Bool
has_room t P (Board p N) = true
has_room t P (Given e) = nat_lt (length P.givens) t.for_givens
has_room t P (Claim e) = nat_lt (length P.claims) t.for_claims
has_room t P (Less s) = nat_lt (length P.signs) t.for_signs
has_room t P End = true

-- what a later word at place p is tried for, each test with its fault, in order
abbrev pub tests : Tables → State → ℕ → Item → List (Fault × Bool)
tests t st p it =
    (BoardWord p, no_board it)
    ∷ (OutOfRange p, item_ranged st.so_far.size it)
    ∷ (KeyPresent p, new_key st.so_far it)
    ∷ (NoSideShared p, side_shared st.so_far.size it)
    ∷ (EndWord p, not st.after_end)
    ∷ (ClaimMissing p, claims_whole st.so_far it)
    ∷ (TableFull p, has_room t st.so_far it)
    ∷ []

-- the first test that fails gives the answer
unfoldable pub first_failed : List (Fault × Bool) → Answer
first_failed [] = accepted
first_failed (b ∷ bs) = check_for b.1 b.0 then first_failed bs

-- the answer to a later word at place p
abbrev pub item_answer : Tables → State → ℕ → Item → Answer
item_answer t st p it = first_failed (tests t st p it)

-- the answer to a first word
abbrev pub opening_answer : Item → Answer
opening_answer it = check_for (opens it) (BoardWord 1)

-- the answer to a list: the puzzle that it gives, or a fault
abbrev pub Verdict : Type 0
Verdict = Result Puzzle Fault

-- a fault stands, and what is accepted is read on from
abbrev pub read_on : Answer → Verdict → Verdict
read_on (Ok x) r = r
read_on (Err f) r = Err f

-- one word at place p, by what it says: 1 where it says nothing
abbrev pub read_item : Option Item → ℕ → (Item → Answer) → (Item → Verdict) → Verdict
read_item None p answer rest = Err (WordForm p)
read_item (Some it) p answer rest = read_on (answer it) (rest it)

-- the words after the first, from place p on: 6 after the last where no end word came
unfoldable pub read_from : Tables → State → ℕ → List ℕ → Verdict
read_from t st p [] = cond st.after_end (Ok st.so_far) (Err (EndWord p))
read_from t st p (w ∷ ws) = read_item (decoded w) p (item_answer t st p) (λ it. read_from t (next_state st it) (suc p) ws)

-- what has been read when the board is
abbrev pub opened : ℕ → State
opened N = record { so_far = blank_board N; after_end = false }

-- a whole list
unfoldable pub read_list : Tables → List ℕ → Verdict
read_list t [] = Err (EndWord 1)
read_list t (w ∷ ws) = read_item (decoded w) 1 opening_answer (λ it. read_from t (opened (side_in it)) 2 ws)

-- Whole lists: taken exactly when they are as they should be.
use Rattle.std.proofs.Common.{◌≡◌, ℕ, suc, ◌+◌, ◌≤◌, true, false, ◌&&◌, eqb, leb, ◌↔◌, List, [], ◌∷◌, ◌++◌, map, length, Some, None, Ok, Err, Option, sym, refl, ap, ◌∙◌, subst, arith}
use Rattle.std.specs.List.{AllByRecursion}
use Rattle.std.proofs.lemmas.Bool.{and_parts, and_from, leb-true, le-leb, eqb-true, both_ways}
use Rattle.cnf.specs.declared.fault.Fault.{Fault}
use Rattle.cnf.specs.declared.fault.Fault.TheVariants.{WordForm, BoardWord, EndWord}
use Rattle.cnf.specs.Faults.{Answer, accepted}
use Rattle.cnf.proofs.Accepting.{check_passed}
use Rattle.words.specs.declared.item.Item.{Item}
use Rattle.words.specs.declared.item.Item.TheVariants.{Board, Given, Claim, Less, End}
use Rattle.words.specs.Layouts.{decoded, item_word, FitsBits}
use Rattle.words.proofs.Layouting.{decoded_word, word_decoded}
use Rattle.puzzle.specs.Reading.{Puzzle, Tables, State, Verdict, blank_board, with_item, next_state, opens, side_in, opening_answer, item_answer, read_on, read_item, read_from, read_list}
use Rattle.puzzle.specs.Accepted.{IsRecord, puzzle_of, Registered, Claimed, Room, Accepted}
use Rattle.puzzle.proofs.Admission.{Admissible, admissible, admitted}
use Rattle.puzzle.proofs.Gathered.{gathered, gathered_is, registered_more, room_more, admit, fits}

-- a puzzle that is being read
abbrev pub reading : Puzzle → State
reading P = record { so_far = P; after_end = false }

-- what is left of a taken list, read from a puzzle on
record Rest (t : Tables) (P₀ : Puzzle) (ws : List ℕ) (P : Puzzle) : Type 0 where
  items : List Item
  records : AllByRecursion IsRecord items
  words : ws ≡ map item_word items ++ item_word End ∷ []
  made : P ≡ gathered P₀ items
  registered : Registered P
  room : Room t P
  whole : Claimed P

pub not_taken : (f : Fault) (P : Puzzle) → ◌≡◌ {A = Verdict} (Err f) (Ok P) → ⊥
not_taken f P h = cc

read_on_parts : (a : Answer) (r : Verdict) (P : Puzzle) → read_on a r ≡ Ok P → (a ≡ accepted) × (r ≡ Ok P)
read_on_parts (Ok tt) r P h = (refl, h)
read_on_parts (Err f) r P h = absurd (not_taken f P h)

-- one word of a taken list
read_item_parts : (o : Option Item) (p : ℕ) (answer : Item → Answer) (rest : Item → Verdict) (P : Puzzle) → read_item o p answer rest ≡ Ok P → (it : Item) × (o ≡ Some it) × (answer it ≡ accepted) × (rest it ≡ Ok P)
read_item_parts None p answer rest P h = absurd (not_taken (WordForm p) P h)
read_item_parts (Some it) p answer rest P h = let q = read_on_parts (answer it) (rest it) P h in (it, refl, q.0, q.1)

-- nothing comes after the end word
none_after : (t : Tables) (Q : Puzzle) (p : ℕ) (ws : List ℕ) (P : Puzzle) → 1 ≤ Q.size → read_from t (record { so_far = Q; after_end = true }) p ws ≡ Ok P → (ws ≡ []) × (P ≡ Q)
unfolding read_from
none_after t Q p [] P some h = (refl, cc)
none_after t Q p (w ∷ ws) P some h =
    let q = read_item_parts (decoded w) p _ _ P h in
    absurd (both_ways true (admissible t (record { so_far = Q; after_end = true }) p q.0 some q.2).0 refl)

extend : (t : Tables) (P₀ : Puzzle) (w : ℕ) (ws : List ℕ) (P : Puzzle) (it : Item) → IsRecord it → decoded w ≡ Some it → Rest t (with_item P₀ it) ws P → Rest t P₀ (w ∷ ws) P
extend t P₀ w ws P it i e r =
    let e₀ = word_decoded w it e in
    let e₁ = r.words in
    record {
      items = it ∷ r.items;
      records = (i, r.records);
      words = cc;
      made = r.made;
      registered = r.registered;
      room = r.room;
      whole = r.whole;
    }

forth : (t : Tables) (P₀ : Puzzle) (p : ℕ) (ws : List ℕ) (P : Puzzle) → 1 ≤ P₀.size → Registered P₀ → Room t P₀ → read_from t (reading P₀) p ws ≡ Ok P → Rest t P₀ ws P
unfolding read_from
forth t P₀ p [] P some reg room h = absurd (not_taken (EndWord p) P h)
forth t P₀ p (w ∷ ws) P some reg room h =
    let q = read_item_parts (decoded w) p (item_answer t (reading P₀) p) _ P h in
    go (λ Q s r m k. forth t Q (suc p) ws P s r m k) q.0 q.1 (admissible t (reading P₀) p q.0 some q.2).1 q.3
  where
    go : ((Q : Puzzle) → 1 ≤ Q.size → Registered Q → Room t Q → read_from t (reading Q) (suc p) ws ≡ Ok P → Rest t Q ws P) → (it : Item) → decoded w ≡ Some it → Admissible t P₀ it → read_from t (next_state (reading P₀) it) (suc p) ws ≡ Ok P → Rest t P₀ (w ∷ ws) P
    go ih (Board x N) e a k = absurd a.later
    go ih (Given x) e a k = extend t P₀ w ws P (Given x) tt e (ih (with_item P₀ (Given x)) some (registered_more t P₀ (Given x) a reg) (room_more t P₀ (Given x) a room) k)
    go ih (Claim x) e a k = extend t P₀ w ws P (Claim x) tt e (ih (with_item P₀ (Claim x)) some (registered_more t P₀ (Claim x) a reg) (room_more t P₀ (Claim x) a room) k)
    go ih (Less s) e a k = extend t P₀ w ws P (Less s) tt e (ih (with_item P₀ (Less s)) some (registered_more t P₀ (Less s) a reg) (room_more t P₀ (Less s) a room) k)
    go ih End e a k =
        let last = none_after t P₀ (suc p) ws P some k in
        let e₀ = word_decoded w End e in
        let e₁ = last.0 in
        record {
          items = [];
          records = tt;
          words = cc;
          made = last.1;
          registered = subst Registered (sym last.1) reg;
          room = subst (Room t) (sym last.1) room;
          whole = subst Claimed (sym last.1) a.whole;
        }

-- a blank board is in order
pub blank_registered : (N : ℕ) → Registered (blank_board N)
blank_registered N = record { givens_on = tt; claims_on = tt; signs_on = tt; givens_once = tt; claims_once = tt; signs_once = tt; sides = tt }

pub blank_room : (t : Tables) (N : ℕ) → Room t (blank_board N)
blank_room t N = record { givens_fit = omega arith; claims_fit = omega arith; signs_fit = omega arith }

pub taken_is : (t : Tables) (ws : List ℕ) (P : Puzzle) → read_list t ws ≡ Ok P → Accepted t ws P
unfolding read_list
taken_is t [] P h = absurd (not_taken (EndWord 1) P h)
taken_is t (w ∷ ws) P h =
    let q = read_item_parts (decoded w) 1 opening_answer _ P h in
    go q.0 q.1 (check_passed (opens q.0) (BoardWord 1) q.2) q.3
  where
    go : (it : Item) → decoded w ≡ Some it → opens it ≡ true → read_from t (reading (blank_board (side_in it))) 2 ws ≡ Ok P → Accepted t (w ∷ ws) P
    go (Board p N) e o k =
        let a = and_parts (eqb p 1 && leb 2 N) (leb N 9) o in
        let b = and_parts (eqb p 1) (leb 2 N) a.0 in
        let low = leb-true 2 N b.1 in
        let high = leb-true N 9 a.1 in
        let r = forth t (blank_board N) 2 ws P (omega arith) (blank_registered N) (blank_room t N) k in
        let made₀ : P ≡ puzzle_of N r.items = r.made ∙ gathered_is (blank_board N) r.items in
        let side₀ : P.size ≡ N = ap (λ (Q : Puzzle). Q.size) made₀ in
        let e₀ : w ≡ item_word (Board 1 P.size) = word_decoded w (Board p N) e ∙ ap (λ x. item_word (Board x N)) (eqb-true p 1 b.0) ∙ ap (λ x. item_word (Board 1 x)) (sym side₀) in
        let e₁ = r.words in
        record {
          items = r.items;
          records = r.records;
          words = cc;
          made = made₀ ∙ ap (λ x. puzzle_of x r.items) (sym side₀);
          sound = record { low = omega arith; high = omega arith; registered = r.registered; whole = r.whole };
          room = r.room;
        }
    go (Given x) e o k = absurd (both_ways false refl o)
    go (Claim x) e o k = absurd (both_ways false refl o)
    go (Less x) e o k = absurd (both_ways false refl o)
    go End e o k = absurd (both_ways false refl o)

-- an admissible item's word is read on from
pub step : (t : Tables) (P₀ : Puzzle) (p : ℕ) (it : Item) (ws : List ℕ) (r : Verdict) → 1 ≤ P₀.size → P₀.size ≤ 9 → Admissible t P₀ it → read_from t (next_state (reading P₀) it) (suc p) ws ≡ r → read_from t (reading P₀) p (item_word it ∷ ws) ≡ r
unfolding read_from
step t P₀ p it ws r some high a h = rw (decoded_word it (fits t P₀ it high a), admitted t (reading P₀) p it some refl a) h

at_end : (t : Tables) (Q : Puzzle) (p : ℕ) → read_from t (record { so_far = Q; after_end = true }) p [] ≡ Ok Q
unfolding read_from
at_end t Q p = refl

-- records in order are read
pub prefix : (t : Tables) (is : List Item) (P₀ : Puzzle) (p : ℕ) (rest : List ℕ) → AllByRecursion IsRecord is → 1 ≤ P₀.size → P₀.size ≤ 9 → Registered (gathered P₀ is) → Room t (gathered P₀ is) → read_from t (reading P₀) p (map item_word is ++ rest) ≡ read_from t (reading (gathered P₀ is)) (p + length is) rest
prefix t [] P₀ p rest all some high reg room = ap (λ x. read_from t (reading P₀) x rest) (omega arith)
prefix t (it ∷ is) P₀ p rest all some high reg room =
    let a = admit t P₀ it is all.0 (subst Registered (gathered_is P₀ (it ∷ is)) reg) (subst (Room t) (gathered_is P₀ (it ∷ is)) room) in
    go (λ Q s h r m. prefix t is Q (suc p) rest all.1 s h r m) it all.0 a reg room ∙ ap (λ x. read_from t (reading (gathered (with_item P₀ it) is)) x rest) (omega arith)
  where
    go : ((Q : Puzzle) → 1 ≤ Q.size → Q.size ≤ 9 → Registered (gathered Q is) → Room t (gathered Q is) → read_from t (reading Q) (suc p) (map item_word is ++ rest) ≡ read_from t (reading (gathered Q is)) (suc p + length is) rest) → (it : Item) → IsRecord it → Admissible t P₀ it → Registered (gathered (with_item P₀ it) is) → Room t (gathered (with_item P₀ it) is) → read_from t (reading P₀) p (item_word it ∷ (map item_word is ++ rest)) ≡ read_from t (reading (gathered (with_item P₀ it) is)) (suc p + length is) rest
    go ih (Board x N) i a r m = absurd i
    go ih (Given x) i a r m = step t P₀ p (Given x) _ _ some high a (ih (with_item P₀ (Given x)) some high r m)
    go ih (Claim x) i a r m = step t P₀ p (Claim x) _ _ some high a (ih (with_item P₀ (Claim x)) some high r m)
    go ih (Less x) i a r m = step t P₀ p (Less x) _ _ some high a (ih (with_item P₀ (Less x)) some high r m)
    go ih End i a r m = absurd i

pub is_taken : (t : Tables) (ws : List ℕ) (P : Puzzle) → Accepted t ws P → read_list t ws ≡ Ok P
unfolding read_list
is_taken t ws P a =
    let N = P.size in
    let e : P ≡ gathered (blank_board N) a.items = a.made ∙ sym (gathered_is (blank_board N) a.items) in
    let o : opens (Board 1 N) ≡ true = and_from _ _ (and_from (eqb 1 1) (leb 2 N) refl (le-leb 2 N a.sound.low)) (le-leb N 9 a.sound.high) in
    let reg = subst Registered e a.sound.registered in
    let room = subst (Room t) e a.room in
    let whole = subst Claimed e a.sound.whole in
    let Q = gathered (blank_board N) a.items in
    let len = 2 + length a.items in
    let side_is : Q.size ≡ N = ap (λ (P : Puzzle). P.size) (sym e) in
    let last : Admissible t Q End = record { later = tt; ranged = tt; new = tt; sided = tt; whole = whole; room = tt } in
    let r = prefix t a.items (blank_board N) 2 (item_word End ∷ []) a.records (omega (arith, a.sound.low)) a.sound.high reg room ∙ step t Q len End [] (Ok Q) (omega (arith, a.sound.low)) (omega (arith, a.sound.high)) last (at_end t Q (suc len)) in
    let f : FitsBits (Board 1 N) = (omega arith, omega (arith, a.sound.high)) in
    rw (a.words, decoded_word (Board 1 N) f, o) (r ∙ ap Ok (sym e))

pub taken_lists : (t : Tables) (ws : List ℕ) (P : Puzzle) → (read_list t ws ≡ Ok P) ↔ Accepted t ws P
taken_lists t ws P = (taken_is t ws P, is_taken t ws P)

-- Whole lists: refused with a fault exactly when that is the first.
use Rattle.std.proofs.Common.{◌≡◌, ℕ, suc, ◌+◌, ◌≤◌, Bool, true, false, ◌⊎◌, ◌↔◌, List, [], ◌∷◌, ◌++◌, map, length, Some, None, Ok, Err, Option, sym, refl, ap, ◌∙◌, subst, inl, inr, ⊎_elim, append_assoc, arith}
use Rattle.std.specs.List.{AllByRecursion}
use Rattle.std.proofs.lemmas.List.{map-append, length_push}
use Rattle.std.proofs.lemmas.Bool.{both_ways}
use Rattle.std.proofs.lemmas.Bool.Decides.{not_from_Decides}
use Rattle.cnf.specs.declared.fault.Fault.{Fault}
use Rattle.cnf.specs.declared.fault.Fault.TheVariants.{BoardWord}
use Rattle.cnf.specs.Faults.{Answer, accepted, check_for}
use Rattle.words.specs.declared.item.Item.{Item}
use Rattle.words.specs.declared.item.Item.TheVariants.{Board, Given, Claim, Less, End}
use Rattle.words.specs.Layouts.{decoded, item_word, FitsBits}
use Rattle.words.proofs.Layouting.{layouts, decoded_word, word_decoded, says_nothing, nothing_said}
use Rattle.puzzle.specs.Reading.{Puzzle, Tables, State, Verdict, blank_board, with_item, next_state, opens, side_in, opening_answer, item_answer, read_on, read_item, read_from, read_list}
use Rattle.puzzle.specs.Accepted.{IsRecord, Registered, Claimed, Room}
use Rattle.puzzle.specs.Refused.{Opens, InOrder, Stop, Stops, Refused}
use Rattle.puzzle.proofs.Keys.{false_from_decides}
use Rattle.puzzle.proofs.Told.{told_opens}
use Rattle.puzzle.proofs.Faults.{breaks, breaks_back}
use Rattle.puzzle.proofs.Admission.{Admissible, admissible}
use Rattle.puzzle.proofs.Gathered.{gathered, gathered_is, registered_more, room_more}
use Rattle.puzzle.proofs.Whole.{reading, step, prefix, blank_registered, blank_room}

-- a word is accepted and then read on from
abbrev Onward : Tables → State → ℕ → ℕ → (Item → Verdict) → Fault → Type 0
Onward t st p w rest f = (it : Item) × (decoded w ≡ Some it) × (item_answer t st p it ≡ accepted) × (rest it ≡ Err f)

-- a word at which reading stops, or that is read on from
stop_here : (t : Tables) (st : State) (p w : ℕ) (ws : List ℕ) (f : Fault) (rest : Item → Verdict) → 1 ≤ st.so_far.size → read_item (decoded w) p (item_answer t st p) rest ≡ Err f → Stop t st.so_far st.after_end p (w ∷ ws) f ⊎ Onward t st p w rest f
stop_here t st p w ws f rest some h = go (decoded w) refl h
  where
    by_answer : (it : Item) → decoded w ≡ Some it → (a : Answer) → item_answer t st p it ≡ a → read_on a (rest it) ≡ Err f → Stop t st.so_far st.after_end p (w ∷ ws) f ⊎ Onward t st p w rest f
    by_answer it e (Ok tt) a h = inr (it, e, a, h)
    by_answer it e (Err g) a h =
        let g_is : g ≡ f = cc in
        let l = (layouts w it).0 e in
        inl (inr (it, l.1, l.0, breaks t st p it some f (a ∙ ap Err g_is)))

    go : (o : Option Item) → decoded w ≡ o → read_item o p (item_answer t st p) rest ≡ Err f → Stop t st.so_far st.after_end p (w ∷ ws) f ⊎ Onward t st p w rest f
    go None e h = inl (inl (says_nothing w e, cc))
    go (Some it) e h = by_answer it e (item_answer t st p it) refl h

-- reading that stops, from a puzzle on
record Halts (t : Tables) (P₀ : Puzzle) (p : ℕ) (ws : List ℕ) (f : Fault) : Type 0 where
  items : List Item
  puzzle : Puzzle
  ended : Bool
  rest : List ℕ
  records : List Item
  each : AllByRecursion IsRecord records
  words : ws ≡ map item_word items ++ rest
  made : puzzle ≡ gathered P₀ records
  registered : Registered puzzle
  room : Room t puzzle
  read : ((ended ≡ false) × (items ≡ records)) ⊎ ((ended ≡ true) × (items ≡ records ++ End ∷ []) × Claimed puzzle)
  why : Stop t puzzle ended (p + length items) rest f

-- the same stop, where a place is counted in another way
moved : (t : Tables) (P : Puzzle) (b : Bool) (p q : ℕ) (ws : List ℕ) (f : Fault) → p ≡ q → Stop t P b p ws f → Stop t P b q ws f
moved t P b p q ws f e s = subst (λ x. Stop t P b x ws f) e s

here : (t : Tables) (P₀ : Puzzle) (p : ℕ) (ws : List ℕ) (f : Fault) → Registered P₀ → Room t P₀ → Stop t P₀ false p ws f → Halts t P₀ p ws f
here t P₀ p ws f reg room s = record {
  items = [];
  puzzle = P₀;
  ended = false;
  rest = ws;
  records = [];
  each = tt;
  words = refl;
  made = refl;
  registered = reg;
  room = room;
  read = inl (refl, refl);
  why = moved t P₀ false p (p + 0) ws f (omega arith) s;
}

onward : (t : Tables) (P₀ : Puzzle) (p w : ℕ) (ws : List ℕ) (f : Fault) (it : Item) → IsRecord it → decoded w ≡ Some it → Halts t (with_item P₀ it) (suc p) ws f → Halts t P₀ p (w ∷ ws) f
onward t P₀ p w ws f it i e r =
    let e₀ = word_decoded w it e in
    let e₁ = r.words in
    record {
      items = it ∷ r.items;
      puzzle = r.puzzle;
      ended = r.ended;
      rest = r.rest;
      records = it ∷ r.records;
      each = (i, r.each);
      words = cc;
      made = r.made;
      registered = r.registered;
      room = r.room;
      read = elim r.read [ inl a ↦ inl (a.0, ap (λ x. it ∷ x) a.1) | inr a ↦ inr (a.0, ap (λ x. it ∷ x) a.1, a.2) ];
      why = moved t r.puzzle r.ended (suc p + length r.items) (p + suc (length r.items)) r.rest f (omega arith) r.why;
    }

-- after the end word reading stops at the next word
past : (t : Tables) (P₀ : Puzzle) (p : ℕ) (ws : List ℕ) (f : Fault) → 1 ≤ P₀.size → read_from t (record { so_far = P₀; after_end = true }) p ws ≡ Err f → Stop t P₀ true p ws f
unfolding read_from
past t P₀ p [] f some h = cc
past t P₀ p (w ∷ ws) f some h =
    elim (stop_here t (record { so_far = P₀; after_end = true }) p w ws f _ some h) [
      | inl s ↦ s
      | inr a ↦ absurd (both_ways true (admissible t (record { so_far = P₀; after_end = true }) p a.0 some a.2).0 refl)
    ]

halts : (t : Tables) (P₀ : Puzzle) (p : ℕ) (ws : List ℕ) (f : Fault) → 1 ≤ P₀.size → Registered P₀ → Room t P₀ → read_from t (reading P₀) p ws ≡ Err f → Halts t P₀ p ws f
unfolding read_from
halts t P₀ p [] f some reg room h = here t P₀ p [] f reg room (refl, cc)
halts t P₀ p (w ∷ ws) f some reg room h =
    ⊎_elim
    (λ (s : Stop t P₀ false p (w ∷ ws) f). here t P₀ p (w ∷ ws) f reg room s)
    (λ (a : Onward t (reading P₀) p w (λ it. read_from t (next_state (reading P₀) it) (suc p) ws) f).
    go (λ Q s r m h. halts t Q (suc p) ws f s r m h) a.0 a.1 (admissible t (reading P₀) p a.0 some a.2).1 a.3)
    (stop_here t (reading P₀) p w ws f _ some h)
  where
    go : ((Q : Puzzle) → 1 ≤ Q.size → Registered Q → Room t Q → read_from t (reading Q) (suc p) ws ≡ Err f → Halts t Q (suc p) ws f) → (it : Item) → decoded w ≡ Some it → Admissible t P₀ it → read_from t (next_state (reading P₀) it) (suc p) ws ≡ Err f → Halts t P₀ p (w ∷ ws) f
    go ih (Board x N) e a h = absurd a.later
    go ih (Given x) e a h = onward t P₀ p w ws f (Given x) tt e (ih (with_item P₀ (Given x)) some (registered_more t P₀ (Given x) a reg) (room_more t P₀ (Given x) a room) h)
    go ih (Claim x) e a h = onward t P₀ p w ws f (Claim x) tt e (ih (with_item P₀ (Claim x)) some (registered_more t P₀ (Claim x) a reg) (room_more t P₀ (Claim x) a room) h)
    go ih (Less x) e a h = onward t P₀ p w ws f (Less x) tt e (ih (with_item P₀ (Less x)) some (registered_more t P₀ (Less x) a reg) (room_more t P₀ (Less x) a room) h)
    go ih End e a h =
        let e₀ = word_decoded w End e in
        record {
          items = End ∷ [];
          puzzle = P₀;
          ended = true;
          rest = ws;
          records = [];
          each = tt;
          words = cc;
          made = refl;
          registered = reg;
          room = room;
          read = inr (refl, refl, a.whole);
          why = moved t P₀ true (suc p) (p + 1) ws f (omega arith) (past t P₀ (suc p) ws f some h);
        }

-- a first word, refused or read on from
pub refused_is : (t : Tables) (ws : List ℕ) (f : Fault) → read_list t ws ≡ Err f → Refused t ws f
unfolding read_list
refused_is t [] f h = cc
refused_is t (w ∷ ws) f h = by_item (decoded w) refl h
  where
    from_board : (it : Item) → decoded w ≡ Some it → Opens it → read_from t (reading (blank_board (side_in it))) 2 ws ≡ Err f → Refused t (w ∷ ws) f
    from_board (Board x N) e o h =
        let r = halts t (blank_board N) 2 ws f (omega (arith, o.1)) (blank_registered N) (blank_room t N) h in
        let e₀ : w ≡ item_word (Board 1 N) = word_decoded w (Board x N) e ∙ ap (λ y. item_word (Board y N)) o.0 in
        let e₁ = r.words in
        inr (record {
          side = N;
          low = o.1;
          high = o.2;
          items = r.items;
          puzzle = r.puzzle;
          ended = r.ended;
          rest = r.rest;
          words = cc;
          in_order = record { records = r.records; each = r.each; made = r.made ∙ gathered_is (blank_board N) r.records; registered = r.registered; room = r.room; read = r.read };
          why = r.why;
        })
    from_board (Given x) e o h = absurd o
    from_board (Claim x) e o h = absurd o
    from_board (Less x) e o h = absurd o
    from_board End e o h = absurd o

    by_test : (it : Item) → decoded w ≡ Some it → (b : Bool) → opens it ≡ b → read_on (check_for b (BoardWord 1)) (read_from t (reading (blank_board (side_in it))) 2 ws) ≡ Err f → Refused t (w ∷ ws) f
    by_test it e true o h = from_board it e ((told_opens it).0 o) h
    by_test it e false o h =
        let l = (layouts w it).0 e in
        inl (inr (it, l.1, l.0, not_from_Decides (opens it) (told_opens it) o, cc))

    by_item : (o : Option Item) → decoded w ≡ o → read_item o 1 opening_answer (λ it. read_from t (reading (blank_board (side_in it))) 2 ws) ≡ Err f → Refused t (w ∷ ws) f
    by_item None e h = inl (inl (says_nothing w e, cc))
    by_item (Some it) e h = by_test it e (opens it) refl h

stopped : (t : Tables) (P : Puzzle) (b : Bool) (p : ℕ) (ws : List ℕ) (f : Fault) → 1 ≤ P.size → Stop t P b p ws f → read_from t (record { so_far = P; after_end = b }) p ws ≡ Err f
unfolding read_from
stopped t P b p [] f some s = rw (s.0, s.1)
stopped t P b p (w ∷ ws) f some s =
    elim s [
      | inl a ↦ rw (nothing_said w a.0, a.1)
      | inr a ↦ rw (a.2, decoded_word a.0 a.1, breaks_back t (record { so_far = P; after_end = b }) p a.0 some f a.3)
    ]

-- what was read so far, and then the stop
core : (t : Tables) (N : ℕ) (items : List Item) (P : Puzzle) (b : Bool) (rest : List ℕ) (f : Fault) → 2 ≤ N → N ≤ 9 → InOrder t N items P b → Stop t P b (2 + length items) rest f → read_from t (reading (blank_board N)) 2 (map item_word items ++ rest) ≡ Err f
core t N items P b rest f low high o s =
    let e : P ≡ gathered (blank_board N) o.records = o.made ∙ sym (gathered_is (blank_board N) o.records) in
    let side_is : P.size ≡ N = ap (λ (Q : Puzzle). Q.size) o.made in
    let reg = subst Registered e o.registered in
    let room = subst (Room t) e o.room in
    let len = 2 + length o.records in
    elim o.read [
      | inl a ↦ let place : 2 + length items ≡ len = ap (λ x. 2 + length {A = Item} x) a.1 in
          ap (λ x. read_from t (reading (blank_board N)) 2 (map item_word x ++ rest)) a.1
          ∙ prefix t o.records (blank_board N) 2 rest o.each (omega arith) high reg room
          ∙ ap (λ Q. read_from t (reading Q) len rest) (sym e)
          ∙ stopped t P false len rest f (omega arith) (moved t P false (2 + length items) len rest f place (subst (λ x. Stop t P x (2 + length items) rest f) a.0 s))
      | inr a ↦ let place : 2 + length items ≡ suc len = ap (λ x. 2 + length {A = Item} x) a.1 ∙ omega (arith, length_push o.records End) in
          ap (λ x. read_from t (reading (blank_board N)) 2 (map item_word x ++ rest)) a.1
          ∙ ap (λ x. read_from t (reading (blank_board N)) 2 x) (ap (λ x. x ++ rest) (map-append item_word o.records (End ∷ [])) ∙ append_assoc (map item_word o.records) (item_word End ∷ []) rest)
          ∙ prefix t o.records (blank_board N) 2 (item_word End ∷ rest) o.each (omega arith) high reg room
          ∙ ap (λ Q. read_from t (reading Q) len (item_word End ∷ rest)) (sym e)
          ∙ step t P len End rest (Err f) (omega arith) (omega arith) (record { later = tt; ranged = tt; new = tt; sided = tt; whole = a.2; room = tt }) (stopped t P true (suc len) rest f (omega arith) (moved t P true (2 + length items) (suc len) rest f place (subst (λ x. Stop t P x (2 + length items) rest f) a.0 s)))
    ]

from_stops : (t : Tables) (ws : List ℕ) (f : Fault) → Stops t ws f → read_list t ws ≡ Err f
unfolding read_list
from_stops t ws f s =
    let N = s.side in
    let o : opens (Board 1 N) ≡ true = (told_opens (Board 1 N)).1 (refl, s.low, s.high) in
    let b : FitsBits (Board 1 N) = (omega arith, omega (arith, s.high)) in
    rw (s.words, decoded_word (Board 1 N) b, o) (core t N s.items s.puzzle s.ended s.rest f s.low s.high s.in_order s.why)

is_refused : (t : Tables) (ws : List ℕ) (f : Fault) → Refused t ws f → read_list t ws ≡ Err f
unfolding read_list
is_refused t [] f r = cc
is_refused t (w ∷ ws) f r =
    elim r [
      | inl a ↦ elim a [
        | inl b ↦ rw (nothing_said w b.0, b.1)
        | inr b ↦ rw (b.2, decoded_word b.0 b.1, false_from_decides _ _ (told_opens b.0) b.3, b.4)
      ]
      | inr s ↦ from_stops t (w ∷ ws) f s
    ]

pub refused_lists : (t : Tables) (ws : List ℕ) (f : Fault) → (read_list t ws ≡ Err f) ↔ Refused t ws f
refused_lists t ws f = (refused_is t ws f, is_refused t ws f)

-- A table of tests against the table of their conditions.
use Rattle.std.proofs.Common.{◌≡◌, ℕ, ◌≤◌, Bool, true, false, ◌⊎◌, List, [], ◌∷◌, Err, Decides, refl, ◌∙◌, inl, inr}
use Rattle.std.proofs.lemmas.Bool.{not-true, not_from_false}
use Rattle.std.proofs.lemmas.Bool.Decides.{not_from_Decides}
use Rattle.cnf.specs.declared.fault.Fault.{Fault}
use Rattle.cnf.specs.Faults.{Answer, accepted, ◌then◌, check_for}
use Rattle.cnf.proofs.Accepting.{then_parts, check_passed, passed_then}
use Rattle.words.specs.declared.item.Item.{Item}
use Rattle.puzzle.specs.Reading.{Tables, State, tests, first_failed, item_answer}
use Rattle.puzzle.specs.Refused.{conditions, FirstBroken, Breaks}
use Rattle.puzzle.proofs.Keys.{false_from_decides}
use Rattle.puzzle.proofs.Told.{told_board, told_range, told_key, told_side, told_whole, told_room}

-- all conditions of a table hold
abbrev pub AllHold : List (Fault × Type 0) → Type 0
AllHold [] = Unit {0}
AllHold (c ∷ cs) = c.1 × AllHold cs

-- each test has its condition's fault and decides it, where the conditions before hold
abbrev Told : List (Fault × Bool) → List (Fault × Type 0) → Type 0
Told [] [] = Unit {0}
Told [] (c ∷ cs) = ⊥
Told (b ∷ bs) [] = ⊥
Told (b ∷ bs) (c ∷ cs) = (b.0 ≡ c.0) × Decides b.1 c.1 × (c.1 → Told bs cs)

all_hold : (bs : List (Fault × Bool)) (cs : List (Fault × Type 0)) → Told bs cs → first_failed bs ≡ accepted → AllHold cs
unfolding first_failed
all_hold [] [] d h = tt
all_hold [] (c ∷ cs) d h = absurd d
all_hold (b ∷ bs) [] d h = absurd d
all_hold (b ∷ bs) (c ∷ cs) d h =
    let q = then_parts (check_for b.1 b.0) (first_failed bs) h in
    let x = d.1.0 (check_passed b.1 b.0 q.0) in
    (x, all_hold bs cs (d.2 x) q.1)

hold_all : (bs : List (Fault × Bool)) (cs : List (Fault × Type 0)) → Told bs cs → AllHold cs → first_failed bs ≡ accepted
unfolding first_failed
hold_all [] [] d h = refl
hold_all [] (c ∷ cs) d h = absurd d
hold_all (b ∷ bs) [] d h = absurd d
hold_all (b ∷ bs) (c ∷ cs) d h = passed_then b.1 b.0 (first_failed bs) (d.1.1 h.0) ∙ hold_all bs cs (d.2 h.0) h.1

-- what a refusal of one check after another says
check_then : (b : Bool) (g : Fault) (rest : Answer) (f : Fault) → (check_for b g then rest) ≡ Err f → ((b ≡ false) × (f ≡ g)) ⊎ ((b ≡ true) × (rest ≡ Err f))
check_then true g rest f h = inr (refl, h)
check_then false g rest f h = inl (refl, cc)

broken : (bs : List (Fault × Bool)) (cs : List (Fault × Type 0)) (f : Fault) → Told bs cs → first_failed bs ≡ Err f → FirstBroken cs f
unfolding first_failed
broken [] [] f d h = cc
broken [] (c ∷ cs) f d h = absurd d
broken (b ∷ bs) [] f d h = absurd d
broken (b ∷ bs) (c ∷ cs) f d h =
    elim (check_then b.1 b.0 (first_failed bs) f h) [
      | inl g ↦ inl (not_from_Decides b.1 d.1 g.0, g.1 ∙ d.0)
      | inr g ↦ let x = d.1.0 g.0 in inr (x, broken bs cs f (d.2 x) g.1)
    ]

broken_back : (bs : List (Fault × Bool)) (cs : List (Fault × Type 0)) (f : Fault) → Told bs cs → FirstBroken cs f → first_failed bs ≡ Err f
unfolding first_failed
broken_back [] [] f d h = absurd h
broken_back [] (c ∷ cs) f d h = absurd d
broken_back (b ∷ bs) [] f d h = absurd d
broken_back (b ∷ bs) (c ∷ cs) f d h =
    elim h [
      | inl g ↦ rw (false_from_decides c.1 b.1 d.1 g.0, g.1, d.0)
      | inr g ↦ rw (d.1.1 g.0) (broken_back bs cs f (d.2 g.0) g.1)
    ]

module _ (t : Tables) (st : State) (p : ℕ) (it : Item) (some : 1 ≤ st.so_far.size) where
  told : Told (tests t st p it) (conditions t st.so_far st.after_end p it)
  told = (
    refl,
    told_board it,
    λ _. (
      refl,
      told_range st.so_far.size it,
      λ r. (
        refl,
        told_key st.so_far it,
        λ _. (
          refl,
          told_side st.so_far.size it some r,
          λ _.
              (refl, (not-true st.after_end, not_from_false st.after_end), λ _. (refl, told_whole st.so_far it, λ _. (refl, told_room t st.so_far it, λ _. tt))),
        ),
      ),
    ),
  )

  pub accepted_says : item_answer t st p it ≡ accepted → AllHold (conditions t st.so_far st.after_end p it)
  accepted_says h = all_hold (tests t st p it) (conditions t st.so_far st.after_end p it) told h

  pub accepted_from : AllHold (conditions t st.so_far st.after_end p it) → item_answer t st p it ≡ accepted
  accepted_from h = hold_all (tests t st p it) (conditions t st.so_far st.after_end p it) told h

  -- a refusal is the first fault
  pub breaks : (f : Fault) → item_answer t st p it ≡ Err f → Breaks t st.so_far st.after_end p it f
  breaks f h = broken (tests t st p it) (conditions t st.so_far st.after_end p it) f told h

  -- and the first fault is the refusal
  pub breaks_back : (f : Fault) → Breaks t st.so_far st.after_end p it f → item_answer t st p it ≡ Err f
  breaks_back f h = broken_back (tests t st p it) (conditions t st.so_far st.after_end p it) f told h

-- The filling that the claims give, and its bytes.
use Rattle.std.proofs.Common.{◌≡◌, ℕ, suc, ◌-◌, ◌*◌, Bool, true, false, cond, eqb, ◌⊎◌, ◌↔◌, List, [], ◌∷◌, map, sym, refl, ap, ◌∙◌, subst, inl, inr, arith}
use Rattle.std.specs.List.{AllByRecursion}
use Rattle.std.proofs.lemmas.List.{length-map}
use Rattle.std.proofs.ByRecursion.{All-map}
use Rattle.std.proofs.lemmas.List.FromFn.{length-map-range_with_len, get_or-map-range_with_len}
use Rattle.std.proofs.lemmas.Bool.{eqb-true, eqb-false}
use Rattle.cnf.specs.Faults.{accepted}
use Rattle.cnf.specs.Checks.{bytes_fit, form_answer, assignment_of}
use Rattle.cnf.proofs.Forms.{form_sized}
use Rattle.futoshiki.specs.Board.{InRange, up_to}
use Rattle.futoshiki.proofs.Lists.{all_counting}
use Rattle.fillings.specs.Fillings.{Filling, held_value, filling_assignment}
use Rattle.fillings.specs.Theorems.{BoardStands}
use Rattle.words.specs.declared.entry.Entry.{Entry}
use Rattle.puzzle.specs.Registers.{Once, SameCell, Any}
use Rattle.puzzle.specs.Reading.{Puzzle}
use Rattle.puzzle.specs.Accepted.{EntryOn, Sound}
use Rattle.puzzle.specs.Meaning.{puzzle_variables, claim_at, claimed_filling, byte_of, claim_bytes}

-- a member of one sort, among members that are all of another
any_pick : {A : Type 0} (P Q : A → Type 0) (R : Type 0) → ((x : A) → P x → Q x → R) → (xs : List A) → Any P xs → AllByRecursion Q xs → R
any_pick P Q R f [] a h = absurd a
any_pick P Q R f (x ∷ xs) a h = elim a [ inl p ↦ f x p h.0 | inr r ↦ any_pick P Q R f xs r h.1 ]

-- a claim of cell i
abbrev Of : ℕ → Entry → Type 0
Of i e = e.cell ≡ i

-- a claim that gives cell i the value v
abbrev Gives : ℕ → ℕ → Entry → Type 0
Gives i v e = (e.cell ≡ i) × (e.value ≡ v)

-- the value read off for a claimed cell is that of a claim
found : (es : List Entry) (i : ℕ) → Any (Of i) es → Any (Gives i (claim_at es i)) es
unfolding claim_at
found [] i a = a
found (e ∷ es) i a = go (found es i) (eqb e.cell i) refl a
  where
    go : (Any (Of i) es → Any (Gives i (claim_at es i)) es) → (b : Bool) → eqb e.cell i ≡ b → Any (Of i) (e ∷ es) → Any (Gives i (cond b e.value (claim_at es i))) (e ∷ es)
    go ih true t a = inl (eqb-true e.cell i t, refl)
    go ih false t a = elim a [ inl p ↦ absurd (eqb-false e.cell i t p) | inr r ↦ inr (ih r) ]

-- and where no cell is claimed twice, of each claim of the cell
only : (es : List Entry) (i v : ℕ) → Once SameCell es → Any (Gives i v) es → claim_at es i ≡ v
unfolding claim_at
only [] i v o a = absurd a
only (e ∷ es) i v o a = go (only es i v o.1) (eqb e.cell i) refl a
  where
    go : (Any (Gives i v) es → claim_at es i ≡ v) → (b : Bool) → eqb e.cell i ≡ b → Any (Gives i v) (e ∷ es) → cond b e.value (claim_at es i) ≡ v
    go ih true t a = elim a [ inl p ↦ p.1 | inr r ↦ absurd (any_pick (Gives i v) (λ g. SameCell e g → ⊥) ⊥ (λ g p d. d (eqb-true e.cell i t ∙ sym p.0)) es r o.0) ]
    go ih false t a = elim a [ inl p ↦ absurd (eqb-false e.cell i t p.0) | inr r ↦ ih r ]

-- the byte of a truth value is 0 or 1, and says it
bytes_pass : (p : ℕ) (a : List Bool) → bytes_fit p (map byte_of a) ≡ accepted
bytes_pass p [] = refl
bytes_pass p (true ∷ a) = bytes_pass (suc p) a
bytes_pass p (false ∷ a) = bytes_pass (suc p) a

bytes_are_bits : (a : List Bool) → AllByRecursion (λ b. (b ≡ 0) ⊎ (b ≡ 1)) (map byte_of a)
bytes_are_bits [] = tt
bytes_are_bits (true ∷ a) = (inr refl, bytes_are_bits a)
bytes_are_bits (false ∷ a) = (inl refl, bytes_are_bits a)

read_bytes : (a : List Bool) → assignment_of (map byte_of a) ≡ a
read_bytes [] = refl
read_bytes (true ∷ a) = ap (λ x. true ∷ x) (read_bytes a)
read_bytes (false ∷ a) = ap (λ x. false ∷ x) (read_bytes a)

module _ (P : Puzzle) (sound : Sound P) where
  -- cell by cell, the filling holds what is read off the claims
  held_claim : (i : ℕ) → InRange (P.size * P.size) i → held_value (claimed_filling P.size P.claims) i ≡ claim_at P.claims i
  unfolding claimed_filling
  held_claim i w = get_or-map-range_with_len (claim_at P.claims) 1 (P.size * P.size) (i - 1) i 0 (omega arith) (omega arith)

  pub claimed_value : (i v : ℕ) → InRange (P.size * P.size) i → (held_value (claimed_filling P.size P.claims) i ≡ v) ↔ Any (Gives i v) P.claims
  claimed_value i v w = (to, from)
    where
      to : held_value (claimed_filling P.size P.claims) i ≡ v → Any (Gives i v) P.claims
      to h = subst (λ x. Any (Gives i x) P.claims) (sym (held_claim i w) ∙ h) (found P.claims i (sound.whole i w))

      from : Any (Gives i v) P.claims → held_value (claimed_filling P.size P.claims) i ≡ v
      from a = held_claim i w ∙ only P.claims i v sound.registered.claims_once a

  claim_within : (i : ℕ) → InRange (P.size * P.size) i → InRange P.size (claim_at P.claims i)
  claim_within i w =
      any_pick (Gives i (claim_at P.claims i)) (EntryOn P.size) (InRange P.size (claim_at P.claims i))
      (λ e g o. subst (λ x. InRange P.size x) g.1 o.1)
      P.claims (found P.claims i (sound.whole i w)) sound.registered.claims_on

  pub filling : Filling P.size (claimed_filling P.size P.claims)
  unfolding claimed_filling
  filling = (
    length-map-range_with_len (claim_at P.claims) 1 (P.size * P.size),
    All-map (InRange P.size) (claim_at P.claims) (up_to (P.size * P.size))
        (all_counting (λ i. InRange P.size (claim_at P.claims i)) 1 (P.size * P.size) (λ k p q. claim_within k (p, omega arith))),
  )

  pub form : BoardStands P.size P.signs → form_answer (puzzle_variables P) (claim_bytes P.size P.claims) ≡ accepted
  unfolding claim_bytes
  form board =
      let f = claimed_filling P.size P.claims in
      let a = filling_assignment P.size f in
      let size = length-map a byte_of ∙ (board.models.assigns f filling).whole ∙ sym board.variables_count in
      form_sized (puzzle_variables P) (map byte_of a) board.lawful.few_variables size ∙ bytes_pass 1 a

  pub claim_bits : AllByRecursion (λ b. (b ≡ 0) ⊎ (b ≡ 1)) (claim_bytes P.size P.claims)
  unfolding claim_bytes
  claim_bits = bytes_are_bits (filling_assignment P.size (claimed_filling P.size P.claims))

  pub claim_is : assignment_of (claim_bytes P.size P.claims) ≡ filling_assignment P.size (claimed_filling P.size P.claims)
  unfolding claim_bytes
  claim_is = read_bytes (filling_assignment P.size (claimed_filling P.size P.claims))

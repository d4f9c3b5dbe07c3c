-- A sound puzzle's source is lawful, its models are the solutions' assignments, and its claim is accepted exactly when the claimed filling is a solution.
use Rattle.std.proofs.Common.{◌≡◌, ℕ, ◌+◌, ◌-◌, ◌*◌, ◌/◌, ◌≤◌, true, ◌↔◌, List, [], ◌∷◌, length, pos, sym, ◌∙◌, subst, mul_assoc, arith}
use Rattle.std.specs.List.{AllByRecursion}
use Rattle.std.proofs.lemmas.Nat.{mul-le}
use Rattle.std.proofs.ByRecursion.{All-map, All-weaker}
use Rattle.std.proofs.lemmas.List.{length-append, length-map}
use Rattle.cnf.specs.Formula.{Assignment, literal_true, Model, Lawful}
use Rattle.cnf.specs.Faults.{accepted}
use Rattle.cnf.specs.Checks.{assignment_of, claim_answer}
use Rattle.cnf.proofs.Claims.{claim_accepted}
use Rattle.layers.specs.Fixed.{units_of, NamesVariable, FixMeans}
use Rattle.layers.proofs.Fixing.{fix_means}
use Rattle.futoshiki.specs.Board.{InRange, variable_at}
use Rattle.futoshiki.specs.Rules.{Rules}
use Rattle.futoshiki.specs.Listing.{board_listing}
use Rattle.futoshiki.proofs.Kept.{rules_kept_from}
use Rattle.futoshiki.proofs.Lists.{all_both, all_from_map}
use Rattle.futoshiki.proofs.Places.{within}
use Rattle.fillings.specs.Fillings.{Filling, held_value, filling_assignment}
use Rattle.fillings.specs.Theorems.{clause_count, BoardStands}
use Rattle.fillings.proofs.Standing.{board_theorem}
use Rattle.words.specs.declared.entry.Entry.{Entry}
use Rattle.puzzle.specs.Reading.{Puzzle}
use Rattle.puzzle.specs.Accepted.{EntryOn, Sound}
use Rattle.puzzle.specs.Meaning.{given_literals, puzzle_variables, puzzle_listing, Solves, claimed_filling, claim_bytes}
use Rattle.puzzle.specs.Theorems.{Stands}
use Rattle.puzzle.proofs.Few.{few_entries, few_signs}
use Rattle.puzzle.proofs.Claims.{claimed_value, filling, claim_bits, form, claim_is}

module _ (P : Puzzle) (sound : Sound P) where
  few_givens : length P.givens ≤ P.size * P.size
  few_givens = few_entries P.size P.givens sound.registered.givens_once sound.registered.givens_on

  signs_few : length P.signs ≤ 2 * (P.size * P.size)
  signs_few = few_signs P.size sound.low P.signs sound.registered.signs_on sound.registered.sides sound.registered.signs_once

  rules : Rules P.size P.signs
  rules = record {
    two_at_least = sound.low;
    nine_at_most = sound.high;
    few_signs = omega (arith, signs_few, mul_assoc 2 P.size P.size);
    all_on_board = sound.registered.signs_on;
    all_share = sound.registered.sides;
  }

  board : BoardStands P.size P.signs
  board = (board_theorem P.size P.signs).kept (rules_kept_from P.size P.signs rules)

  fixing : FixMeans (puzzle_variables P) (board_listing P.size P.signs) (given_literals P.size P.givens)
  fixing = fix_means (puzzle_variables P) (board_listing P.size P.signs) (given_literals P.size P.givens)

  -- a given's literal names a variable of the board
  named : (g : Entry) → EntryOn P.size g → InRange (puzzle_variables P) (variable_at P.size g.cell g.value)
  named g o =
      let w = within (P.size * P.size) P.size g.cell g.value o.0 o.1 in
      (w.0, omega (arith, board.variables_count))

  all_named : AllByRecursion (NamesVariable (puzzle_variables P)) (given_literals P.size P.givens)
  all_named =
      All-map (NamesVariable (puzzle_variables P)) (λ g. pos (variable_at P.size g.cell g.value)) P.givens
      (All-weaker (EntryOn P.size) (λ g. NamesVariable (puzzle_variables P) (pos (variable_at P.size g.cell g.value))) named P.givens sound.registered.givens_on)

  -- the clauses of board and signs, with one for each given, are few enough
  count_fits : length (board_listing P.size P.signs) + length (given_literals P.size P.givens) ≤ 65535
  count_fits =
      let N = P.size in
      let q = sound.high in
      let cells = mul-le N N 9 9 q q in
      let pairs : N * (N - 1) / 2 ≤ 36 = omega (arith, mul-le N (N - 1) 9 8 q (omega arith)) in
      let steps : N * (N + 1) / 2 ≤ 45 = omega (arith, mul-le N (N + 1) 9 10 q (omega arith)) in
      let m : length P.signs ≤ 162 = omega (arith, signs_few) in
      omega (
        arith,
        length-map P.givens (λ g. pos (variable_at N g.cell g.value)),
        few_givens,
        board.clauses_count,
        mul-le (3 * (N * N)) (N * (N - 1) / 2) 243 36 (omega arith) pairs,
        mul-le (length P.signs) (N * (N + 1) / 2) 162 45 m steps,
      )

  lawful : Lawful (puzzle_variables P) (puzzle_listing P)
  unfolding puzzle_listing
  lawful = fixing.lawful.1 (board.lawful, all_named, count_fits)

  -- a filling keeps a given
  abbrev Kept : List ℕ → Entry → Type 0
  Kept f g = held_value f g.cell ≡ g.value

  -- a given's literal is true
  abbrev TrueUnder : Assignment → Entry → Type 0
  TrueUnder a g = literal_true a (pos (variable_at P.size g.cell g.value)) ≡ true

  -- under a filling's assignment the givens' literals are true exactly when the filling keeps the givens
  givens_true : (f : List ℕ) → Filling P.size f → AllByRecursion (Kept f) P.givens → AllByRecursion (λ l. literal_true (filling_assignment P.size f) l ≡ true) (given_literals P.size P.givens)
  givens_true f fill kept =
      let a = filling_assignment P.size f in
      All-map (λ l. literal_true a l ≡ true) (λ g. pos (variable_at P.size g.cell g.value)) P.givens
      (all_both (EntryOn P.size) (Kept f) (TrueUnder a) (λ g o h. ((board.models.assigns f fill).exactly g.cell g.value o.0 o.1).1 h) P.givens sound.registered.givens_on kept)

  true_givens : (f : List ℕ) → Filling P.size f → AllByRecursion (λ l. literal_true (filling_assignment P.size f) l ≡ true) (given_literals P.size P.givens) → AllByRecursion (Kept f) P.givens
  true_givens f fill h =
      let a = filling_assignment P.size f in
      all_both (EntryOn P.size) (TrueUnder a) (Kept f) (λ g o t. ((board.models.assigns f fill).exactly g.cell g.value o.0 o.1).0 t) P.givens sound.registered.givens_on
      (all_from_map (λ l. literal_true a l ≡ true) (λ g. pos (variable_at P.size g.cell g.value)) P.givens h)

  model : (f : List ℕ) → Solves P f → Model (puzzle_variables P) (puzzle_listing P) (filling_assignment P.size f)
  unfolding puzzle_listing
  model f s = (fixing.models (filling_assignment P.size f)).1 (board.models.sound f s.fills s.keeps, givens_true f s.fills s.given_kept)

  solution : (a : Assignment) → Model (puzzle_variables P) (puzzle_listing P) a → (f : List ℕ) × Solves P f × (filling_assignment P.size f ≡ a)
  unfolding puzzle_listing
  solution a m =
      let w = (fixing.models a).0 m in
      let c = board.models.complete a w.0 in
      let t = subst (λ x. AllByRecursion (λ l. literal_true x l ≡ true) (given_literals P.size P.givens)) (sym c.3) w.1 in
      (c.0, record { fills = c.1; keeps = c.2; given_kept = true_givens c.0 c.1 t }, c.3)

  one_for_one : (f g : List ℕ) → Filling P.size f → Filling P.size g → filling_assignment P.size f ≡ filling_assignment P.size g → f ≡ g
  one_for_one f g p q e = board.models.one_for_one f g p q e

  -- the claim's bytes are a model exactly when the claimed filling is a solution
  claimed_solves : Model (puzzle_variables P) (puzzle_listing P) (assignment_of (claim_bytes P.size P.claims)) → Solves P (claimed_filling P.size P.claims)
  claimed_solves m =
      let s = solution (assignment_of (claim_bytes P.size P.claims)) m in
      subst (Solves P) (one_for_one s.0 (claimed_filling P.size P.claims) s.1.fills (filling P sound) (s.2 ∙ claim_is P sound)) s.1

  solves_claimed : Solves P (claimed_filling P.size P.claims) → Model (puzzle_variables P) (puzzle_listing P) (assignment_of (claim_bytes P.size P.claims))
  solves_claimed s = subst (Model (puzzle_variables P) (puzzle_listing P)) (sym (claim_is P sound)) (model (claimed_filling P.size P.claims) s)

  claim_checked : (claim_answer (puzzle_variables P) (puzzle_listing P) (claim_bytes P.size P.claims) ≡ accepted) ↔ Solves P (claimed_filling P.size P.claims)
  claim_checked =
      let checks = claim_accepted (puzzle_variables P) (puzzle_listing P) (claim_bytes P.size P.claims) in
      (λ h. claimed_solves (checks.0 h).solves, λ s. checks.1 (record { lawful = lawful; bits = claim_bits P sound; solves = solves_claimed s }))

  counted : length (puzzle_listing P) ≡ clause_count P.size (length P.signs) + length P.givens
  unfolding puzzle_listing
  counted =
      let literals = given_literals P.size P.givens in
      length-append (board_listing P.size P.signs) (units_of literals)
      ∙ (λ i. board.clauses_count i + (length-map literals (λ l. l ∷ []) ∙ length-map P.givens (λ g. pos (variable_at P.size g.cell g.value))) i)

  pub stands : Stands P
  stands = record {
    filling = filling P sound;
    claimed = claimed_value P sound;
    few_givens = few_givens;
    few_signs = signs_few;
    variables_are = board.variables_count;
    clauses_are = counted;
    lawful = lawful;
    form = form P sound board;
    claim_is = claim_is P sound;
    model = model;
    solution = solution;
    one_for_one = λ f g p q e. one_for_one f g p.fills q.fills e;
    claim_checked = claim_checked;
  }

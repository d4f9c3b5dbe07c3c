-- The claim's bytes, claim by claim, value by value and cell by cell.
use Rattle.std.proofs.Common.{◌≡◌, ℕ, ◌+◌, ◌-◌, ◌≤◌, Bool, true, false, cond, eqb, List, [], ◌∷◌, ◌++◌, map, Some, None, Option, MatchOption, Bor, sym, refl, ap, ◌∙◌, append_assoc, arith}
use Rattle.std.specs.List.{find, flat_map}
use Rattle.std.specs.Option.{option_map}
use Rattle.std.proofs.lemmas.List.FromFn.{map-range_with_len_more}
use Rattle.std.proofs.lemmas.List.{map-append, flat_map_more}
use Rattle.futoshiki.specs.Board.{up_to}
use Rattle.fillings.specs.Fillings.{filling_assignment}
use Rattle.words.specs.declared.entry.Entry.{Entry}
use Rattle.puzzle.specs.Meaning.{claim_at, byte_of}

-- the value of a claim that was searched for, 0 where none was found
abbrev pub value_in : Option Entry → ℕ
value_in None = 0
value_in (Some e) = e.value

-- a cell's first claim gives its value
pub claim_found : (es : List Entry) (cell : ℕ) → value_in (find (λ e. eqb e.cell cell) es) ≡ claim_at es cell
unfolding claim_at
claim_found [] cell = refl
claim_found (e ∷ es) cell = elim (eqb e.cell cell) as (λ b. value_in (cond b (Some e) (find (λ e. eqb e.cell cell) es)) ≡ cond b e.value (claim_at es cell)) [ true ↦ refl | false ↦ claim_found es cell ]

-- the same of what is found by reference
pub value_found : (found : Option (Bor Entry)) (v : ℕ) → MatchOption found (v ≡ 0) (λ r. v ≡ r.now.value) → v ≡ value_in (option_map (λ r. r.now) found)
value_found None v h = h
value_found (Some r) v h = h

-- one value more of a cell
pub value_more : (before now : List ℕ) (x v k b : ℕ) → 1 ≤ v → v ≡ k → now ≡ before ++ map byte_of (map (eqb x) (up_to (v - 1))) → b ≡ byte_of (eqb x v) → now ++ b ∷ [] ≡ before ++ map byte_of (map (eqb x) (up_to k))
value_more before now x v k b some to so_far is =
    let last : 1 + (v - 1) ≡ v = omega arith in
    let all : v - 1 + 1 ≡ k = omega arith in
    (λ j. so_far j ++ is j ∷ [])
    ∙ append_assoc before _ _
    ∙ ap (λ r. before ++ r) (sym (map-append byte_of (map (eqb x) (up_to (v - 1))) (eqb x v ∷ [])) ∙ ap (map byte_of) (sym (map-range_with_len_more (eqb x) 1 (v - 1) v last) ∙ ap (λ n. map (eqb x) (up_to n)) all))

-- one cell more of a claim
pub cell_more : (N : ℕ) (value_at : ℕ → ℕ) (now : List ℕ) (x i k : ℕ) → 1 ≤ i → i ≡ k → now ≡ map byte_of (filling_assignment N (map value_at (up_to (i - 1)))) → x ≡ value_at i → now ++ map byte_of (map (eqb x) (up_to N)) ≡ map byte_of (filling_assignment N (map value_at (up_to k)))
cell_more N value_at now x i k some to so_far is =
    let row : ℕ → List Bool = λ y. map (eqb y) (up_to N) in
    let last : 1 + (i - 1) ≡ i = omega arith in
    let all : i - 1 + 1 ≡ k = omega arith in
    (λ j. so_far j ++ map byte_of (row (is j)))
    ∙ sym (map-append byte_of (flat_map row (map value_at (up_to (i - 1)))) (row (value_at i)))
    ∙ ap (map byte_of) (flat_map_more row [] (map value_at (up_to (i - 1))) (value_at i) ∙ ap (flat_map row) (sym (map-range_with_len_more value_at 1 (i - 1) i last) ∙ ap (λ n. map value_at (up_to n)) all))

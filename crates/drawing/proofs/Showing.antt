-- The text of a sound puzzle is well drawn.
use Rattle.std.proofs.Common.{◌≡◌, ℕ, ◌+◌, ◌-◌, ◌*◌, ◌/◌, ◌%◌, ◌<◌, ◌≤◌, Bool, true, false, cond, ◌&&◌, ◌||◌, eqb, ltb, leb, List, [], ◌∷◌, map, get_or, sym, refl, ap, ◌∙◌, subst, ⊎_elim, arith}
use Rattle.std.specs.List.{range_with_len, AllByRecursion}
use Rattle.std.proofs.lemmas.Nat.{div-mul-add, mod-mul-add, mul-add-lt, div_below, mod_below, div-add-mod'}
use Rattle.std.proofs.lemmas.List.FromFn.{length-map-range_with_len, get_or-map-range_with_len}
use Rattle.std.proofs.lemmas.Bool.{cases_eq, cases_Bool, eq-eqb, eqb-false, le-leb, cond-true, cond-false, and_from, or_left, or_right}
use Rattle.futoshiki.specs.Board.{InRange}
use Rattle.words.specs.declared.entry.Entry.{Entry}
use Rattle.puzzle.specs.Registers.{Any}
use Rattle.puzzle.specs.Reading.{Puzzle}
use Rattle.puzzle.specs.Meaning.{claim_at}
use Rattle.puzzle.specs.Accepted.{EntryOn, Sound}
use Rattle.drawing.specs.Drawn.{line_width, whole_length, frame_fits, row_fits, fits_place}
use Rattle.drawing.specs.Redrawn.{is_given, is_signed, byte_between, cell_in, frame_byte, row_byte, drawn_byte, drawn_text}
use Rattle.drawing.specs.Theorems.{WellDrawn, DrawsRight}
use Rattle.drawing.proofs.Fitting.{fits_by_rest, fits_by, line_end, frame_line, row_line}
use Rattle.drawing.proofs.Redrawing.{byte_by_rest, feed_at, frame_at, row_at, whole_text}
use Rattle.drawing.proofs.Returning.{drawn_again}

-- a cell that is claimed has a value of the board
claim_on : (N i : ℕ) (es : List Entry) → AllByRecursion (EntryOn N) es → Any (λ e. e.cell ≡ i) es → InRange N (claim_at es i)
unfolding claim_at
claim_on N i [] on any = absurd any
claim_on N i (e ∷ es) on any =
    let P : ℕ → Type 0 = InRange N in
    ⊎_elim
    (λ (t : eqb e.cell i ≡ true). subst P (sym (cond-true (eqb e.cell i) e.value (claim_at es i) t)) on.0.1)
    (λ (f : eqb e.cell i ≡ false).
    subst P (sym (cond-false (eqb e.cell i) e.value (claim_at es i) f))
    (⊎_elim (λ (q : e.cell ≡ i). absurd (eqb-false e.cell i f q)) (λ rest. claim_on N i es on.1 rest) any))
    (cases_Bool (eqb e.cell i))

-- a sign or none where signs may stand, none elsewhere
between_fits : (may s t : Bool) (p q z : ℕ) → let b = cond may (cond s p (cond t q z)) z in (eqb b z || (may && (eqb b p || eqb b q))) ≡ true
between_fits true true t p q z = or_right (eqb p z) (eqb p p || eqb p q) (or_left (eqb p p) (eqb p q) (eq-eqb p p refl))
between_fits true false true p q z = or_right (eqb q z) (eqb q p || eqb q q) (or_right (eqb q p) (eqb q q) (eq-eqb q q refl))
between_fits true false false p q z = or_left (eqb z z) (eqb z p || eqb z q) (eq-eqb z z refl)
between_fits false s t p q z = or_left (eqb z z) false (eq-eqb z z refl)

module _ (P : Puzzle) (sound : Sound P) where
  abbrev N : ℕ
  N = P.size

  abbrev W : ℕ
  W = line_width N

  abbrev bytes : List ℕ
  bytes = map (drawn_byte P) (range_with_len 0 (whole_length N))

  frame_shown : (l c : ℕ) → frame_fits N l c (frame_byte N P.signs l c) ≡ true
  frame_shown l c =
      let may = eqb (c % 4) 2 && ltb 0 l && ltb l (2 * N) in
      let i = cell_in N (l / 2 - 1) (c / 4) in
      let fits : Bool → ℕ → Bool = λ t b. cond t (eqb b 43) (eqb b 45 || (may && (eqb b 94 || eqb b 118))) in
      elim (eqb (c % 4) 0) as (λ t. fits t (cond t 43 (cond may (byte_between P.signs i (i + N) 94 118 45) 45)) ≡ true)
      [ true ↦ refl | false ↦ between_fits may (is_signed P.signs i (i + N)) (is_signed P.signs (i + N) i) 94 118 45 ]

  module _ (l c : ℕ) (line_in : l < 2 * N + 1) (odd : l % 2 ≡ 0 → ⊥) (column_in : c ≤ 4 * N) where
    abbrev given_there : Bool
    given_there = is_given P.givens (cell_in N (l / 2) (c / 4))

    abbrev value_there : ℕ
    value_there = claim_at P.claims (cell_in N (l / 2) (c / 4))

    abbrev left : ℕ
    left = cell_in N (l / 2) (c / 4 - 1)

    row_shown : (o : ℕ) → (c % 4 ≡ 3 → o ≡ cond given_there 91 32) → row_fits N c (row_byte N P l c) o ≡ true
    row_shown o before =
        let whole : ℕ → Bool = λ x. fits_by_rest N c (byte_by_rest N P l c x) o x in
        ⊎_elim
        (λ (e : c % 4 ≡ 0). ap whole e ∙ between_fits (ltb 0 c && ltb c (4 * N)) (is_signed P.signs left (left + 1)) (is_signed P.signs (left + 1) left) 60 62 124)
        (λ (d0 : c % 4 ≡ 0 → ⊥).
        ⊎_elim
        (λ (e : c % 4 ≡ 1). ap whole e ∙ elim given_there as (λ t. (eqb (cond t 91 32) 32 || eqb (cond t 91 32) 91) ≡ true) [ true ↦ refl | false ↦ refl ])
        (λ (d1 : c % 4 ≡ 1 → ⊥).
        ⊎_elim
        (λ (e : c % 4 ≡ 2).
        let i = cell_in N (l / 2) (c / 4) in
        let on : InRange (N * N) i = (omega arith, omega (arith, mul-add-lt (l / 2) N (c / 4) N (omega arith) (omega arith))) in
        let v = claim_on N i P.claims sound.registered.claims_on (sound.whole i on) in
        let n = sound.high in
        ap whole e ∙ and_from (leb 49 (48 + value_there % 10)) (leb (48 + value_there % 10) (48 + N)) (le-leb 49 (48 + value_there % 10) (omega arith)) (le-leb (48 + value_there % 10) (48 + N) (omega arith)))
        (λ (d2 : c % 4 ≡ 2 → ⊥).
        let e : c % 4 ≡ 3 = omega arith in
        ap whole e ∙ ap (λ x. eqb (cond given_there 93 32) (cond (eqb x 91) 93 32)) (before e)
        ∙ elim given_there as (λ t. eqb (cond t 93 32) (cond (eqb (cond t 91 32) 91) 93 32) ≡ true) [ true ↦ refl | false ↦ refl ])
        (cases_eq (c % 4) 2))
        (cases_eq (c % 4) 1))
        (cases_eq (c % 4) 0)

    -- the byte two places before the last of a cell is its first
    opening_shown : c % 4 ≡ 1 → row_byte N P l c ≡ cond given_there 91 32
    opening_shown e = ap (byte_by_rest N P l c) e

  read_at : (k : ℕ) → k < whole_length N → drawn_byte P k ≡ get_or bytes k 0
  read_at k h = sym (get_or-map-range_with_len (drawn_byte P) 0 (whole_length N) k k 0 h (omega arith))

  place_shown : (k : ℕ) → k < whole_length N → fits_place N bytes k ≡ true
  place_shown k h =
      let l = k / W in
      let c = k % W in
      let o = get_or bytes (k - 2) 0 in
      let whole = div-add-mod' k W in
      let line_in : l < 2 * N + 1 = div_below k W (2 * N + 1) (omega arith) h in
      let column_in : c < W = mod_below k W (omega arith) in
      ⊎_elim
      (λ (e : c ≡ 4 * N + 1). sym (fits_by N bytes k l c 10 o refl refl (feed_at N P refl k l c refl refl e ∙ read_at k h) refl) ∙ line_end N l c 10 o e)
      (λ (d : c ≡ 4 * N + 1 → ⊥).
      ⊎_elim
      (λ (e : l % 2 ≡ 0).
      let b = frame_byte N P.signs l c in
      sym (fits_by N bytes k l c b o refl refl (frame_at N P refl k l c refl refl d e ∙ read_at k h) refl) ∙ frame_line N l c b o d e ∙ frame_shown l c)
      (λ (f : l % 2 ≡ 0 → ⊥).
      let b = row_byte N P l c in
      sym (fits_by N bytes k l c b o refl refl (row_at N P refl k l c refl refl d f ∙ read_at k h) refl) ∙ row_line N l c b o d f
      ∙ row_shown l c line_in f (omega arith) o
      (λ e.
      let j : k - 2 ≡ l * W + (c - 2) = omega arith in
      let jl : (k - 2) / W ≡ l = ap (λ x. x / W) j ∙ div-mul-add l W (c - 2) (omega arith) in
      let jc : (k - 2) % W ≡ c - 2 = ap (λ x. x % W) j ∙ mod-mul-add l W (c - 2) (omega arith) in
      let q : (c - 2) / 4 ≡ c / 4 = omega arith in
      sym (read_at (k - 2) (omega arith))
      ∙ sym (row_at N P refl (k - 2) ((k - 2) / W) ((k - 2) % W) refl refl (λ g. omega arith) (λ g. f (sym (ap (λ x. x % 2) jl) ∙ g)))
      ∙ ap (λ x. row_byte N P x ((k - 2) % W)) jl ∙ ap (λ x. row_byte N P l x) jc
      ∙ opening_shown l (c - 2) line_in f (omega arith) (omega arith)
      ∙ ap (λ x. cond (is_given P.givens (cell_in N (l / 2) x)) 91 32) q))
      (cases_eq (l % 2) 0))
      (cases_eq c (4 * N + 1))

  shown_well : WellDrawn N bytes
  shown_well = record {
    two_at_least = sound.low;
    nine_at_most = sound.high;
    each_fits = place_shown;
    no_more = omega (arith, length-map-range_with_len (drawn_byte P) 0 (whole_length N));
  }

  shown_well_drawn : WellDrawn N (drawn_text P)
  shown_well_drawn = subst (WellDrawn N) (whole_text P (whole_length N) bytes sound.high refl refl) shown_well

pub draws_right : DrawsRight
draws_right = record { drawn_again = λ N bytes drawn. drawn_again N bytes drawn; drawn_well = λ P sound. shown_well_drawn P sound }

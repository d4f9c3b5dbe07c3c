-- The answer to a text.
use Rattle.std.proofs.Common.{◌≡◌, ℕ, ◌+◌, ◌-◌, ◌*◌, ◌/◌, ◌%◌, ◌<◌, ◌≤◌, true, false, not, ◌&&◌, ◌||◌, eqb, ltb, leb, List, length, get_or, Ok, Err, Result, sym, refl, ap, ◌∙◌, subst, ⊎_elim, arith}
use Rattle.std.proofs.lemmas.Nat.{mul-le}
use Rattle.std.proofs.lemmas.List.{get_or_past}
use Rattle.std.proofs.lemmas.Bool.{cases_lt, cases_Bool, cond-true, cond-false, le-leb, lt-leb, eq-eqb, eqb-true, and_from, and_parts, and_left, and_right, or_cases}
use Rattle.drawing.specs.Drawn.{first_line, line_of_side, line_width, whole_length, frame_fits, byte_fits, fits_place, first_unfit, drawn_words, told_place, all_drawn, side_answer, drawn_side, drawn_answer}
use Rattle.drawing.specs.Theorems.{WellDrawn}
use Rattle.drawing.proofs.Failing.{stops, passes, before_passes}
use Rattle.drawing.proofs.Fitting.{line_end, frame_line, ends_here, line_goes_on}
use Rattle.drawing.proofs.Spots.{fits_at}

module _ (bytes : List ℕ) where
  pub refused_line : line_of_side (first_line bytes) ≡ false → drawn_answer bytes ≡ Err (1, first_line bytes + 1)
  unfolding drawn_answer
  refused_line e = cond-false (line_of_side (first_line bytes)) (side_answer (drawn_side bytes) bytes) (Err (1, first_line bytes + 1)) e

  pub sided : line_of_side (first_line bytes) ≡ true → drawn_answer bytes ≡ side_answer (drawn_side bytes) bytes
  unfolding drawn_answer
  sided e = cond-true (line_of_side (first_line bytes)) (side_answer (drawn_side bytes) bytes) (Err (1, first_line bytes + 1)) e

  -- the same of a line that was counted
  pub refused_at_end : (k : ℕ) → k ≡ first_line bytes → line_of_side k ≡ false → drawn_answer bytes ≡ Err (1, k + 1)
  refused_at_end k e f =
      let P : ℕ → Type 0 = λ n. line_of_side n ≡ false in
      let told : ℕ → Result (List ℕ) (ℕ × ℕ) = λ n. Err (1, n + 1) in
      refused_line (subst P e f) ∙ ap told (sym e)

  pub sided_by : (k N : ℕ) → k ≡ first_line bytes → line_of_side k ≡ true → N ≡ k / 4 → drawn_answer bytes ≡ side_answer N bytes
  sided_by k N e t n =
      let P : ℕ → Type 0 = λ j. line_of_side j ≡ true in
      sided (subst P e t) ∙ ap (λ M. side_answer M bytes) (sym (n ∙ ap (λ j. j / 4) e))

  module _ (N : ℕ) where
    pub whole_answer : whole_length N ≤ first_unfit N bytes → length bytes ≤ whole_length N → side_answer N bytes ≡ Ok (drawn_words N bytes)
    whole_answer p q =
        cond-true (all_drawn N bytes) (Ok (drawn_words N bytes)) (Err (told_place N (first_unfit N bytes)))
        (and_from (leb (whole_length N) (first_unfit N bytes)) (leb (length bytes) (whole_length N)) (le-leb (whole_length N) (first_unfit N bytes) p) (le-leb (length bytes) (whole_length N) q))

    pub unfit_answer : first_unfit N bytes < whole_length N → side_answer N bytes ≡ Err (told_place N (first_unfit N bytes))
    unfit_answer p =
        cond-false (all_drawn N bytes) (Ok (drawn_words N bytes)) (Err (told_place N (first_unfit N bytes)))
        (and_left (leb (whole_length N) (first_unfit N bytes)) (leb (length bytes) (whole_length N)) (lt-leb (whole_length N) (first_unfit N bytes) p))

    pub longer_answer : whole_length N < length bytes → side_answer N bytes ≡ Err (told_place N (first_unfit N bytes))
    longer_answer p =
        cond-false (all_drawn N bytes) (Ok (drawn_words N bytes)) (Err (told_place N (first_unfit N bytes)))
        (and_right (leb (whole_length N) (first_unfit N bytes)) (leb (length bytes) (whole_length N)) (lt-leb (length bytes) (whole_length N) p))

    pub told_at : (k l c : ℕ) → k ≡ first_unfit N bytes → l ≡ k / line_width N → c ≡ k % line_width N → side_answer N bytes ≡ Err (told_place N (first_unfit N bytes)) → side_answer N bytes ≡ Err (l + 1, c + 1)
    told_at k l c e el ec h =
        let told : ℕ → ℕ → Result (List ℕ) (ℕ × ℕ) = λ m n. Err (m + 1, n + 1) in
        h ∙ ap (λ n. told (n / line_width N) (n % line_width N)) (sym e) ∙ ap (λ m. told m (k % line_width N)) (sym el) ∙ ap (told l) (sym ec)

    pub well_drawn : 2 ≤ N → N ≤ 9 → whole_length N ≤ first_unfit N bytes → length bytes ≤ whole_length N → WellDrawn N bytes
    unfolding first_unfit
    well_drawn p q f l = record {
      two_at_least = p;
      nine_at_most = q;
      each_fits = λ k h. before_passes (fits_place N bytes) (whole_length N) k (omega arith);
      no_more = l;
    }

-- a frame line has no line feed, and no byte that is missing
frame_high : (N l c b : ℕ) → frame_fits N l c b ≡ true → 43 ≤ b
frame_high N l c b h =
    ⊎_elim
    (λ (t : eqb (c % 4) 0 ≡ true).
    let e = eqb-true b 43 (sym (cond-true (eqb (c % 4) 0) (eqb b 43) (eqb b 45 || (eqb (c % 4) 2 && ltb 0 l && ltb l (2 * N) && (eqb b 94 || eqb b 118))) t) ∙ h) in
    omega arith)
    (λ (f : eqb (c % 4) 0 ≡ false).
    ⊎_elim
    (λ (t : eqb b 45 ≡ true). let e = eqb-true b 45 t in omega arith)
    (λ w.
    ⊎_elim
    (λ (t : eqb b 94 ≡ true). let e = eqb-true b 94 t in omega arith)
    (λ (t : eqb b 118 ≡ true). let e = eqb-true b 118 t in omega arith)
    (or_cases (eqb b 94) (eqb b 118) (and_parts (eqb (c % 4) 2 && ltb 0 l && ltb l (2 * N)) (eqb b 94 || eqb b 118) w).1))
    (or_cases (eqb b 45) (eqb (c % 4) 2 && ltb 0 l && ltb l (2 * N) && (eqb b 94 || eqb b 118))
    (sym (cond-false (eqb (c % 4) 0) (eqb b 43) (eqb b 45 || (eqb (c % 4) 2 && ltb 0 l && ltb l (2 * N) && (eqb b 94 || eqb b 118))) f) ∙ h)))
    (cases_Bool (eqb (c % 4) 0))

-- a byte that is there
pub present : (bytes : List ℕ) (k : ℕ) → 1 ≤ get_or bytes k 0 → k < length bytes
present bytes k h = ⊎_elim (λ (l : k < length bytes). l) (λ (g : length bytes ≤ k). let e = get_or_past bytes k 0 g in absurd (omega arith)) (cases_lt k (length bytes))

module _ (N : ℕ) (bytes : List ℕ) (drawn : WellDrawn N bytes) where
  inside : (k : ℕ) → k < line_width N → k < whole_length N
  inside k h = let m = mul-le 1 (line_width N) (2 * N + 1) (line_width N) (omega arith) (omega arith) in omega arith

  first_fits : (k : ℕ) → k < line_width N → byte_fits N 0 k (get_or bytes k 0) (get_or bytes (k - 2) 0) ≡ true
  first_fits k h = sym (fits_at N bytes k 0 k (omega arith) h) ∙ drawn.each_fits k (inside k h)

  -- the first line has 4N + 1 characters
  pub first_line_is : first_line bytes ≡ 4 * N + 1
  unfolding first_line
  first_line_is =
      let n = drawn.nine_at_most in
      stops (λ k. not (eqb (get_or bytes k 10) 10)) 38 (4 * N + 1) (omega arith)
      (λ k h.
      let high = frame_high N 0 k (get_or bytes k 0) (sym (frame_line N 0 k (get_or bytes k 0) (get_or bytes (k - 2) 0) (λ e. omega arith) (omega arith)) ∙ first_fits k (omega arith)) in
      line_goes_on bytes k (present bytes k (omega arith)) (λ e. omega arith))
      (let e = eqb-true (get_or bytes (4 * N + 1) 0) 10 (sym (line_end N 0 (4 * N + 1) (get_or bytes (4 * N + 1) 0) (get_or bytes (4 * N + 1 - 2) 0) refl) ∙ first_fits (4 * N + 1) (omega arith)) in
      ends_here bytes (4 * N + 1) (present bytes (4 * N + 1) (omega arith)) e)

  pub side_is : drawn_side bytes ≡ N
  side_is = ap (λ k. k / 4) first_line_is ∙ omega arith

  pub line_sided : line_of_side (first_line bytes) ≡ true
  line_sided =
      let n = drawn.nine_at_most in
      let m = drawn.two_at_least in
      let e = first_line_is in
      and_from (eqb (first_line bytes % 4) 1 && leb 2 (first_line bytes / 4)) (leb (first_line bytes / 4) 9)
      (and_from (eqb (first_line bytes % 4) 1) (leb 2 (first_line bytes / 4)) (eq-eqb (first_line bytes % 4) 1 (omega arith)) (le-leb 2 (first_line bytes / 4) (omega arith)))
      (le-leb (first_line bytes / 4) 9 (omega arith))

  pub unfit_none : first_unfit N bytes ≡ whole_length N
  unfolding first_unfit
  unfit_none = passes (fits_place N bytes) (whole_length N) drawn.each_fits

  pub answer_drawn : drawn_answer bytes ≡ Ok (drawn_words N bytes)
  answer_drawn =
      sided bytes line_sided ∙ ap (λ M. side_answer M bytes) side_is ∙ whole_answer bytes N (let e = unfit_none in omega arith) drawn.no_more

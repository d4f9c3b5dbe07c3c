-- A text that draws a board is drawn again from what it draws.
use Rattle.std.proofs.Common.{◌≡◌, ℕ, ◌+◌, ◌-◌, ◌*◌, ◌/◌, ◌%◌, ◌<◌, ◌≤◌, Bool, true, false, cond, ◌&&◌, ◌||◌, eqb, ltb, leb, ◌⊎◌, List, length, get_or, sym, refl, ap, ◌∙◌, inl, inr, ⊎_elim, add-mul, arith}
use Rattle.std.proofs.lemmas.Nat.{div-mul-add, mod-mul-add, mul-add-lt, div_below, mod_below, div-add-mod'}
use Rattle.std.proofs.lemmas.List.FromFn.{fill_by_all}
use Rattle.std.proofs.lemmas.Bool.{cases_eq, cases_Bool, eq-eqb, eqb-true, ltb-true, leb-true, cond-true, cond-false, and_parts, or_cases, both_ways}
use Rattle.futoshiki.specs.Board.{InRange}
use Rattle.puzzle.specs.Reading.{Puzzle}
use Rattle.puzzle.specs.Meaning.{claim_at}
use Rattle.drawing.specs.Drawn.{line_width, whole_length, frame_fits, row_fits, byte_fits, digit_place, byte_right, byte_below, drawn_puzzle}
use Rattle.drawing.specs.Redrawn.{is_given, is_signed, byte_between, cell_in, frame_byte, row_byte, drawn_byte, drawn_text}
use Rattle.drawing.specs.Theorems.{WellDrawn}
use Rattle.drawing.proofs.Answering.{present}
use Rattle.drawing.proofs.Finding.{given_found, claim_found, right_less, right_more, below_less, below_more}
use Rattle.drawing.proofs.Fitting.{fits_by_rest, fits_by, line_end, frame_line, row_line}
use Rattle.drawing.proofs.Redrawing.{byte_by_rest, feed_at, frame_at, row_at, whole_text}

-- a byte that is one of three, told by two tests
one_of_three : (b p q z : ℕ) → ((b ≡ z) ⊎ ((b ≡ p) ⊎ (b ≡ q))) → cond (eqb b p) p (cond (eqb b q) q z) ≡ b
one_of_three b p q z h =
    ⊎_elim
    (λ (t : eqb b p ≡ true). cond-true (eqb b p) p (cond (eqb b q) q z) t ∙ sym (eqb-true b p t))
    (λ (f : eqb b p ≡ false).
    cond-false (eqb b p) p (cond (eqb b q) q z) f
    ∙ ⊎_elim
    (λ (t : eqb b q ≡ true). cond-true (eqb b q) q z t ∙ sym (eqb-true b q t))
    (λ (g : eqb b q ≡ false).
    cond-false (eqb b q) q z g
    ∙ ⊎_elim (λ (e : b ≡ z). sym e) (λ w. absurd (⊎_elim (λ (e : b ≡ p). both_ways (eqb b p) f (eq-eqb b p e)) (λ (e : b ≡ q). both_ways (eqb b q) g (eq-eqb b q e)) w)) h)
    (cases_Bool (eqb b q)))
    (cases_Bool (eqb b p))

-- a sign or none, where signs may stand; none elsewhere
signed_byte : (may : Bool) (b p q z there : ℕ) → (eqb b z || (may && (eqb b p || eqb b q))) ≡ true → (may ≡ true → there ≡ cond (eqb b p) p (cond (eqb b q) q z)) → cond may there z ≡ b
signed_byte may b p q z there h e =
    ⊎_elim
    (λ (t : may ≡ true).
    cond-true may there z t ∙ e t
    ∙ one_of_three b p q z
    (⊎_elim
    (λ (y : eqb b z ≡ true). inl (eqb-true b z y))
    (λ w. inr (⊎_elim (λ (y : eqb b p ≡ true). inl (eqb-true b p y)) (λ (y : eqb b q ≡ true). inr (eqb-true b q y)) (or_cases (eqb b p) (eqb b q) (and_parts may (eqb b p || eqb b q) w).1)))
    (or_cases (eqb b z) (may && (eqb b p || eqb b q)) h)))
    (λ (f : may ≡ false).
    cond-false may there z f
    ∙ ⊎_elim
    (λ (y : eqb b z ≡ true). sym (eqb-true b z y))
    (λ w. absurd (both_ways may f (and_parts may (eqb b p || eqb b q) w).0))
    (or_cases (eqb b z) (may && (eqb b p || eqb b q)) h))
    (cases_Bool may)

-- one of two bytes, told by one test
one_of_two : (b p z : ℕ) → (eqb b z || eqb b p) ≡ true → cond (eqb b p) p z ≡ b
one_of_two b p z h =
    ⊎_elim
    (λ (t : eqb b p ≡ true). cond-true (eqb b p) p z t ∙ sym (eqb-true b p t))
    (λ (f : eqb b p ≡ false).
    cond-false (eqb b p) p z f ∙ ⊎_elim (λ (y : eqb b z ≡ true). sym (eqb-true b z y)) (λ (y : eqb b p ≡ true). absurd (both_ways (eqb b p) f y)) (or_cases (eqb b z) (eqb b p) h))
    (cases_Bool (eqb b p))

module _ (N : ℕ) (bytes : List ℕ) (drawn : WellDrawn N bytes) where
  abbrev W : ℕ
  W = line_width N

  abbrev P : Puzzle
  P = drawn_puzzle N bytes

  -- a cell by its row and its column
  module _ (r q : ℕ) (row_in : r < N) (column_in : q < N) where
    abbrev i : ℕ
    i = cell_in N r q

    on : InRange (N * N) i
    on = (omega arith, omega (arith, mul-add-lt r N q N row_in column_in))

    digit_at : digit_place N i ≡ (2 * r + 1) * W + (4 * q + 2)
    digit_at =
        let e : i - 1 ≡ r * N + q = omega arith in
        let d : (i - 1) / N ≡ r = ap (λ x. x / N) e ∙ div-mul-add r N q column_in in
        let m : (i - 1) % N ≡ q = ap (λ x. x % N) e ∙ mod-mul-add r N q column_in in
        ap (λ x. (2 * x + 1) * W + (4 * ((i - 1) % N) + 2)) d ∙ ap (λ x. (2 * r + 1) * W + (4 * x + 2)) m

    given_byte : (k p : ℕ) → k ≡ (2 * r + 1) * W + (4 * q + 1) → cond (is_given P.givens i) p 32 ≡ cond (eqb (get_or bytes k 0) 91) p 32
    unfolding drawn_puzzle
    given_byte k p e =
        let d = digit_at in
        let place : digit_place N i - 1 ≡ k = omega arith in
        ap (λ t. cond t p 32) (given_found N bytes i (N * N) on ∙ ap (λ x. eqb (get_or bytes x 0) 91) place)

    digit_byte : (k : ℕ) → k ≡ (2 * r + 1) * W + (4 * q + 2) → claim_at P.claims i ≡ get_or bytes k 0 - 48
    unfolding drawn_puzzle
    digit_byte k e = let d = digit_at in let place : digit_place N i ≡ k = omega arith in claim_found N bytes i (N * N) on ∙ ap (λ x. get_or bytes x 0 - 48) place

    right_byte : (k : ℕ) → k ≡ (2 * r + 1) * W + (4 * q + 4) → byte_between P.signs i (i + 1) 60 62 124 ≡ cond (eqb (get_or bytes k 0) 60) 60 (cond (eqb (get_or bytes k 0) 62) 62 124)
    unfolding drawn_puzzle
    right_byte k e =
        let d = digit_at in
        let place : digit_place N i + 2 ≡ k = omega arith in
        ap (λ t. cond t 60 (cond (is_signed P.signs (i + 1) i) 62 124)) (right_less N bytes drawn i on)
        ∙ ap (λ t. cond (eqb (byte_right N bytes i) 60) 60 (cond t 62 124)) (right_more N bytes drawn i on)
        ∙ ap (λ x. cond (eqb (get_or bytes x 0) 60) 60 (cond (eqb (get_or bytes x 0) 62) 62 124)) place

    below_byte : (k : ℕ) → k ≡ (2 * r + 2) * W + (4 * q + 2) → byte_between P.signs i (i + N) 94 118 45 ≡ cond (eqb (get_or bytes k 0) 94) 94 (cond (eqb (get_or bytes k 0) 118) 118 45)
    unfolding drawn_puzzle
    below_byte k e =
        let d = digit_at in
        let place : digit_place N i + W ≡ k = omega (arith, add-mul (2 * r + 1) 1 W) in
        ap (λ t. cond t 94 (cond (is_signed P.signs (i + N) i) 118 45)) (below_less N bytes drawn i on)
        ∙ ap (λ t. cond (eqb (byte_below N bytes i) 94) 94 (cond t 118 45)) (below_more N bytes drawn i on)
        ∙ ap (λ x. cond (eqb (get_or bytes x 0) 94) 94 (cond (eqb (get_or bytes x 0) 118) 118 45)) place

  -- a place by its line and its column
  module _ (k l c : ℕ) (place : k ≡ l * W + c) (line_in : l < 2 * N + 1) (column_in : c ≤ 4 * N) where
    abbrev b : ℕ
    b = get_or bytes k 0

    abbrev o : ℕ
    o = get_or bytes (k - 2) 0

    same_line : (m : ℕ) → m ≡ l → m * W ≡ l * W
    same_line m e = ap (λ x. x * W) e

    frame_again : l % 2 ≡ 0 → frame_fits N l c b ≡ true → frame_byte N P.signs l c ≡ b
    frame_again even h =
        let may = eqb (c % 4) 2 && ltb 0 l && ltb l (2 * N) in
        let there = byte_between P.signs (cell_in N (l / 2 - 1) (c / 4)) (cell_in N (l / 2 - 1) (c / 4) + N) 94 118 45 in
        ⊎_elim
        (λ (t : eqb (c % 4) 0 ≡ true).
        cond-true (eqb (c % 4) 0) 43 (cond may there 45) t
        ∙ sym (eqb-true b 43 (sym (cond-true (eqb (c % 4) 0) (eqb b 43) (eqb b 45 || (may && (eqb b 94 || eqb b 118))) t) ∙ h)))
        (λ (f : eqb (c % 4) 0 ≡ false).
        cond-false (eqb (c % 4) 0) 43 (cond may there 45) f
        ∙ signed_byte may b 94 118 45 there (sym (cond-false (eqb (c % 4) 0) (eqb b 43) (eqb b 45 || (may && (eqb b 94 || eqb b 118))) f) ∙ h)
        (λ t.
        let v = and_parts (eqb (c % 4) 2 && ltb 0 l) (ltb l (2 * N)) t in
        let u = and_parts (eqb (c % 4) 2) (ltb 0 l) v.0 in
        let two = eqb-true (c % 4) 2 u.0 in
        let up = ltb-true 0 l u.1 in
        let low = ltb-true l (2 * N) v.1 in
        let s = same_line (2 * (l / 2 - 1) + 2) (omega arith) in
        below_byte (l / 2 - 1) (c / 4) (omega arith) (omega arith) k (omega arith)))
        (cases_Bool (eqb (c % 4) 0))

    module _ (odd : l % 2 ≡ 0 → ⊥) (h : row_fits N c b o ≡ true) where
      border_again : c % 4 ≡ 0 → row_byte N P l c ≡ b
      border_again e =
          ap (byte_by_rest N P l c) e
          ∙ signed_byte (ltb 0 c && ltb c (4 * N)) b 60 62 124 (byte_between P.signs (cell_in N (l / 2) (c / 4 - 1)) (cell_in N (l / 2) (c / 4 - 1) + 1) 60 62 124) (sym (ap (fits_by_rest N c b o) e) ∙ h)
          (λ t.
          let v = and_parts (ltb 0 c) (ltb c (4 * N)) t in
          let up = ltb-true 0 c v.0 in
          let low = ltb-true c (4 * N) v.1 in
          let s = same_line (2 * (l / 2) + 1) (omega arith) in
          right_byte (l / 2) (c / 4 - 1) (omega arith) (omega arith) k (omega arith))

      opening_again : c % 4 ≡ 1 → row_byte N P l c ≡ b
      opening_again e =
          let s = same_line (2 * (l / 2) + 1) (omega arith) in
          ap (byte_by_rest N P l c) e ∙ given_byte (l / 2) (c / 4) (omega arith) (omega arith) k 91 (omega arith) ∙ one_of_two b 91 32 (sym (ap (fits_by_rest N c b o) e) ∙ h)

      digit_again : c % 4 ≡ 2 → row_byte N P l c ≡ b
      digit_again e =
          let s = same_line (2 * (l / 2) + 1) (omega arith) in
          let v = and_parts (leb 49 b) (leb b (48 + N)) (sym (ap (fits_by_rest N c b o) e) ∙ h) in
          let low = leb-true 49 b v.0 in
          let high = leb-true b (48 + N) v.1 in
          let n = drawn.nine_at_most in
          let d = digit_byte (l / 2) (c / 4) (omega arith) (omega arith) k (omega arith) in
          let value : (b - 48) % 10 ≡ b - 48 = omega arith in
          ap (byte_by_rest N P l c) e ∙ ap (λ x. 48 + x % 10) d ∙ omega arith

      closing_again : c % 4 ≡ 3 → row_byte N P l c ≡ b
      closing_again e =
          let s = same_line (2 * (l / 2) + 1) (omega arith) in
          ap (byte_by_rest N P l c) e ∙ given_byte (l / 2) (c / 4) (omega arith) (omega arith) (k - 2) 93 (omega arith) ∙ sym (eqb-true b (cond (eqb o 91) 93 32) (sym (ap (fits_by_rest N c b o) e) ∙ h))

      row_again : row_byte N P l c ≡ b
      row_again =
          ⊎_elim border_again
          (λ (d0 : c % 4 ≡ 0 → ⊥).
          ⊎_elim opening_again
          (λ (d1 : c % 4 ≡ 1 → ⊥). ⊎_elim digit_again (λ (d2 : c % 4 ≡ 2 → ⊥). closing_again (omega arith)) (cases_eq (c % 4) 2))
          (cases_eq (c % 4) 1))
          (cases_eq (c % 4) 0)

  -- each place is drawn as it was
  place_again : (k : ℕ) → k < whole_length N → get_or bytes k 0 ≡ drawn_byte P k
  unfolding drawn_puzzle
  place_again k h =
      let l = k / W in
      let c = k % W in
      let b = get_or bytes k 0 in
      let o = get_or bytes (k - 2) 0 in
      let whole = div-add-mod' k W in
      let line_in : l < 2 * N + 1 = div_below k W (2 * N + 1) (omega arith) h in
      let column_in : c < W = mod_below k W (omega arith) in
      let fit : byte_fits N l c b o ≡ true = fits_by N bytes k l c b o refl refl refl refl ∙ drawn.each_fits k h in
      ⊎_elim
      (λ (e : c ≡ 4 * N + 1). eqb-true b 10 (sym (line_end N l c b o e) ∙ fit) ∙ feed_at N P refl k l c refl refl e)
      (λ (d : c ≡ 4 * N + 1 → ⊥).
      ⊎_elim
      (λ (e : l % 2 ≡ 0). sym (frame_again k l c (omega arith) line_in (omega arith) e (sym (frame_line N l c b o d e) ∙ fit)) ∙ frame_at N P refl k l c refl refl d e)
      (λ (f : l % 2 ≡ 0 → ⊥). sym (row_again k l c (omega arith) line_in (omega arith) f (sym (row_line N l c b o d f) ∙ fit)) ∙ row_at N P refl k l c refl refl d f)
      (cases_eq (l % 2) 0))
      (cases_eq c (4 * N + 1))

  -- the last place is a line's end, and it is there
  long : length bytes ≡ whole_length N
  long =
      let k = 2 * N * W + (4 * N + 1) in
      let end : k + 1 ≡ whole_length N = omega (arith, add-mul (2 * N) 1 W) in
      let d : k / W ≡ 2 * N = div-mul-add (2 * N) W (4 * N + 1) (omega arith) in
      let m : k % W ≡ 4 * N + 1 = mod-mul-add (2 * N) W (4 * N + 1) (omega arith) in
      let fit : byte_fits N (2 * N) (4 * N + 1) (get_or bytes k 0) (get_or bytes (k - 2) 0) ≡ true = fits_by N bytes k (2 * N) (4 * N + 1) (get_or bytes k 0) (get_or bytes (k - 2) 0) (sym d) (sym m) refl refl ∙ drawn.each_fits k (omega arith) in
      let feed = eqb-true (get_or bytes k 0) 10 (sym (line_end N (2 * N) (4 * N + 1) (get_or bytes k 0) (get_or bytes (k - 2) 0) refl) ∙ fit) in
      let there = present bytes k (omega arith) in
      let most = drawn.no_more in
      omega arith

  pub drawn_again : drawn_text P ≡ bytes
  unfolding drawn_puzzle
  drawn_again = sym (whole_text P (whole_length N) bytes drawn.nine_at_most refl (fill_by_all (drawn_byte P) bytes (whole_length N) 0 long place_again))

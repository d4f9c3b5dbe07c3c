-- The places of a cell, and what may stand there.
use Rattle.std.proofs.Common.{◌≡◌, ℕ, ◌+◌, ◌-◌, ◌*◌, ◌/◌, ◌%◌, ◌<◌, ◌≤◌, true, cond, ◌&&◌, ◌||◌, eqb, ltb, leb, ◌⊎◌, List, get_or, sym, refl, ap, ◌∙◌, subst, ⊎_elim, mul_comm, add-mul, arith}
use Rattle.std.proofs.lemmas.Nat.{div-mul-add, mod-mul-add, div_below, mod_below, mul-add-lt}
use Rattle.std.proofs.lemmas.Bool.{eqb-true, ltb-true, leb-true, and_parts, or_cases}
use Rattle.futoshiki.specs.Board.{InRange}
use Rattle.drawing.specs.Drawn.{line_width, whole_length, frame_fits, row_fits, byte_fits, fits_place, digit_place, byte_right, byte_below}
use Rattle.drawing.specs.Theorems.{WellDrawn}
use Rattle.drawing.proofs.Fitting.{fits_by_rest, fits_by, row_line, frame_line}

-- a place by its line and column
pub fits_at : (N : ℕ) (bytes : List ℕ) (k l c : ℕ) → k ≡ l * line_width N + c → c < line_width N → fits_place N bytes k ≡ byte_fits N l c (get_or bytes k 0) (get_or bytes (k - 2) 0)
fits_at N bytes k l c e h =
    let d : k / line_width N ≡ l = ap (λ x. x / line_width N) e ∙ div-mul-add l (line_width N) c h in
    let m : k % line_width N ≡ c = ap (λ x. x % line_width N) e ∙ mod-mul-add l (line_width N) c h in
    sym (fits_by N bytes k l c (get_or bytes k 0) (get_or bytes (k - 2) 0) (sym d) (sym m) refl refl)

-- a digit, by its column
digit_row : (N c b o : ℕ) → row_fits N (4 * c + 2) b o ≡ true → (49 ≤ b) × (b ≤ 48 + N)
digit_row N c b o h =
    let e : (4 * c + 2) % 4 ≡ 2 = omega arith in
    let P : ℕ → Type 0 = λ x. fits_by_rest N (4 * c + 2) b o x ≡ true in
    let w = and_parts (leb 49 b) (leb b (48 + N)) (subst P e h) in
    (leb-true 49 b w.0, leb-true b (48 + N) w.1)

-- a sign right of a cell stands between two cells
sign_row : (N c b o : ℕ) → row_fits N (4 * c + 4) b o ≡ true → ((b ≡ 60) ⊎ (b ≡ 62)) → c + 1 < N
sign_row N c b o h s =
    let e : (4 * c + 4) % 4 ≡ 0 = omega arith in
    let P : ℕ → Type 0 = λ x. fits_by_rest N (4 * c + 4) b o x ≡ true in
    ⊎_elim
    (λ (q : eqb b 124 ≡ true). let v = eqb-true b 124 q in ⊎_elim (λ (x : b ≡ 60). absurd (omega arith)) (λ (x : b ≡ 62). absurd (omega arith)) s)
    (λ q.
    let w = and_parts (ltb 0 (4 * c + 4) && ltb (4 * c + 4) (4 * N)) (eqb b 60 || eqb b 62) q in
    let v = ltb-true (4 * c + 4) (4 * N) (and_parts (ltb 0 (4 * c + 4)) (ltb (4 * c + 4) (4 * N)) w.0).1 in
    omega arith)
    (or_cases (eqb b 124) (ltb 0 (4 * c + 4) && ltb (4 * c + 4) (4 * N) && (eqb b 60 || eqb b 62)) (subst P e h))

-- a sign below a cell stands between two rows
sign_frame : (N l c b : ℕ) → frame_fits N l (4 * c + 2) b ≡ true → ((b ≡ 94) ⊎ (b ≡ 118)) → l < 2 * N
sign_frame N l c b h s =
    let e : (4 * c + 2) % 4 ≡ 2 = omega arith in
    let P : ℕ → Type 0 = λ x. cond (eqb x 0) (eqb b 43) (eqb b 45 || (eqb x 2 && ltb 0 l && ltb l (2 * N) && (eqb b 94 || eqb b 118))) ≡ true in
    ⊎_elim
    (λ (q : eqb b 45 ≡ true). let v = eqb-true b 45 q in ⊎_elim (λ (x : b ≡ 94). absurd (omega arith)) (λ (x : b ≡ 118). absurd (omega arith)) s)
    (λ q.
    let w = and_parts (ltb 0 l && ltb l (2 * N)) (eqb b 94 || eqb b 118) q in
    ltb-true l (2 * N) (and_parts (ltb 0 l) (ltb l (2 * N)) w.0).1)
    (or_cases (eqb b 45) (ltb 0 l && ltb l (2 * N) && (eqb b 94 || eqb b 118)) (subst P e h))

-- the row and the column of a cell, from 0
module _ (N i : ℕ) (some : 1 ≤ N) (on : InRange (N * N) i) where
  pub row_below : (i - 1) / N < N
  row_below = div_below (i - 1) N N some (omega arith)

  pub column_below : (i - 1) % N < N
  column_below = mod_below (i - 1) N some

-- what stands in a cell, right of it and below it
module _ (N : ℕ) (bytes : List ℕ) (drawn : WellDrawn N bytes) (i : ℕ) (on : InRange (N * N) i) where
  some : 1 ≤ N
  some = let h = drawn.two_at_least in omega arith

  abbrev r : ℕ
  r = (i - 1) / N

  abbrev c : ℕ
  c = (i - 1) % N

  -- a place of the drawing fits
  fit : (k l d : ℕ) → k ≡ l * line_width N + d → l < 2 * N + 1 → d < line_width N → byte_fits N l d (get_or bytes k 0) (get_or bytes (k - 2) 0) ≡ true
  fit k l d e p q =
      let inside : k < whole_length N = omega (arith, mul-add-lt l (line_width N) d (2 * N + 1) p q, mul_comm (line_width N) (2 * N + 1)) in
      sym (fits_at N bytes k l d e q) ∙ drawn.each_fits k inside

  pub digit_drawn : (49 ≤ get_or bytes (digit_place N i) 0) × (get_or bytes (digit_place N i) 0 ≤ 48 + N)
  digit_drawn =
      let p = row_below N i some on in
      let q = column_below N i some on in
      let k = digit_place N i in
      digit_row N c (get_or bytes k 0) (get_or bytes (k - 2) 0)
      (sym (row_line N (2 * r + 1) (4 * c + 2) (get_or bytes k 0) (get_or bytes (k - 2) 0) (λ e. omega arith) (λ e. omega arith))
      ∙ fit k (2 * r + 1) (4 * c + 2) refl (omega arith) (omega arith))

  pub right_inside : ((byte_right N bytes i ≡ 60) ⊎ (byte_right N bytes i ≡ 62)) → c + 1 < N
  right_inside s =
      let p = row_below N i some on in
      let q = column_below N i some on in
      let k = digit_place N i + 2 in
      sign_row N c (get_or bytes k 0) (get_or bytes (k - 2) 0)
      (sym (row_line N (2 * r + 1) (4 * c + 4) (get_or bytes k 0) (get_or bytes (k - 2) 0) (λ e. omega arith) (λ e. omega arith))
      ∙ fit k (2 * r + 1) (4 * c + 4) (omega arith) (omega arith) (omega arith))
      s

  pub below_inside : ((byte_below N bytes i ≡ 94) ⊎ (byte_below N bytes i ≡ 118)) → r + 1 < N
  below_inside s =
      let p = row_below N i some on in
      let q = column_below N i some on in
      let k = digit_place N i + line_width N in
      let l = 2 * r + 2 in
      let e : k ≡ l * line_width N + (4 * c + 2) = omega (arith, add-mul (2 * r + 1) 1 (line_width N)) in
      let h = sign_frame N l c (get_or bytes k 0)
      (sym (frame_line N l (4 * c + 2) (get_or bytes k 0) (get_or bytes (k - 2) 0) (λ e. omega arith) (omega arith))
      ∙ fit k l (4 * c + 2) e (omega arith) (omega arith))
      s in
      omega arith

-- What fits in a line and a column, by the kind of the line.
use Rattle.std.proofs.Common.{◌≡◌, ℕ, ◌+◌, ◌-◌, ◌*◌, ◌/◌, ◌%◌, ◌<◌, Bool, true, false, cond, not, ◌&&◌, ◌||◌, eqb, ltb, leb, List, length, get_or, ap, ◌∙◌}
use Rattle.std.proofs.lemmas.List.{get_or_default}
use Rattle.std.proofs.lemmas.Bool.{eq-eqb, ne_eqb, cond-true, cond-false, not_from_false}
use Rattle.drawing.specs.Drawn.{line_width, frame_fits, row_fits, byte_fits, fits_place}

-- what fits a row of cells in a column, by the column's rest at 4
abbrev pub fits_by_rest : ℕ → ℕ → ℕ → ℕ → ℕ → Bool
fits_by_rest N c b o x =
    cond (eqb x 0) (eqb b 124 || (ltb 0 c && ltb c (4 * N) && (eqb b 60 || eqb b 62)))
    (cond (eqb x 1) (eqb b 32 || eqb b 91) (cond (eqb x 2) (leb 49 b && leb b (48 + N)) (eqb b (cond (eqb o 91) 93 32))))

pub fits_by : (N : ℕ) (bytes : List ℕ) (k l c b o : ℕ) → l ≡ k / line_width N → c ≡ k % line_width N → b ≡ get_or bytes k 0 → o ≡ get_or bytes (k - 2) 0 → byte_fits N l c b o ≡ fits_place N bytes k
unfolding fits_place
fits_by N bytes k l c b o p q e f =
    ap (λ x. byte_fits N x c b o) p ∙ ap (λ x. byte_fits N (k / line_width N) x b o) q
    ∙ ap (λ x. byte_fits N (k / line_width N) (k % line_width N) x o) e ∙ ap (λ x. byte_fits N (k / line_width N) (k % line_width N) (get_or bytes k 0) x) f

module _ (N l c b o : ℕ) where
  pub line_end : c ≡ 4 * N + 1 → byte_fits N l c b o ≡ eqb b 10
  line_end e = cond-true (eqb c (4 * N + 1)) (eqb b 10) (cond (eqb (l % 2) 0) (frame_fits N l c b) (row_fits N c b o)) (eq-eqb c (4 * N + 1) e)

  within_line : (c ≡ 4 * N + 1 → ⊥) → byte_fits N l c b o ≡ cond (eqb (l % 2) 0) (frame_fits N l c b) (row_fits N c b o)
  within_line d = cond-false (eqb c (4 * N + 1)) (eqb b 10) (cond (eqb (l % 2) 0) (frame_fits N l c b) (row_fits N c b o)) (ne_eqb c (4 * N + 1) d)

  pub frame_line : (c ≡ 4 * N + 1 → ⊥) → l % 2 ≡ 0 → byte_fits N l c b o ≡ frame_fits N l c b
  frame_line d e = within_line d ∙ cond-true (eqb (l % 2) 0) (frame_fits N l c b) (row_fits N c b o) (eq-eqb (l % 2) 0 e)

  pub row_line : (c ≡ 4 * N + 1 → ⊥) → (l % 2 ≡ 0 → ⊥) → byte_fits N l c b o ≡ row_fits N c b o
  row_line d e = within_line d ∙ cond-false (eqb (l % 2) 0) (frame_fits N l c b) (row_fits N c b o) (ne_eqb (l % 2) 0 e)

-- whether the first line goes on at a place
module _ (bytes : List ℕ) (k : ℕ) where
  pub ends_here : k < length bytes → get_or bytes k 0 ≡ 10 → not (eqb (get_or bytes k 10) 10) ≡ false
  ends_here h e = ap (λ b. not (eqb b 10)) (get_or_default bytes k 10 0 h ∙ e)

  pub line_goes_on : k < length bytes → (get_or bytes k 0 ≡ 10 → ⊥) → not (eqb (get_or bytes k 10) 10) ≡ true
  line_goes_on h d = not_from_false (eqb (get_or bytes k 10) 10) (ne_eqb (get_or bytes k 10) 10 (λ e. d (get_or_default bytes k 0 10 h ∙ e)))

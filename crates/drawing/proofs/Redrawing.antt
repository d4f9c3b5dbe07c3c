-- A text that is drawn place by place.
use Rattle.std.proofs.Common.{◌≡◌, ℕ, ◌+◌, ◌-◌, ◌*◌, ◌/◌, ◌%◌, ◌<◌, ◌≤◌, cond, ◌&&◌, eqb, ltb, leb, List, [], ◌∷◌, ◌++◌, map, sym, ap, ◌∙◌, arith}
use Rattle.std.specs.List.{range_with_len}
use Rattle.std.proofs.lemmas.List.FromFn.{map-range_with_len_more}
use Rattle.std.proofs.lemmas.Bool.{eq-eqb, ne_eqb, cond-true, cond-false, le-leb, lt-leb}
use Rattle.puzzle.specs.Reading.{Puzzle}
use Rattle.puzzle.specs.Meaning.{claim_at}
use Rattle.drawing.specs.Drawn.{line_width, whole_length}
use Rattle.drawing.specs.Redrawn.{is_given, byte_between, cell_in, frame_byte, row_byte, byte_in, drawn_byte, drawn_text}

-- the byte in a column of a row of cells, by the column's rest at 4
abbrev pub byte_by_rest : ℕ → Puzzle → ℕ → ℕ → ℕ → ℕ
byte_by_rest N P l c x =
    cond (eqb x 0) (cond (ltb 0 c && ltb c (4 * N)) (byte_between P.signs (cell_in N (l / 2) (c / 4 - 1)) (cell_in N (l / 2) (c / 4 - 1) + 1) 60 62 124) 124)
    (cond (eqb x 1) (cond (is_given P.givens (cell_in N (l / 2) (c / 4))) 91 32)
    (cond (eqb x 2) (48 + claim_at P.claims (cell_in N (l / 2) (c / 4)) % 10) (cond (is_given P.givens (cell_in N (l / 2) (c / 4))) 93 32)))

-- the byte at a place of a grid of the puzzle's side, by the kind of its line
module _ (N : ℕ) (P : Puzzle) (same : N ≡ P.size) (k l c : ℕ) (line : l ≡ k / line_width N) (column : c ≡ k % line_width N) where
  byte_by : byte_in N P l c ≡ drawn_byte P k
  unfolding drawn_byte
  byte_by = ap (λ x. byte_in N P x c) line ∙ ap (byte_in N P (k / line_width N)) column ∙ ap (λ n. byte_in n P (k / line_width n) (k % line_width n)) same

  pub feed_at : c ≡ 4 * N + 1 → 10 ≡ drawn_byte P k
  feed_at e = sym (cond-true (eqb c (4 * N + 1)) 10 (cond (eqb (l % 2) 0) (frame_byte N P.signs l c) (row_byte N P l c)) (eq-eqb c (4 * N + 1) e)) ∙ byte_by

  within_line : (c ≡ 4 * N + 1 → ⊥) → cond (eqb (l % 2) 0) (frame_byte N P.signs l c) (row_byte N P l c) ≡ drawn_byte P k
  within_line d = sym (cond-false (eqb c (4 * N + 1)) 10 (cond (eqb (l % 2) 0) (frame_byte N P.signs l c) (row_byte N P l c)) (ne_eqb c (4 * N + 1) d)) ∙ byte_by

  pub frame_at : (c ≡ 4 * N + 1 → ⊥) → l % 2 ≡ 0 → frame_byte N P.signs l c ≡ drawn_byte P k
  frame_at d e = sym (cond-true (eqb (l % 2) 0) (frame_byte N P.signs l c) (row_byte N P l c) (eq-eqb (l % 2) 0 e)) ∙ within_line d

  pub row_at : (c ≡ 4 * N + 1 → ⊥) → (l % 2 ≡ 0 → ⊥) → row_byte N P l c ≡ drawn_byte P k
  row_at d e = sym (cond-false (eqb (l % 2) 0) (frame_byte N P.signs l c) (row_byte N P l c) (ne_eqb (l % 2) 0 e)) ∙ within_line d

-- a text, byte after byte
module _ (P : Puzzle) where
  pub one_byte_more : (k b : ℕ) (x y : List ℕ) → x ≡ map (drawn_byte P) (range_with_len 0 k) → y ≡ x ++ b ∷ [] → b ≡ drawn_byte P k → y ≡ map (drawn_byte P) (range_with_len 0 (k + 1))
  one_byte_more k b x y p q e = q ∙ ap (λ l. l ++ b ∷ []) p ∙ ap (λ c. map (drawn_byte P) (range_with_len 0 k) ++ c ∷ []) e ∙ sym (map-range_with_len_more (drawn_byte P) 0 k k (omega arith))

  pub no_text : 9 < P.size → [] ≡ drawn_text P
  unfolding drawn_text
  no_text h = sym (cond-false (leb P.size 9) (map (drawn_byte P) (range_with_len 0 (whole_length P.size))) [] (lt-leb P.size 9 h))

  pub whole_text : (k : ℕ) (x : List ℕ) → P.size ≤ 9 → k ≡ whole_length P.size → x ≡ map (drawn_byte P) (range_with_len 0 k) → x ≡ drawn_text P
  unfolding drawn_text
  whole_text k x h e p =
      p ∙ ap (λ n. map (drawn_byte P) (range_with_len 0 n)) e ∙ sym (cond-true (leb P.size 9) (map (drawn_byte P) (range_with_len 0 (whole_length P.size))) [] (le-leb P.size 9 h))

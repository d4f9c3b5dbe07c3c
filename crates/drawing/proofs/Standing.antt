-- What is known of every text.
use Rattle.std.proofs.Common.{◌≡◌, ℕ, ◌+◌, ◌%◌, ◌<◌, ◌≤◌, true, false, ◌&&◌, eqb, leb, List, length, Ok, Err, Result, sym, ap, ◌∙◌, ⊎_elim, arith}
use Rattle.std.proofs.lemmas.Bool.{cases_Bool, cases_lt, and_parts, leb-true}
use Rattle.puzzle.proofs.Whole.{is_taken}
use Rattle.drawing.specs.Drawn.{drawn_puzzle, first_line, line_of_side, whole_length, first_unfit, drawn_words, told_place, drawn_side, drawn_answer}
use Rattle.drawing.specs.Theorems.{WellDrawn, DrawingStands}
use Rattle.drawing.proofs.Answering.{refused_line, sided, whole_answer, unfit_answer, longer_answer, well_drawn, side_is, answer_drawn}
use Rattle.drawing.proofs.Sounding.{accepted_drawing}

pub refused_not_taken : {A B : Type 0} (r : Result A B) (x : A) (y : B) → r ≡ Ok x → r ≡ Err y → ⊥
refused_not_taken r x y p q = let z : ◌≡◌ {A = ℕ} 0 1 = cc in omega arith

pub same_taken : {A B : Type 0} (r : Result A B) (x y : A) → r ≡ Ok x → r ≡ Ok y → x ≡ y
same_taken r x y p q = cc

module _ (bytes : List ℕ) where
  abbrev N : ℕ
  N = drawn_side bytes

  side_low_high : line_of_side (first_line bytes) ≡ true → (2 ≤ N) × (N ≤ 9)
  side_low_high t =
      let w = and_parts (eqb (first_line bytes % 4) 1 && leb 2 N) (leb N 9) t in
      let v = and_parts (eqb (first_line bytes % 4) 1) (leb 2 N) w.0 in
      (leb-true 2 N v.1, leb-true N 9 w.1)

  taken : (ws : List ℕ) → drawn_answer bytes ≡ Ok ws → WellDrawn N bytes × (ws ≡ drawn_words N bytes)
  taken ws e =
      ⊎_elim
      (λ (t : line_of_side (first_line bytes) ≡ true).
      let s = sided bytes t in
      let r = told_place N (first_unfit N bytes) in
      let w = side_low_high t in
      ⊎_elim
      (λ (u : first_unfit N bytes < whole_length N). absurd (refused_not_taken (drawn_answer bytes) ws r e (s ∙ unfit_answer bytes N u)))
      (λ (f : whole_length N ≤ first_unfit N bytes).
      ⊎_elim
      (λ (l : whole_length N < length bytes). absurd (refused_not_taken (drawn_answer bytes) ws r e (s ∙ longer_answer bytes N l)))
      (λ (l : length bytes ≤ whole_length N). (well_drawn bytes N w.0 w.1 f l, same_taken (drawn_answer bytes) ws (drawn_words N bytes) e (s ∙ whole_answer bytes N f l)))
      (cases_lt (whole_length N) (length bytes)))
      (cases_lt (first_unfit N bytes) (whole_length N)))
      (λ (f : line_of_side (first_line bytes) ≡ false). absurd (refused_not_taken (drawn_answer bytes) ws (1, first_line bytes + 1) e (refused_line bytes f)))
      (cases_Bool (line_of_side (first_line bytes)))

  pub drawing_stands : DrawingStands bytes
  drawing_stands = record {
    taken_drawing = λ ws. (taken ws, λ w. answer_drawn N bytes w.0 ∙ ap Ok (sym w.1));
    one_side = λ M drawn. side_is M bytes drawn;
    words_accepted = λ M drawn. accepted_drawing M bytes drawn;
    words_read = λ M drawn t g c s. is_taken t (drawn_words M bytes) (drawn_puzzle M bytes) (accepted_drawing M bytes drawn t g c s);
  }

-- The sample's answers, computed.
use Rattle.std.proofs.Common.{◌≡◌, ℕ, List, Ok, refl}
use Rattle.words.specs.Layouts.{item_word}
use Rattle.puzzle.specs.Meaning.{claim_at}
use Rattle.drawing.specs.Drawn.{first_line, fits_place, first_unfit, drawn_entry, drawn_given, drawn_signs, drawn_puzzle, drawn_answer}
use Rattle.drawing.specs.Redrawn.{is_given, is_signed, drawn_byte, drawn_text}
use Rattle.drawing.specs.declared.undrawn.Undrawn.{Undrawn}
use Rattle.drawing.specs.declared.undrawn.Undrawn.TheVariants.{At, Memory}
use Rattle.drawing.specs.Sample.{sample_drawing, sample_answer, Sample}
use Rattle.drawing.specs.Theorems.{RefusedAs}
use Rattle.drawing.proofs.Standing.{refused_not_taken, same_taken}

pub sample_stands : Sample
unfolding item_word claim_at first_line fits_place first_unfit drawn_entry drawn_given drawn_signs drawn_puzzle drawn_answer is_given is_signed drawn_byte drawn_text
sample_stands = record { taken_sample = refl; turned_away = refl; shown_again = refl }

pub sample_words_are : (ws : List ℕ) → drawn_answer sample_drawing ≡ Ok ws → ws ≡ sample_answer
sample_words_are ws e = same_taken (drawn_answer sample_drawing) ws sample_answer e sample_stands.taken_sample

pub sample_not_refused : (u : Undrawn) → RefusedAs sample_drawing u → u ≡ Memory
sample_not_refused (At l c) h = absurd (refused_not_taken (drawn_answer sample_drawing) sample_answer (l, c) sample_stands.taken_sample h)
sample_not_refused Memory h = refl

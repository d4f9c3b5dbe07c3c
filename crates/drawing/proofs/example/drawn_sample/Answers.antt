use Rattle.std.proofs.Common.{vec_items}
use Rattle.std.proofs.lemmas.Result.{MatchResult-weaker}
use Rattle.drawing.proofs.Sampling.{sample_stands, sample_words_are, sample_not_refused}
use Rattle.drawing.proofs.example.drawn_sample.Goals as goal

pub returns : goal.returns
returns c = record {
  words = MatchResult-weaker c.words_of_drawing.result c.words_of_drawing.ensures.answer (λ ws e. sample_words_are (vec_items ws) e) sample_not_refused;
  sample = sample_stands;
}

use Rattle.std.proofs.Common.{refl}
use Rattle.futoshiki.specs.Board.{sharing_side}
use Rattle.words.specs.Layouts.{decoded}
use Rattle.words.specs.Bytes.{words_in}
use Rattle.puzzle.specs.Reading.{all_claimed, first_failed, read_from, read_list}
use Rattle.puzzle.specs.Meaning.{puzzle_listing, claim_at, claimed_filling, claim_bytes}
use Rattle.puzzle.proofs.sample.sample_words.Goals as goal

pub returns : goal.returns
unfolding sharing_side decoded words_in all_claimed first_failed read_from read_list puzzle_listing claim_at claimed_filling claim_bytes
returns c = record {
  words = refl;
  sample = record { read = refl; eight_variables = refl; nineteen_clauses = refl; eighteenth = refl; filled = refl; bytes_claimed = refl; turned_away = refl };
}

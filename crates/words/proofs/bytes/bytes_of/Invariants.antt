use Rattle.std.proofs.Common.{◌≡◌, take, vec_items}
use Rattle.words.specs.Bytes.{bytes_in}
use Rattle.words.proofs.bytes.bytes_of.Given as goal

abbrev pub invariant-loop-word : goal.invariant-loop-word
invariant-loop-word l = vec_items l.bytes ≡ bytes_in (take l.word-index l.words)

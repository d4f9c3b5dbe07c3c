use Rattle.std.proofs.Common.{◌≡◌, ◌/◌, [], ◌∷◌, ◌++◌, length, map, vec_items, ap, ◌∙◌, arith, rules}
use Rattle.std.specs.Int.{w32, from_le_bytes}
use Rattle.std.specs.Simd.{first_chunks}
use Rattle.words.specs.Bytes.{odd_word}
use Rattle.words.proofs.Byting.{some_left, none_left}
use Rattle.words.proofs.bytes.words_of.Goals as goal
use Rattle.words.proofs.bytes.words_of.Goals.{then-not-is_empty+in_ok-reserve_exact+in_ok-push, else-not-is_empty}

pub returns-clause-answer : goal.returns-clause-answer
returns-clause-answer c =
    let bs = c.args.bytes.now in
    let odds = c.as_chunks.result.1.now in
    let back = c.as_chunks.ensures.back in
    let each_four : vec_items c.in_ok-words.words ≡ map (from_le_bytes w32) (first_chunks 4 (length bs / 4) bs) = search rules in
    elim c.if-not-is_empty.branch [
      | then-not-is_empty+in_ok-reserve_exact+in_ok-push w ↦ ap vec_items w.words-is ∙ w.in_ok-push.ensures.items ∙ ap (λ ws. ws ++ odd_word ∷ []) w.in_ok-reserve_exact.ensures.items ∙ some_left bs _ odds each_four back (grind arith)
      | else-not-is_empty w ↦ ap vec_items w.words-is ∙ none_left bs _ odds each_four back (grind arith)
    ]

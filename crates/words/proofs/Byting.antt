-- Words and their bytes.
use Rattle.std.proofs.Common.{◌≡◌, ◌≢◌, ℕ, zero, suc, map, ◌+◌, ◌*◌, ◌/◌, ◌%◌, ◌^◌, ◌<◌, ◌≤◌, List, [], ◌∷◌, ◌++◌, length, drop, sym, refl, ap, ◌∙◌, ap₂, append-nil, arith}
use Rattle.std.proofs.lemmas.Nat.{shr_split, mod-pow-add}
use Rattle.std.specs.Int.{w32, from_le_bytes}
use Rattle.std.specs.Simd.{first_chunks}
use Rattle.words.specs.Layouts.{decoded}
use Rattle.words.specs.Bytes.{odd_word, word_of, words_in, bytes_in}
use Rattle.words.specs.Laws.{SaysNothing, further_word, BytesRead}
use Rattle.words.proofs.Layouting.{says_nothing}

-- a word is its four bytes, each at its weight
value : (w : ℕ) → w % 2 ^ 8 + w / 2 ^ 8 % 2 ^ 8 * 2 ^ 8 + w / 2 ^ 16 % 2 ^ 8 * 2 ^ 16 + w / 2 ^ 24 * 2 ^ 24 ≡ w
value w = omega (arith, shr_split w 24, mod-pow-add w 8 16, mod-pow-add w 8 8)

odd : (bytes : List ℕ) → length bytes < 4 → words_in bytes ≡ further_word bytes
unfolding words_in
odd [] h = refl
odd (a ∷ []) h = refl
odd (a ∷ b ∷ []) h = refl
odd (a ∷ b ∷ c ∷ []) h = refl
odd (a ∷ b ∷ c ∷ d ∷ bytes) h = absurd (omega arith)

each : (ws bytes : List ℕ) → length bytes < 4 → words_in (bytes_in ws ++ bytes) ≡ ws ++ further_word bytes
unfolding words_in
each [] bytes h = odd bytes h
each (w ∷ ws) bytes h = ap₂ (λ x y. x ∷ y) (value w) (each ws bytes h)

odd_nothing : SaysNothing odd_word
unfolding decoded
odd_nothing = says_nothing 0 refl

pub bytes_read : BytesRead
bytes_read = record { words_back = each; odd_says_nothing = odd_nothing }

-- the words of four bytes each, and the further word of the odd bytes
in_fours : (k : ℕ) (bs : List ℕ) → k * 4 ≤ length bs → length bs < k * 4 + 4
    → map (from_le_bytes w32) (first_chunks 4 k bs) ++ further_word (drop (k * 4) bs) ≡ words_in bs
unfolding words_in
in_fours zero bs l h = sym (odd bs h)
in_fours (suc k) [] l h = absurd (omega arith)
in_fours (suc k) (a ∷ []) l h = absurd (omega arith)
in_fours (suc k) (a ∷ b ∷ []) l h = absurd (omega arith)
in_fours (suc k) (a ∷ b ∷ c ∷ []) l h = absurd (omega arith)
in_fours (suc k) (a ∷ b ∷ c ∷ d ∷ bs) l h =
    let n : suc k * 4 ≡ suc (suc (suc (suc (k * 4)))) = omega arith in
    ap (λ m. map (from_le_bytes w32) (first_chunks 4 (suc k) (a ∷ b ∷ c ∷ d ∷ bs)) ++ further_word (drop m (a ∷ b ∷ c ∷ d ∷ bs))) n
    ∙ ap (λ ws. word_of a b c d ∷ ws) (in_fours k bs (omega arith) (omega arith))

-- the words that fours of bytes give, and the further word where a byte is left
module _ (bs ws odds : List ℕ) (each_four : ws ≡ map (from_le_bytes w32) (first_chunks 4 (length bs / 4) bs)) (after : odds ≡ drop (length bs / 4 * 4) bs) where
  with_odd : ws ++ further_word odds ≡ words_in bs
  with_odd = ap₂ (λ vs r. vs ++ further_word r) each_four after ∙ in_fours (length bs / 4) bs (omega arith) (omega arith)

  pub some_left : length odds ≢ 0 → ws ++ odd_word ∷ [] ≡ words_in bs
  some_left h = ap (λ r. ws ++ r) (go odds h) ∙ with_odd
    where
      go : (l : List ℕ) → length l ≢ 0 → odd_word ∷ [] ≡ further_word l
      go [] h = absurd (h refl)
      go (b ∷ l) h = refl

  pub none_left : length odds ≡ 0 → ws ≡ words_in bs
  none_left h = sym (append-nil ws) ∙ ap (λ r. ws ++ r) (go odds h) ∙ with_odd
    where
      go : (l : List ℕ) → length l ≡ 0 → [] ≡ further_word l
      go [] h = refl
      go (b ∷ l) h = absurd (omega arith)

-- The words of a file's bytes, and the bytes of words.
use Rattle.std.specs.Prelude.{ℕ, ◌+◌, ◌*◌, ◌/◌, ◌%◌, ◌^◌, List, [], ◌∷◌}
use Rattle.std.specs.List.{flat_map}

-- the word of odd bytes at the end: its kind is unknown
abbrev pub odd_word : ℕ
odd_word = 0

-- the word of four bytes, low byte first
abbrev pub word_of : ℕ → ℕ → ℕ → ℕ → ℕ
word_of a b c d = a + b * 2 ^ 8 + c * 2 ^ 16 + d * 2 ^ 24

-- the words of a file's bytes, low byte first; one to three odd bytes at the end are a further word
unfoldable pub words_in : List ℕ → List ℕ
words_in [] = []
words_in (a ∷ []) = odd_word ∷ []
words_in (a ∷ b ∷ []) = odd_word ∷ []
words_in (a ∷ b ∷ c ∷ []) = odd_word ∷ []
words_in (a ∷ b ∷ c ∷ d ∷ bytes) = word_of a b c d ∷ words_in bytes

-- the four bytes of a word, low byte first
abbrev pub four_bytes : ℕ → List ℕ
four_bytes w = w % 2 ^ 8 ∷ w / 2 ^ 8 % 2 ^ 8 ∷ w / 2 ^ 16 % 2 ^ 8 ∷ w / 2 ^ 24 ∷ []

-- the bytes of words
abbrev pub bytes_in : List ℕ → List ℕ
bytes_in ws = flat_map four_bytes ws

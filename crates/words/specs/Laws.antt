-- What words say, in the subject's words.
use Rattle.std.specs.Prelude.{◌≡◌, ℕ, ◌<◌, ◌↔◌, List, [], ◌∷◌, ◌++◌, length, Some, Option, MatchOption, ◌≢◌}
use Rattle.words.specs.declared.item.Item.{Item}
use Rattle.words.specs.Layouts.{decoded, item_word, FitsBits}
use Rattle.words.specs.Bytes.{odd_word, words_in, bytes_in}

-- a word says an item exactly when it is the item's word, and the item's fields have bits enough
abbrev pub SaysByLayout : ℕ → Type 0
SaysByLayout w = (it : Item) → (decoded w ≡ Some it) ↔ ((w ≡ item_word it) × FitsBits it)

-- an item's word is told, unless a field has too few bits for it
abbrev pub Encoded : Item → Option ℕ → Type 0
Encoded it r = MatchOption r (FitsBits it → ⊥) (λ w. FitsBits it × (w ≡ item_word it))

-- a word is no item's word
abbrev pub SaysNothing : ℕ → Type 0
SaysNothing w = (it : Item) → FitsBits it → w ≢ item_word it

-- the further word of odd bytes, if there are any
abbrev pub further_word : List ℕ → List ℕ
further_word [] = []
further_word (b ∷ bytes) = odd_word ∷ []

-- the bytes of words, with up to three odd bytes after them, are read as those words and a further one, which says nothing
pub record BytesRead : Type 0 where
  pub words_back : (ws bytes : List ℕ) → length bytes < 4 → words_in (bytes_in ws ++ bytes) ≡ ws ++ further_word bytes
  pub odd_says_nothing : SaysNothing odd_word

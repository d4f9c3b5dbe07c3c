-- The layout of a puzzle's words: what each says, and the word that says it.
use Rattle.std.specs.Prelude.{ℕ, ◌+◌, ◌*◌, ◌/◌, ◌%◌, ◌^◌, ◌<◌, cond, Some, None, Option, ◌==◌}
use Rattle.futoshiki.specs.declared.sign.Sign.{Sign}
use Rattle.words.specs.declared.entry.Entry.{Entry}
use Rattle.words.specs.declared.item.Item.{Item}
use Rattle.words.specs.declared.item.Item.TheVariants.{Board, Given, Claim, Less, End}

-- the bits of a word from one on, so many
abbrev pub field : ℕ → ℕ → ℕ → ℕ
field w low size = w / 2 ^ low % 2 ^ size

-- bits 31 to 28: the kind
abbrev pub kind_of : ℕ → ℕ
kind_of w = w / 2 ^ 28

-- the cell and the value of a given or a claim
abbrev pub entry_in : ℕ → Entry
entry_in w = record { cell = field w 16 12; value = field w 8 8 }

-- the two cells of a sign
abbrev pub sign_in : ℕ → Sign
sign_in w = record { lesser = field w 16 12; greater = field w 4 12 }

-- what a word says if its lowest bits, so many, are 0
abbrev pub clean : ℕ → ℕ → Item → Option Item
clean zeros w it = cond (w % 2 ^ zeros == 0) (Some it) None

-- what a word says, by its kind; nothing where the kind is unknown or a bit is set that must be 0
unfoldable pub decoded : ℕ → Option Item
decoded w =
    cond (kind_of w == 1) (clean 16 w (Board (field w 24 4) (field w 16 8)))
    (cond (kind_of w == 2) (clean 8 w (Given (entry_in w)))
    (cond (kind_of w == 3) (clean 4 w (Less (sign_in w)))
    (cond (kind_of w == 5) (clean 8 w (Claim (entry_in w)))
    (cond (kind_of w == 15) (clean 28 w End) None))))

-- the word that says it
unfoldable pub item_word : Item → ℕ
item_word (Board p N) = 1 * 2 ^ 28 + p * 2 ^ 24 + N * 2 ^ 16
item_word (Given e) = 2 * 2 ^ 28 + e.cell * 2 ^ 16 + e.value * 2 ^ 8
item_word (Claim e) = 5 * 2 ^ 28 + e.cell * 2 ^ 16 + e.value * 2 ^ 8
item_word (Less s) = 3 * 2 ^ 28 + s.lesser * 2 ^ 16 + s.greater * 2 ^ 4
item_word End = 15 * 2 ^ 28

-- each field has bits enough
abbrev pub FitsBits : Item → Type 0
FitsBits (Board p N) = (p < 2 ^ 4) × (N < 2 ^ 8)
FitsBits (Given e) = (e.cell < 2 ^ 12) × (e.value < 2 ^ 8)
FitsBits (Claim e) = (e.cell < 2 ^ 12) × (e.value < 2 ^ 8)
FitsBits (Less s) = (s.lesser < 2 ^ 12) × (s.greater < 2 ^ 12)
FitsBits End = Unit {0}

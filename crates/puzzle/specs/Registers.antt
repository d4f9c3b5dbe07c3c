-- Records that speak of the same cell or the same pair of cells, and lists without two such.
use Rattle.std.specs.Prelude.{◌≡◌, ◌⊎◌, List, [], ◌∷◌}
use Rattle.std.specs.List.{AllByRecursion}
use Rattle.futoshiki.specs.declared.sign.Sign.{Sign}
use Rattle.words.specs.declared.entry.Entry.{Entry}

-- two givens or two claims speak of one cell
abbrev pub SameCell : Entry → Entry → Type 0
SameCell e g = e.cell ≡ g.cell

-- two signs stand between the same cells
abbrev pub SamePair : Sign → Sign → Type 0
SamePair s t = ((s.lesser ≡ t.lesser) × (s.greater ≡ t.greater)) ⊎ ((s.lesser ≡ t.greater) × (s.greater ≡ t.lesser))

-- no two members are the same in this respect
abbrev pub Once : {A : Type 0} → (A → A → Type 0) → List A → Type 0
Once Same [] = Unit {0}
Once Same (x ∷ xs) = AllByRecursion (λ y. Same x y → ⊥) xs × Once Same xs

-- some member is such
abbrev pub Any : {A : Type 0} → (A → Type 0) → List A → Type 0
Any P [] = ⊥
Any P (x ∷ xs) = P x ⊎ Any P xs

-- Records by key, where `same` tells whether two keys are equal.
use Rattle.std.specs.Prelude.{◌≡◌, Bool, false, List, [], ◌∷◌}
use Rattle.std.specs.List.{AllByRecursion, list_any}

-- whether a key is among those of some records
abbrev pub has_key : {X K : Type 0} → (K → K → Bool) → (X → K) → List X → K → Bool
has_key same key_of xs k = list_any (λ x. same (key_of x) k) xs

-- no two records have one key
abbrev pub NoKeyTwice : {X K : Type 0} → (K → K → Bool) → (X → K) → List X → Type 0
NoKeyTwice same key_of [] = Unit {0}
NoKeyTwice same key_of (x ∷ xs) = AllByRecursion (λ y. same (key_of x) (key_of y) ≡ false) xs × NoKeyTwice same key_of xs

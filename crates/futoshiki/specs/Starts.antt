-- The starts of clauses in a list of literals.
use Rattle.std.specs.Prelude.{◌≡◌, ℕ, ◌≤◌, List, [], ◌∷◌}
use Rattle.std.specs.Coded.{Coded-set, coded_ℕ, ×_prop, le_prop}

-- no start leaves the n literals, and the last is n; the first is given apart
abbrev pub EndsFrom : ℕ → ℕ → List ℕ → Type 0
EndsFrom n a [] = a ≡ n
EndsFrom n a (b ∷ bs) = (a ≤ n) × EndsFrom n b bs

-- the same of all starts, of which there is one at least
abbrev pub EndsAt : ℕ → List ℕ → Type 0
EndsAt n [] = ⊥
EndsAt n (a ∷ bs) = EndsFrom n a bs

pub EndsFrom-prop : (n a : ℕ) (bs : List ℕ) → IsProp (EndsFrom n a bs)
EndsFrom-prop n a [] = Coded-set coded_ℕ a n
EndsFrom-prop n a (b ∷ bs) = ×_prop le_prop (EndsFrom-prop n b bs)

pub EndsAt-prop : (n : ℕ) (starts : List ℕ) → IsProp (EndsAt n starts)
EndsAt-prop n [] = λ x y. absurd x
EndsAt-prop n (a ∷ bs) = EndsFrom-prop n a bs

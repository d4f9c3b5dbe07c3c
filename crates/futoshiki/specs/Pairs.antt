-- The pair of cells between which a sign stands, as a register compares it.
use Rattle.std.specs.Prelude.{ℕ, Bool, ◌&&◌, ◌==◌, min, max}
use Rattle.futoshiki.specs.declared.sign.Sign.{Sign}

-- the key of a sign is its pair of cells, in either order
abbrev pub pair_key : Sign → ℕ × ℕ
pair_key s = (min s.lesser s.greater, max s.lesser s.greater)

-- whether two keys are equal
abbrev pub same_pair : ℕ × ℕ → ℕ × ℕ → Bool
same_pair p q = p.0 == q.0 && p.1 == q.1

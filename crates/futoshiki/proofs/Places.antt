-- Numbers counted from 1 in blocks of N: place v of block i is (i - 1) * N + v.
use Rattle.std.proofs.Common.{◌≡◌, ℕ, ◌+◌, ◌-◌, ◌*◌, ◌/◌, ◌%◌, ◌≤◌, sym, ap, ◌∙◌, mul_comm, arith}
use Rattle.std.proofs.lemmas.Nat.{mul-add-lt, div-mul-add, div_below, mod_below, div-add-mod'}
use Rattle.futoshiki.specs.Board.{InRange, variable_at}

pub within : (M N i v : ℕ) → InRange M i → InRange N v → InRange (M * N) (variable_at N i v)
within M N i v wi wv = (omega arith, omega (arith, mul-add-lt (i - 1) N (v - 1) M (omega arith) (omega arith), mul_comm N M))

pub same_block : (N i j v w : ℕ) → 1 ≤ i → 1 ≤ j → InRange N v → InRange N w → variable_at N i v ≡ variable_at N j w → i ≡ j
same_block N i j v w pi pj wv ww e =
    let p : (i - 1) * N + (v - 1) ≡ (j - 1) * N + (w - 1) = omega arith in
    let q = sym (div-mul-add (i - 1) N (v - 1) (omega arith)) ∙ ap (λ x. x / N) p ∙ div-mul-add (j - 1) N (w - 1) (omega arith) in
    omega arith

-- each number is a place of a block
pub apart : (M N x : ℕ) → 1 ≤ N → InRange (M * N) x → (i : ℕ) × (v : ℕ) × InRange M i × InRange N v × (x ≡ variable_at N i v)
apart M N x p w =
    let i = (x - 1) / N + 1 in
    let v = (x - 1) % N + 1 in
    let lo = div_below (x - 1) N M (omega arith) (omega arith) in
    let hi = mod_below (x - 1) N (omega arith) in
    let back : (x - 1) / N + 1 - 1 ≡ (x - 1) / N = omega arith in
    let whole = div-add-mod' (x - 1) N in
    (i, v, (omega arith, omega arith), (omega arith, omega arith), omega (arith, ap (λ k. k * N) back))

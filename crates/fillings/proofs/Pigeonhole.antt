-- A function from 1 to n into 1 to n that takes no value twice takes each.
use Rattle.std.proofs.Common.{◌≡◌, ℕ, zero, suc, ◌-◌, cond, ltb, ◌⊎◌, sym, ap, ◌∙◌, inl, inr, ⊎_elim, arith}
use Rattle.std.proofs.lemmas.Bool.{cases_eq}
use Rattle.std.proofs.lemmas.Bool.Decides.{nat_tests}
use Rattle.futoshiki.specs.Board.{InRange}

-- g takes 1 to m into 1 to n, and no two of them to one
pub record Injects (g : ℕ → ℕ) (m n : ℕ) : Type 0 where
  pub into : (k : ℕ) → InRange m k → InRange n (g k)
  pub apart : (j k : ℕ) → InRange m j → InRange m k → g j ≡ g k → j ≡ k

-- the numbers past v one lower
abbrev closed : ℕ → ℕ → ℕ
closed v x = cond (ltb v x) (x - 1) x

closed_within : (v n x : ℕ) → InRange (suc n) v → InRange (suc n) x → (x ≡ v → ⊥) → InRange n (closed v x)
closed_within v n x wv wx d = grind (arith, nat_tests)

closed_apart : (v x y : ℕ) → (x ≡ v → ⊥) → (y ≡ v → ⊥) → closed v x ≡ closed v y → x ≡ y
closed_apart v x y d e h = grind (arith, nat_tests)

-- where g misses v, its values fit into one number less
missed : (g : ℕ → ℕ) (m n v : ℕ) → Injects g m (suc n) → InRange (suc n) v → ((k : ℕ) → InRange m k → g k ≡ v → ⊥) → Injects (λ k. closed v (g k)) m n
missed g m n v i wv miss = record {
  into = λ k w. closed_within v n (g k) wv (i.into k w) (miss k w);
  apart = λ j k wj wk e. i.apart j k wj wk (closed_apart v (g j) (g k) (miss j wj) (miss k wk) e);
}

-- no more numbers fit into fewer
none_fits : (n : ℕ) (g : ℕ → ℕ) → Injects g (suc n) n → ⊥
none_fits zero g i = let w : InRange 0 (g 1) = i.into 1 (omega arith, omega arith) in omega arith
none_fits (suc n) g i =
    let top = suc (suc n) in
    let less : Injects g (suc n) (suc n) = record {
      into = λ k w. i.into k (w.0, omega arith);
      apart = λ j k wj wk e. i.apart j k (wj.0, omega arith) (wk.0, omega arith) e;
    } in
    none_fits n (λ k. closed (g top) (g k)) (missed g (suc n) n (g top) less (i.into top (omega arith, omega arith))
    (λ k w e. let t = i.apart k top (w.0, omega arith) (omega arith, omega arith) e in omega arith))

-- whether g takes v somewhere from 1 to m
found : (g : ℕ → ℕ) (m v : ℕ) → ((k : ℕ) × InRange m k × (g k ≡ v)) ⊎ ((k : ℕ) → InRange m k → g k ≡ v → ⊥)
found g zero v = inr (λ k w e. omega arith)
found g (suc m) v =
    ⊎_elim
    (λ (e : g (suc m) ≡ v). inl (suc m, (omega arith, omega arith), e))
    (λ (d : g (suc m) ≡ v → ⊥). ⊎_elim (λ (t : (k : ℕ) × InRange m k × (g k ≡ v)). inl (t.0, (t.1.0, omega arith), t.2))
    (λ (none : (k : ℕ) → InRange m k → g k ≡ v → ⊥). inr (λ k w e. ⊎_elim (λ (s : k ≡ suc m). d (sym (ap g s) ∙ e)) (λ (n : k ≡ suc m → ⊥). none k (w.0, omega arith) e) (cases_eq k (suc m))))
    (found g m v))
    (cases_eq (g (suc m)) v)

pub onto : (n : ℕ) (g : ℕ → ℕ) → Injects g n n → (v : ℕ) → InRange n v → (k : ℕ) × InRange n k × (g k ≡ v)
onto zero g i v w = absurd (omega arith)
onto (suc n) g i v w =
    ⊎_elim
    (λ t. t)
    (λ (none : (k : ℕ) → InRange (suc n) k → g k ≡ v → ⊥). absurd (none_fits n (λ k. closed v (g k)) (missed g (suc n) n v i w none)))
    (found g (suc n) v)

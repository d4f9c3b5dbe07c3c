-- The keys of signs are compared whole.
use Rattle.std.proofs.Common.{◌≡◌, ℕ, Decides, ap}
use Rattle.std.proofs.lemmas.Bool.Decides.{Decides-eqb, Decides-and}
use Rattle.futoshiki.specs.Pairs.{same_pair}

pub same_pair_told : (p q : ℕ × ℕ) → Decides (same_pair p q) (p ≡ q)
same_pair_told p q =
    let both = Decides-and _ _ (Decides-eqb p.0 q.0) (Decides-eqb p.1 q.1) in (
      λ h. let e = both.0 h in λ i. (e.0 i, e.1 i),
      λ e. both.1 (ap (λ (x : ℕ × ℕ). x.0) e, ap (λ (x : ℕ × ℕ). x.1) e),
    )

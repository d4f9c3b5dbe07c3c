-- A record whose key is not there keeps every key single.
use Rattle.std.proofs.Common.{◌≡◌, Bool, false, List, [], ◌∷◌, ◌++◌, Decides}
use Rattle.std.specs.List.{AllByRecursion}
use Rattle.std.proofs.ByRecursion.{All-push}
use Rattle.std.proofs.lemmas.Bool.{or_parts}
use Rattle.std.proofs.lemmas.Bool.Decides.{not_from_Decides}
use Rattle.register.specs.Keys.{has_key, NoKeyTwice}

module _ {X K : Type 0} (same : K → K → Bool) (key_of : X → K) where
  -- a key that is not found is that of no record, where the test tells equal keys
  pub not_found : ((j k : K) → Decides (same j k) (j ≡ k)) → (xs : List X) (k : K) → has_key same key_of xs k ≡ false → AllByRecursion (λ y. key_of y ≡ k → ⊥) xs
  not_found told [] k h = tt
  not_found told (x ∷ xs) k h =
      let p = or_parts (same (key_of x) k) (has_key same key_of xs k) h in
      (not_from_Decides (same (key_of x) k) (told (key_of x) k) p.0, not_found told xs k p.1)

  pub once_more : (xs : List X) (x : X) → NoKeyTwice same key_of xs → has_key same key_of xs (key_of x) ≡ false → NoKeyTwice same key_of (xs ++ x ∷ [])
  once_more [] x o h = (tt, tt)
  once_more (y ∷ ys) x o h =
      let p = or_parts (same (key_of y) (key_of x)) (has_key same key_of ys (key_of x)) h in
      (All-push (λ z. same (key_of y) (key_of z) ≡ false) ys x o.0 p.0, once_more ys x o.1 p.1)

-- A table of used slots, and then blank ones.
use Rattle.std.proofs.Common.{◌≡◌, ℕ, ◌+◌, ◌-◌, ◌≤◌, List, ◌++◌, length, get_or, take, drop, replicate, sym, ap, ◌∙◌, arith}
use Rattle.std.proofs.lemmas.List.{get_or-replicate, length-replicate, ext_get_or, replicate-append-replicate, take-append-drop, length-drop, length-take-le, get_or-drop}

module _ {X : Type 0} (b : X) (xs : List X) (n : ℕ) (fits : n ≤ length xs) (rest : (k : ℕ) → n ≤ k → get_or xs k b ≡ b) where
  -- the slots that are not used are blank
  pub blank_after : drop n xs ≡ replicate (length xs - n) b
  blank_after =
      let l = length-drop n xs in
      let m = length-replicate (length xs - n) b in
      ext_get_or b (drop n xs) (replicate (length xs - n) b) (omega arith)
      (λ k h. get_or-drop n xs k b ∙ rest (n + k) (omega arith) ∙ sym (get_or-replicate (length xs - n) k b b (omega arith)))

  -- the used slots, and then blank ones
  pub laid : xs ≡ take n xs ++ replicate (length xs - length (take n xs)) b
  laid =
      sym (take-append-drop n xs)
      ∙ ap (λ (ys : List X). take n xs ++ ys) (blank_after ∙ ap (λ k. replicate (length xs - k) b) (sym (length-take-le n xs fits)))

  -- the used slots made blank too
  pub blanked : (ys : List X) → ys ≡ replicate (length (take n xs)) b → ys ++ drop n xs ≡ replicate (length xs) b
  blanked ys e =
      let l = length-take-le n xs fits in
      ap (λ (zs : List X). zs ++ drop n xs) e
      ∙ ap (λ (zs : List X). replicate (length (take n xs)) b ++ zs) blank_after
      ∙ replicate-append-replicate (length (take n xs)) (length xs - n) b
      ∙ ap (λ k. replicate k b) (omega arith)

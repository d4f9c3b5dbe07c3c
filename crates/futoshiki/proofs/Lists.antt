-- What holds of each member of a list that combinators make.
use Rattle.std.proofs.Common.{◌≡◌, ℕ, zero, suc, ◌+◌, ◌*◌, ◌<◌, ◌≤◌, List, [], ◌∷◌, ◌++◌, map, length, get_or, sym, ap, ◌∙◌, subst, ⊎_elim, suc-mul, zero-mul, arith}
use Rattle.std.specs.List.{AllByRecursion, flat_map, range_with_len}
use Rattle.std.proofs.ByRecursion.{All-append, All-map}
use Rattle.std.proofs.lemmas.List.{length-append, get_or_append_left, get_or-append-add}
use Rattle.std.proofs.lemmas.Bool.{cases_eq}
use Rattle.futoshiki.specs.Listing.{pairs_of}

module _ {A : Type 0} (P : A → Type 0) where
  pub all_left : (xs ys : List A) → AllByRecursion P (xs ++ ys) → AllByRecursion P xs
  all_left [] ys h = tt
  all_left (x ∷ xs) ys h = (h.0, all_left xs ys h.1)

  pub all_right : (xs ys : List A) → AllByRecursion P (xs ++ ys) → AllByRecursion P ys
  all_right [] ys h = h
  all_right (x ∷ xs) ys h = all_right xs ys h.1

  pub all_joined : {X : Type 0} (g : X → List A) (xs : List X) → AllByRecursion (λ x. AllByRecursion P (g x)) xs → AllByRecursion P (flat_map g xs)
  all_joined g [] h = tt
  all_joined g (x ∷ xs) h = All-append P (g x) (flat_map g xs) h.0 (all_joined g xs h.1)

  pub all_from_joined : {X : Type 0} (g : X → List A) (xs : List X) → AllByRecursion P (flat_map g xs) → AllByRecursion (λ x. AllByRecursion P (g x)) xs
  all_from_joined g [] h = tt
  all_from_joined g (x ∷ xs) h = (all_left (g x) (flat_map g xs) h, all_from_joined g xs (all_right (g x) (flat_map g xs) h))

  pub all_from_map : {X : Type 0} (g : X → A) (xs : List X) → AllByRecursion P (map g xs) → AllByRecursion (λ x. P (g x)) xs
  all_from_map g [] h = tt
  all_from_map g (x ∷ xs) h = (h.0, all_from_map g xs h.1)

module _ (P : ℕ → Type 0) where
  pub all_counting : (b n : ℕ) → ((k : ℕ) → b ≤ k → k < b + n → P k) → AllByRecursion P (range_with_len b n)
  all_counting b zero h = tt
  all_counting b (suc n) h = (h b (omega arith) (omega arith), all_counting (b + 1) n (λ k p q. h k (omega arith) (omega arith)))

  pub all_from_counting : (b n : ℕ) → AllByRecursion P (range_with_len b n) → (k : ℕ) → b ≤ k → k < b + n → P k
  all_from_counting b zero h k p q = absurd (omega arith)
  all_from_counting b (suc n) h k p q = ⊎_elim (λ (e : b ≡ k). subst P e h.0) (λ (d : b ≡ k → ⊥). all_from_counting (b + 1) n h.1 k (omega arith) (omega arith)) (cases_eq b k)

module _ (P : ℕ × ℕ → Type 0) where
  pub all_pairs : (b n : ℕ) → ((j k : ℕ) → b ≤ j → j < k → k < b + n → P (j, k)) → AllByRecursion P (pairs_of (range_with_len b n))
  all_pairs b zero h = tt
  all_pairs b (suc n) h =
      All-append P (map (λ y. (b, y)) (range_with_len (b + 1) n)) (pairs_of (range_with_len (b + 1) n))
      (All-map P (λ y. (b, y)) (range_with_len (b + 1) n) (all_counting (λ y. P (b, y)) (b + 1) n (λ k p q. h b k (omega arith) (omega arith) (omega arith))))
      (all_pairs (b + 1) n (λ j k p q r. h j k (omega arith) q (omega arith)))

  pub all_from_pairs : (b n : ℕ) → AllByRecursion P (pairs_of (range_with_len b n)) → (j k : ℕ) → b ≤ j → j < k → k < b + n → P (j, k)
  all_from_pairs b zero h j k p q r = absurd (omega arith)
  all_from_pairs b (suc n) h j k p q r =
      let first = all_from_map P (λ y. (b, y)) (range_with_len (b + 1) n) (all_left P (map (λ y. (b, y)) (range_with_len (b + 1) n)) (pairs_of (range_with_len (b + 1) n)) h) in
      let rest = all_right P (map (λ y. (b, y)) (range_with_len (b + 1) n)) (pairs_of (range_with_len (b + 1) n)) h in
      ⊎_elim
      (λ (e : b ≡ j). subst (λ x. P (x, k)) e (all_from_counting (λ y. P (b, y)) (b + 1) n first k (omega arith) (omega arith)))
      (λ (d : b ≡ j → ⊥). all_from_pairs (b + 1) n rest j k (omega arith) q (omega arith))
      (cases_eq b j)

pub all_both : {A : Type 0} (P Q R : A → Type 0) → ((x : A) → P x → Q x → R x) → (xs : List A) → AllByRecursion P xs → AllByRecursion Q xs → AllByRecursion R xs
all_both P Q R f [] p q = tt
all_both P Q R f (x ∷ xs) p q = (f x p.0 q.0, all_both P Q R f xs p.1 q.1)

-- lists of one length, one after another
module _ {X A : Type 0} (N : ℕ) (g : X → List A) (size : (x : X) → length (g x) ≡ N) where
  pub length_blocks : (f : List X) → length (flat_map g f) ≡ length f * N
  length_blocks [] = sym (zero-mul N)
  length_blocks (x ∷ f) = omega (arith, length-append (g x) (flat_map g f), size x, length_blocks f, suc-mul (length f) N)

  pub getD_blocks : (f : List X) (k j : ℕ) (x : X) (d : A) → k < length f → j < N → get_or (flat_map g f) (k * N + j) d ≡ get_or (g (get_or f k x)) j d
  getD_blocks [] k j e d p q = absurd (omega arith)
  getD_blocks (x ∷ f) zero j e d p q = ap (λ i. get_or (g x ++ flat_map g f) i d) (omega (arith, zero-mul N)) ∙ get_or_append_left (g x) (flat_map g f) d j (omega (arith, size x))
  getD_blocks (x ∷ f) (suc k) j e d p q = ap (λ i. get_or (g x ++ flat_map g f) i d) (omega (arith, suc-mul k N, size x)) ∙ get_or-append-add (g x) (flat_map g f) (k * N + j) d ∙ getD_blocks f k j e d (omega arith) q

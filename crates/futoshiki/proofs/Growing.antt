-- A draft that lists clauses more.
use Rattle.std.proofs.Common.{◌≡◌, ℕ, ◌+◌, ◌-◌, ◌*◌, ◌<◌, ◌≤◌, List, [], ◌∷◌, ◌++◌, map, length, get_or, take, drop, sym, refl, ap, ◌∙◌, subst, ⊎_elim, mul-one, mul-add, arith}
use Rattle.std.specs.List.{flat_map}
use Rattle.std.proofs.lemmas.List.FromFn.{map-range_with_len_more}
use Rattle.std.proofs.lemmas.List.{append-nil, append_assoc, length-append, length-drop, take_all, take_more, flat_map_more, take-append-le, drop-append-le, drop_at}
use Rattle.std.proofs.lemmas.Bool.{cases_lt}
use Rattle.cnf.specs.Formula.{Clause}
use Rattle.cnf.specs.Tabled.{cut_out, cuts_from, tabled}
use Rattle.cnf.proofs.Cuts.{cut_in, cut_falls}
use Rattle.futoshiki.specs.declared.draft.Draft.{Draft}
use Rattle.futoshiki.specs.Board.{up_to}
use Rattle.futoshiki.proofs.Stepping.{joined_up_more}
use Rattle.futoshiki.specs.Starts.{EndsFrom, EndsAt}
use Rattle.futoshiki.specs.Drafts.{draft_listing, GoesOn}

-- more literals leave a clause as it was
cut_before : (ls c : Clause) (a b : ℕ) → b ≤ length ls → cut_out (ls ++ c) a b ≡ cut_out ls a b
cut_before ls c a b h =
    ⊎_elim
    (λ (f : b < a). cut_falls (ls ++ c) a b f ∙ sym (cut_falls ls a b f))
    (λ (q : a ≤ b).
    let e = length-append ls c in
    let d = length-drop a ls in
    cut_in (ls ++ c) a b q (omega arith)
    ∙ ap (take (b - a)) (drop-append-le a ls c (omega arith))
    ∙ take-append-le (b - a) (drop a ls) c (omega arith)
    ∙ sym (cut_in ls a b q h))
    (cases_lt b a)

-- the clause that was added
cut_last : (ls c : Clause) (n m : ℕ) → n ≡ length ls → m ≡ length (ls ++ c) → cut_out (ls ++ c) n m ≡ c
cut_last ls c n m p q =
    let e = length-append ls c in
    cut_in (ls ++ c) n m (omega arith) (omega arith)
    ∙ ap (take (m - n)) (drop_at ls c n (sym p))
    ∙ take_all (m - n) c (omega arith)

first_inside : (n a : ℕ) (bs : List ℕ) → EndsFrom n a bs → a ≤ n
first_inside n a [] e = omega arith
first_inside n a (b ∷ bs) e = e.0

cuts_more : (ls c : Clause) (a : ℕ) (bs : List ℕ) (m : ℕ) → EndsFrom (length ls) a bs → m ≡ length (ls ++ c) → cuts_from (ls ++ c) a (bs ++ m ∷ []) ≡ cuts_from ls a bs ++ c ∷ []
cuts_more ls c a [] m e q = ap (λ x. x ∷ []) (cut_last ls c a m e q)
cuts_more ls c a (b ∷ bs) m e q =
    ap (λ x. x ∷ cuts_from (ls ++ c) b (bs ++ m ∷ [])) (cut_before ls c a b (first_inside (length ls) b bs e.1))
    ∙ ap (λ x. cut_out ls a b ∷ x) (cuts_more ls c b bs m e.1 q)

tabled_more : (ls c : Clause) (ss : List ℕ) (m : ℕ) → EndsAt (length ls) ss → m ≡ length (ls ++ c) → tabled (ls ++ c) (ss ++ m ∷ []) ≡ tabled ls ss ++ c ∷ []
tabled_more ls c [] m e q = absurd e
tabled_more ls c (a ∷ bs) m e q = cuts_more ls c a bs m e q

ends_more : (n m a : ℕ) (bs : List ℕ) → EndsFrom n a bs → n ≤ m → EndsFrom m a (bs ++ m ∷ [])
ends_more n m a [] e h = (omega arith, refl)
ends_more n m a (b ∷ bs) e h = (let p = e.0 in omega arith, ends_more n m b bs e.1 h)

ends_at_more : (n m : ℕ) (ss : List ℕ) → EndsAt n ss → n ≤ m → EndsAt m (ss ++ m ∷ [])
ends_at_more n m [] e h = absurd e
ends_at_more n m (a ∷ bs) e h = ends_more n m a bs e h

pub ends_after : (n m : ℕ) (ss ts : List ℕ) → EndsAt n ss → n ≤ m → ts ≡ ss ++ m ∷ [] → EndsAt m ts
ends_after n m ss ts ended h e = let P : List ℕ → Type 0 = λ us. EndsAt m us in subst P (sym e) (ends_at_more n m ss ended h)

-- a clause more in the literals, and its end in the starts
pub tabled_after : (ls c : Clause) {ls' : Clause} (ss : List ℕ) {ts : List ℕ} (n m : ℕ) → n ≡ length ls → m ≡ n + length c → EndsAt n ss → ls' ≡ ls ++ c → ts ≡ ss ++ m ∷ [] → tabled ls' ts ≡ tabled ls ss ++ c ∷ []
tabled_after ls c {ls'} ss {ts} n m counted count_more ended literals_more starts_more =
    let P : ℕ → Type 0 = λ k. EndsAt k ss in
    let e = length-append ls c in
    ap (λ xs. tabled xs ts) literals_more ∙ ap (tabled (ls ++ c)) starts_more
    ∙ tabled_more ls c ss m (subst P counted ended) (omega arith)

pub goes_nowhere : (d : Draft) → GoesOn d d [] 0
goes_nowhere d = record { lists = sym (append-nil (draft_listing d)); few_literals = omega arith }

pub goes_then : (a b c : Draft) (cs ds es : List Clause) (m k n : ℕ) → GoesOn a b cs m → GoesOn b c ds k → cs ++ ds ≡ es → m + k ≤ n → GoesOn a c es n
goes_then a b c cs ds es m k n p q e h = record {
  lists = q.lists ∙ ap (λ x. x ++ ds) p.lists ∙ append_assoc (draft_listing a) cs ds ∙ ap (λ x. draft_listing a ++ x) e;
  few_literals = let x = p.few_literals in let y = q.few_literals in omega arith;
}

pub goes_as : (a b : Draft) (cs ds : List Clause) (m n : ℕ) → GoesOn a b cs m → cs ≡ ds → m ≤ n → GoesOn a b ds n
goes_as a b cs ds m n p e h = record {
  lists = p.lists ∙ ap (λ x. draft_listing a ++ x) e;
  few_literals = let x = p.few_literals in omega arith;
}

-- one turn of a loop over 1, 2, ..: one clause, or some clauses, for each number
module _ (a b c : Draft) (i per : ℕ) where
  pub one_more : (f : ℕ → Clause) {clause : Clause} → GoesOn a b (map f (up_to i)) (per * i) → GoesOn b c (clause ∷ []) per → clause ≡ f (i + 1) → GoesOn a c (map f (up_to (i + 1))) (per * (i + 1))
  one_more f {clause} p q e =
      goes_then a b c (map f (up_to i)) (clause ∷ []) (map f (up_to (i + 1))) (per * i) per (per * (i + 1)) p q
      (ap (λ x. map f (up_to i) ++ x ∷ []) e ∙ sym (map-range_with_len_more f 1 i (i + 1) (omega arith)))
      (omega (arith, mul-add per i 1, mul-one per))

  pub group_more : (g : ℕ → List Clause) {cs : List Clause} → GoesOn a b (flat_map g (up_to i)) (per * i) → GoesOn b c cs per → cs ≡ g (i + 1) → GoesOn a c (flat_map g (up_to (i + 1))) (per * (i + 1))
  group_more g {cs} p q e =
      goes_then a b c (flat_map g (up_to i)) cs (flat_map g (up_to (i + 1))) (per * i) per (per * (i + 1)) p q
      (ap (λ x. flat_map g (up_to i) ++ x) e ∙ sym (joined_up_more g i))
      (omega (arith, mul-add per i 1, mul-one per))

-- one turn of a loop that counts from 1
module _ (a b c : Draft) (k per : ℕ) (first : 1 ≤ k) where
  same_turn : k - 1 + 1 ≡ k + 1 - 1
  same_turn = omega arith

  pub one_turn : (f : ℕ → Clause) {clause : Clause} → GoesOn a b (map f (up_to (k - 1))) (per * (k - 1)) → GoesOn b c (clause ∷ []) per → clause ≡ f k → GoesOn a c (map f (up_to (k + 1 - 1))) (per * (k + 1 - 1))
  one_turn f {clause} p q e =
      let P : ℕ → Type 0 = λ n. GoesOn a c (map f (up_to n)) (per * n) in
      subst P same_turn (one_more a b c (k - 1) per f p q (e ∙ ap f (omega arith)))

  pub group_turn : (g : ℕ → List Clause) {cs : List Clause} → GoesOn a b (flat_map g (up_to (k - 1))) (per * (k - 1)) → GoesOn b c cs per → cs ≡ g k → GoesOn a c (flat_map g (up_to (k + 1 - 1))) (per * (k + 1 - 1))
  group_turn g {cs} p q e =
      let P : ℕ → Type 0 = λ n. GoesOn a c (flat_map g (up_to n)) (per * n) in
      subst P same_turn (group_more a b c (k - 1) per g p q (e ∙ ap g (omega arith)))

-- the end of such a loop
module _ (a b : Draft) (i n per most : ℕ) (e : i ≡ n) (h : per * n ≤ most) where
  pub ones_done : (f : ℕ → Clause) → GoesOn a b (map f (up_to i)) (per * i) → GoesOn a b (map f (up_to n)) most
  ones_done f p = goes_as a b (map f (up_to i)) (map f (up_to n)) (per * i) most p (ap (λ k. map f (up_to k)) e) (omega (arith, ap (λ k. per * k) e))

  pub groups_done : (g : ℕ → List Clause) → GoesOn a b (flat_map g (up_to i)) (per * i) → GoesOn a b (flat_map g (up_to n)) most
  groups_done g p = goes_as a b (flat_map g (up_to i)) (flat_map g (up_to n)) (per * i) most p (ap (λ k. flat_map g (up_to k)) e) (omega (arith, ap (λ k. per * k) e))

-- one turn of a loop over a list, and its end
module _ {X : Type 0} (g : X → List Clause) (xs : List X) (a b : Draft) (i per : ℕ) where
  pub each_more : (c : Draft) (d : X) → i < length xs → GoesOn a b (flat_map g (take i xs)) (per * i) → GoesOn b c (g (get_or xs i d)) per → GoesOn a c (flat_map g (take (i + 1) xs)) (per * (i + 1))
  each_more c d h p q =
      goes_then a b c (flat_map g (take i xs)) (g (get_or xs i d)) (flat_map g (take (i + 1) xs)) (per * i) per (per * (i + 1)) p q
      (flat_map_more g [] (take i xs) (get_or xs i d) ∙ ap (flat_map g) (sym (take_more xs i d h)))
      (omega (arith, mul-add per i 1, mul-one per))

  pub each_done : (most : ℕ) → length xs ≤ i → per * i ≤ most → GoesOn a b (flat_map g (take i xs)) (per * i) → GoesOn a b (flat_map g xs) most
  each_done most h l p = goes_as a b (flat_map g (take i xs)) (flat_map g xs) (per * i) most p (ap (flat_map g) (take_all i xs h)) l

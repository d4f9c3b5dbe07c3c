-- What a word says, by its layout.
use Rattle.std.proofs.Common.{◌≡◌, ℕ, ◌+◌, ◌*◌, ◌/◌, ◌%◌, ◌^◌, ◌<◌, Bool, true, false, cond, eqb, ◌⊎◌, Some, None, Option, sym, refl, ap, ◌∙◌, subst, inl, inr, ⊎_elim, arith}
use Rattle.std.proofs.lemmas.Bool.{eqb-true}
use Rattle.std.proofs.lemmas.Option.{cond_some, none-some}
use Rattle.std.proofs.lemmas.Nat.{shr_split, mod-pow-add, mod_below, div-mul-add, mod-mul-add}
use Rattle.words.specs.declared.item.Item.{Item}
use Rattle.words.specs.declared.item.Item.TheVariants.{Board, Given, Claim, Less, End}
use Rattle.words.specs.Layouts.{field, kind_of, entry_in, sign_in, clean, decoded, item_word, FitsBits}
use Rattle.words.specs.Laws.{SaysByLayout, SaysNothing}

-- which way a test went
either_way : (b : Bool) (x y : Option Item) (it : Item) → cond b x y ≡ Some it → ((b ≡ true) × (x ≡ Some it)) ⊎ (y ≡ Some it)
either_way true x y it h = inl (refl, h)
either_way false x y it h = inr h

clean_says : (zeros w : ℕ) (it jt : Item) → clean zeros w it ≡ Some jt → (w % 2 ^ zeros ≡ 0) × (it ≡ jt)
clean_says zeros w it jt h = let p = cond_some (eqb (w % 2 ^ zeros) 0) it jt h in (eqb-true (w % 2 ^ zeros) 0 p.0, p.1)

-- a word is its item's word
abbrev Tells : ℕ → Item → Type 0
Tells w it = (w ≡ item_word it) × FitsBits it

of_board : (w : ℕ) → kind_of w ≡ 1 → w % 2 ^ 16 ≡ 0 → Tells w (Board (field w 24 4) (field w 16 8))
unfolding item_word
of_board w k z = (omega (arith, shr_split w 28, mod-pow-add w 4 24, mod-pow-add w 8 16), (mod_below (w / 2 ^ 24) 16 (omega arith), mod_below (w / 2 ^ 16) 256 (omega arith)))

of_given : (w : ℕ) → kind_of w ≡ 2 → w % 2 ^ 8 ≡ 0 → Tells w (Given (entry_in w))
unfolding item_word
of_given w k z = (omega (arith, shr_split w 28, mod-pow-add w 12 16, mod-pow-add w 8 8), (mod_below (w / 2 ^ 16) 4096 (omega arith), mod_below (w / 2 ^ 8) 256 (omega arith)))

of_claim : (w : ℕ) → kind_of w ≡ 5 → w % 2 ^ 8 ≡ 0 → Tells w (Claim (entry_in w))
unfolding item_word
of_claim w k z = (omega (arith, shr_split w 28, mod-pow-add w 12 16, mod-pow-add w 8 8), (mod_below (w / 2 ^ 16) 4096 (omega arith), mod_below (w / 2 ^ 8) 256 (omega arith)))

of_sign : (w : ℕ) → kind_of w ≡ 3 → w % 2 ^ 4 ≡ 0 → Tells w (Less (sign_in w))
unfolding item_word
of_sign w k z = (omega (arith, shr_split w 28, mod-pow-add w 12 16, mod-pow-add w 12 4), (mod_below (w / 2 ^ 16) 4096 (omega arith), mod_below (w / 2 ^ 4) 4096 (omega arith)))

of_end : (w : ℕ) → kind_of w ≡ 15 → w % 2 ^ 28 ≡ 0 → Tells w End
unfolding item_word
of_end w k z = (omega (arith, shr_split w 28), tt)

by : (zeros k w : ℕ) (it jt : Item) → (kind_of w ≡ k → w % 2 ^ zeros ≡ 0 → Tells w it) → (eqb (kind_of w) k ≡ true) × (clean zeros w it ≡ Some jt) → Tells w jt
by zeros k w it jt f p = let c = clean_says zeros w it jt p.1 in subst (λ i. Tells w i) c.1 (f (eqb-true (kind_of w) k p.0) c.0)

says : (w : ℕ) (it : Item) → decoded w ≡ Some it → Tells w it
unfolding decoded
says w it h =
    ⊎_elim (by 16 1 w _ it (of_board w)) (λ h₂.
    ⊎_elim (by 8 2 w _ it (of_given w)) (λ h₃.
    ⊎_elim (by 4 3 w _ it (of_sign w)) (λ h₅.
    ⊎_elim (by 8 5 w _ it (of_claim w)) (λ h₁₅.
    ⊎_elim (by 28 15 w _ it (of_end w)) (λ (e : None ≡ Some it). absurd (none-some it e))
    (either_way _ _ _ it h₁₅)) (either_way _ _ _ it h₅)) (either_way _ _ _ it h₃)) (either_way _ _ _ it h₂)) (either_way _ _ _ it h)

-- quotient and rest of q * m + r
quotient : (w q m r : ℕ) → r < m → w ≡ q * m + r → w / m ≡ q
quotient w q m r h e = ap (λ x. x / m) e ∙ div-mul-add q m r h

rest : (w q m r : ℕ) → r < m → w ≡ q * m + r → w % m ≡ r
rest w q m r h e = ap (λ x. x % m) e ∙ mod-mul-add q m r h

told : (w : ℕ) (it : Item) → w ≡ item_word it → FitsBits it → decoded w ≡ Some it
unfolding decoded item_word
told w (Board p N) e f =
    let k : w / 2 ^ 28 ≡ 1 = quotient w 1 268435456 (p * 16777216 + N * 65536) (omega arith) (omega arith) in
    let z : w % 2 ^ 16 ≡ 0 = rest w (4096 + p * 256 + N) 65536 0 (omega arith) (omega arith) in
    let a : w / 2 ^ 24 ≡ 1 * 16 + p = quotient w (1 * 16 + p) 16777216 (N * 65536) (omega arith) (omega arith) in
    let b : w / 2 ^ 16 ≡ (16 + p * 1) * 256 + N = quotient w ((16 + p * 1) * 256 + N) 65536 0 (omega arith) (omega arith) in
    let a' : w / 2 ^ 24 % 2 ^ 4 ≡ p = rest (w / 2 ^ 24) 1 16 (p) f.0 a in
    let b' : w / 2 ^ 16 % 2 ^ 8 ≡ N = rest (w / 2 ^ 16) (16 + p * 1) 256 (N) f.1 b in
    rw (k, z, a', b')
told w (Given g) e f =
    let k : w / 2 ^ 28 ≡ 2 = quotient w 2 268435456 (g.cell * 65536 + g.value * 256) (omega arith) (omega arith) in
    let z : w % 2 ^ 8 ≡ 0 = rest w (2097152 + g.cell * 256 + g.value) 256 0 (omega arith) (omega arith) in
    let a : w / 2 ^ 16 ≡ 2 * 4096 + g.cell = quotient w (2 * 4096 + g.cell) 65536 (g.value * 256) (omega arith) (omega arith) in
    let b : w / 2 ^ 8 ≡ (8192 + g.cell * 1) * 256 + g.value = quotient w ((8192 + g.cell * 1) * 256 + g.value) 256 0 (omega arith) (omega arith) in
    let a' : w / 2 ^ 16 % 2 ^ 12 ≡ g.cell = rest (w / 2 ^ 16) 2 4096 g.cell f.0 a in
    let b' : w / 2 ^ 8 % 2 ^ 8 ≡ g.value = rest (w / 2 ^ 8) (8192 + g.cell * 1) 256 g.value f.1 b in
    rw (k, z, a', b')
told w (Claim g) e f =
    let k : w / 2 ^ 28 ≡ 5 = quotient w 5 268435456 (g.cell * 65536 + g.value * 256) (omega arith) (omega arith) in
    let z : w % 2 ^ 8 ≡ 0 = rest w (5242880 + g.cell * 256 + g.value) 256 0 (omega arith) (omega arith) in
    let a : w / 2 ^ 16 ≡ 5 * 4096 + g.cell = quotient w (5 * 4096 + g.cell) 65536 (g.value * 256) (omega arith) (omega arith) in
    let b : w / 2 ^ 8 ≡ (20480 + g.cell * 1) * 256 + g.value = quotient w ((20480 + g.cell * 1) * 256 + g.value) 256 0 (omega arith) (omega arith) in
    let a' : w / 2 ^ 16 % 2 ^ 12 ≡ g.cell = rest (w / 2 ^ 16) 5 4096 g.cell f.0 a in
    let b' : w / 2 ^ 8 % 2 ^ 8 ≡ g.value = rest (w / 2 ^ 8) (20480 + g.cell * 1) 256 g.value f.1 b in
    rw (k, z, a', b')
told w (Less s) e f =
    let k : w / 2 ^ 28 ≡ 3 = quotient w 3 268435456 (s.lesser * 65536 + s.greater * 16) (omega arith) (omega arith) in
    let z : w % 2 ^ 4 ≡ 0 = rest w (50331648 + s.lesser * 4096 + s.greater) 16 0 (omega arith) (omega arith) in
    let a : w / 2 ^ 16 ≡ 3 * 4096 + s.lesser = quotient w (3 * 4096 + s.lesser) 65536 (s.greater * 16) (omega arith) (omega arith) in
    let b : w / 2 ^ 4 ≡ (12288 + s.lesser * 1) * 4096 + s.greater = quotient w ((12288 + s.lesser * 1) * 4096 + s.greater) 16 0 (omega arith) (omega arith) in
    let a' : w / 2 ^ 16 % 2 ^ 12 ≡ s.lesser = rest (w / 2 ^ 16) 3 4096 s.lesser f.0 a in
    let b' : w / 2 ^ 4 % 2 ^ 12 ≡ s.greater = rest (w / 2 ^ 4) (12288 + s.lesser * 1) 4096 s.greater f.1 b in
    rw (k, z, a', b')
told w End e f = rw e

pub layouts : (w : ℕ) → SaysByLayout w
layouts w it = (says w it, λ p. told w it p.0 p.1)

-- an item's word says it
pub decoded_word : (it : Item) → FitsBits it → decoded (item_word it) ≡ Some it
decoded_word it f = told (item_word it) it refl f

-- a word that says an item is its word
pub word_decoded : (w : ℕ) (it : Item) → decoded w ≡ Some it → w ≡ item_word it
word_decoded w it h = (says w it h).0

-- a word that is read as nothing is no item's word, and the reverse
pub says_nothing : (w : ℕ) → decoded w ≡ None → SaysNothing w
says_nothing w e it f h = none-some it (sym e ∙ told w it h f)

pub nothing_said : (w : ℕ) → SaysNothing w → decoded w ≡ None
nothing_said w n = go (decoded w) refl
  where
    go : (o : Option Item) → decoded w ≡ o → decoded w ≡ None
    go None e = e
    go (Some it) e = let q = says w it e in absurd (n it q.1 q.0)

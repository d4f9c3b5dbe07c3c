-- A clause written over the beginning of a slice, one literal after another.
use Rattle.std.specs.Prelude.{◌≡◌, ℕ, ◌+◌, ◌-◌, ◌<◌, min, cond, List, [], ◌∷◌, ◌++◌, length, get_or, take, drop, set, pos, Some, None, Option, slice_index_or, slice_set}
use Rattle.std.proofs.Common.{sym, ◌∙◌, ap, inl, inr, append_assoc, append-nil, arith}
use Rattle.std.proofs.lemmas.List.{take_more, drop_more, set_at, length-take-le, take_all, drop_all, take-map, drop-map, map-append, map-set}
use Rattle.std.proofs.lemmas.Bool.{ne_eqb, cases_lt}
use Rattle.cnf.specs.declared.literal.Literal.{Literal}
use Rattle.cnf.specs.Formula.{Clause}
use Rattle.cnf.specs.Tabled.{numbers_of, length_numbers}
use Rattle.store.specs.Tables.{length_in, literal_in, read_over}

-- a clause that may be absent; empty where it is
abbrev pub clause_in : Option Clause → Clause
clause_in None = []
clause_in (Some c) = c

-- j literals of the clause, then the rest of what was there
abbrev pub written : ℕ → Option Clause → Clause → Clause
written j o xs = take j (clause_in o) ++ drop j xs

-- one literal more
written_more : (j : ℕ) (c xs : Clause) → j < length c → j < length xs → slice_set (take j c ++ drop j xs) j (slice_index_or c j (pos 0)) ≡ take (j + 1) c ++ drop (j + 1) xs
written_more j c xs hc hx =
    let v = get_or c j (pos 0) in
    ap (λ r. set (take j c ++ r) j v) (drop_more xs j (pos 0) hx)
    ∙ set_at (take j c) (slice_index_or xs j (pos 0)) (drop (j + 1) xs) v j (length-take-le j c (omega arith))
    ∙ sym (ap (λ r. r ++ drop (j + 1) xs) (take_more c j (pos 0) hc) ∙ append_assoc (take j c) (v ∷ []) (drop (j + 1) xs))

-- literal j + 1 of a clause stands at place j
pub literal_next : (j : ℕ) (c : Clause) → literal_in (j + 1) (Some c) ≡ slice_index_or c j (pos 0)
literal_next j c =
    ap (λ b. cond b (pos 0) (slice_index_or c (j + 1 - 1) (pos 0))) (ne_eqb (j + 1) 0 (omega arith)) ∙ ap (λ k. get_or c k (pos 0)) (omega arith)

-- one turn: the literal at place j is written
pub turn : (o : Option Clause) (n j : ℕ) (now was : List Literal) (v : Literal) → Some n ≡ length_in o → j < n → j < length was → numbers_of now ≡ written j o (numbers_of was) → v.0 ≡ literal_in (j + 1) o → numbers_of (slice_set now j v) ≡ written (j + 1) o (numbers_of was)
turn None n j now was v e hn hw h l = let z : ◌≡◌ {A = ℕ} 0 1 = cc in absurd (omega arith)
turn (Some c) n j now was v e hn hw h l =
    let d : n ≡ length c = cc in
    let m = length_numbers was in
    map-set (λ (l : Literal). l.0) now j v
    ∙ ap (λ xs. set xs j v.0) h
    ∙ ap (λ x. set (take j c ++ drop j (numbers_of was)) j x) (l ∙ literal_next j c)
    ∙ written_more j c (numbers_of was) (omega arith) (omega arith)

-- as much of a clause as fits, and then the rest of what was there, is the clause written over it
pub cut_over : (k : ℕ) (c xs : Clause) → k ≡ min (length xs) (length c) → take k c ++ drop k xs ≡ read_over (Some c) xs
cut_over k c xs m = elim (cases_lt (length xs) (length c)) [
  | inl w ↦ rw (drop_all k xs (omega arith), drop_all (length c) xs (omega arith)) (ap (λ q. take q c ++ []) (omega arith))
  | inr w ↦ rw (take_all k c (omega arith), take_all (length xs) c (omega arith)) (ap (λ q. c ++ drop q xs) (omega arith))
]

-- all is written where the clause or the slice has ended
pub all_written : (o : Option Clause) (n k j : ℕ) (was now : List Literal) → Some n ≡ length_in o → k ≡ min (length was) n → j ≡ k → numbers_of now ≡ written j o (numbers_of (take k was)) → numbers_of (now ++ drop k was) ≡ read_over o (numbers_of was)
all_written None n k j was now e m i h = let z : ◌≡◌ {A = ℕ} 0 1 = cc in absurd (omega arith)
all_written (Some c) n k j was now e m i h =
    let d : n ≡ length c = cc in
    let l = length_numbers was in
    let f = length_numbers (take k was) in
    let t = length-take-le k was (omega arith) in
    map-append (λ (x : Literal). x.0) now (drop k was)
    ∙ ap (λ q. q ++ numbers_of (drop k was)) (h ∙ ap (λ q. take j c ++ q) (drop_all j (numbers_of (take k was)) (omega arith)) ∙ append-nil (take j c))
    ∙ ap (λ q. take q c ++ numbers_of (drop k was)) i
    ∙ ap (λ q. take k c ++ q) (sym (drop-map (λ (x : Literal). x.0) k was))
    ∙ cut_over k c (numbers_of was) (omega arith)

-- a copy of as many literals as fit
pub copied : (n : ℕ) (ls into part : List Literal) → n ≡ min (length into) (length ls) → part ≡ take n ls → numbers_of (part ++ drop n into) ≡ read_over (Some (numbers_of ls)) (numbers_of into)
copied n ls into part m p =
    let number = λ (x : Literal). x.0 in
    let k = length_numbers into in
    let l = length_numbers ls in
    ap (λ q. numbers_of (q ++ drop n into)) p
    ∙ map-append number (take n ls) (drop n into)
    ∙ ap (λ q. q ++ numbers_of (drop n into)) (sym (take-map number n ls))
    ∙ ap (λ q. take n (numbers_of ls) ++ q) (sym (drop-map number n into))
    ∙ cut_over n (numbers_of ls) (numbers_of into) (omega arith)

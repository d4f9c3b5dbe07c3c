-- A clause table: one list of literals, and the places, counted from 0, at which the clauses start.
use Rattle.std.specs.Prelude.{◌≡◌, ℕ, ◌-◌, cond, ◌&&◌, List, [], ◌∷◌, map, length, take, drop, pos, nat_le, slice_index_or}
use Rattle.std.proofs.lemmas.List.{length-map}
use Rattle.std.proofs.Math.ListN.{get_or-map}
use Rattle.cnf.specs.declared.literal.Literal.{Literal}
use Rattle.cnf.specs.Formula.{Clause}

-- the numbers that literals are
abbrev pub numbers_of : List Literal → Clause
numbers_of ls = map (λ (l : Literal). l.0) ls

-- the number that an index past the end of the literals reads
abbrev pub no_literal : Literal
no_literal = record { 0 = pos 0 }

-- as many numbers as literals
pub length_numbers : (ls : List Literal) → length (numbers_of ls) ≡ length ls
length_numbers ls = length-map ls (λ (l : Literal). l.0)

-- the number at an index is that of the literal there
pub number_at : (ls : List Literal) (i : ℕ) → slice_index_or (numbers_of ls) i (pos 0) ≡ (slice_index_or ls i no_literal).0
number_at ls i = get_or-map (λ (l : Literal). l.0) ls i no_literal

-- the literals from one start up to the next; none where these fall or leave the literals
abbrev pub cut_out : Clause → ℕ → ℕ → Clause
cut_out ls a b = cond (nat_le a b && nat_le b (length ls)) (take (b - a) (drop a ls)) []

-- from each start up to the next, the first start given apart
abbrev pub cuts_from : Clause → ℕ → List ℕ → List Clause
cuts_from ls a [] = []
cuts_from ls a (b ∷ bs) = cut_out ls a b ∷ cuts_from ls b bs

-- m + 1 starts cut out m clauses, and no start cuts out none
abbrev pub tabled : Clause → List ℕ → List Clause
tabled ls [] = []
tabled ls (a ∷ bs) = cuts_from ls a bs

-- The assignment of a filling, variable by variable.
use Rattle.std.proofs.Common.{◌≡◌, ℕ, ◌-◌, ◌*◌, ◌≤◌, false, eqb, List, map, length, get_or, ap, ◌∙◌, arith}
use Rattle.std.proofs.lemmas.List.FromFn.{length-map-range_with_len, get_or-map-range_with_len}
use Rattle.std.proofs.lemmas.Bool.Decides.{Decides-at, Decides-eqb}
use Rattle.cnf.specs.Formula.{value_of}
use Rattle.futoshiki.specs.Board.{InRange, up_to, variable_at}
use Rattle.fillings.specs.Fillings.{Filling, held_value, filling_assignment}
use Rattle.fillings.specs.Theorems.{Assigns}
use Rattle.futoshiki.proofs.Lists.{length_blocks, getD_blocks}
use Rattle.fillings.proofs.Truth.{value_placed}

pub length_assignment : (N : ℕ) (f : List ℕ) → length (filling_assignment N f) ≡ length f * N
length_assignment N f = length_blocks N (λ x. map (eqb x) (up_to N)) (λ x. length-map-range_with_len (eqb x) 1 N) f

-- a variable is true exactly when its cell holds its value
pub value_assignment : (N : ℕ) (f : List ℕ) (i v : ℕ) → 1 ≤ i → i ≤ length f → InRange N v → value_of (filling_assignment N f) (variable_at N i v) ≡ eqb (held_value f i) v
value_assignment N f i v p q w =
    value_placed (filling_assignment N f) (variable_at N i v) (omega arith)
    ∙ ap (λ k. get_or (filling_assignment N f) k false) (omega arith)
    ∙ getD_blocks N (λ x. map (eqb x) (up_to N)) (λ x. length-map-range_with_len (eqb x) 1 N) f (i - 1) (v - 1) 0 false (omega arith) (omega arith)
    ∙ get_or-map-range_with_len (eqb (held_value f i)) 1 N (v - 1) v false (omega arith) (omega arith)

pub assigns : (N : ℕ) (f : List ℕ) → Filling N f → Assigns N f
assigns N f fill = record {
  whole = length_assignment N f ∙ ap (λ m. m * N) fill.0;
  exactly = λ i v wi wv. Decides-at _ _ (value_assignment N f i v wi.0 (omega (arith, fill.0)) wv) (Decides-eqb (held_value f i) v);
}

-- Two fillings with one assignment are one.
use Rattle.std.proofs.Common.{◌≡◌, ℕ, ◌+◌, ◌*◌, List, get_or, sym, refl, ap, ◌∙◌, arith}
use Rattle.std.proofs.lemmas.List.{ext_get_or}
use Rattle.std.proofs.lemmas.Bool.{eq-eqb}
use Rattle.cnf.specs.Formula.{value_of}
use Rattle.futoshiki.specs.Board.{InRange, variable_at}
use Rattle.fillings.specs.Fillings.{Filling, held_value, filling_assignment}
use Rattle.fillings.proofs.Assignments.{value_assignment}
use Rattle.fillings.proofs.Sound.{held_within, held_from}

module _ (N : ℕ) (f g : List ℕ) (fill : Filling N f) (fill' : Filling N g) (e : filling_assignment N f ≡ filling_assignment N g) where
  same_held : (i : ℕ) → InRange (N * N) i → held_value f i ≡ held_value g i
  same_held i w =
      let v = held_value f i in
      let wv = held_within N f fill i w in
      let h = value_assignment N f i v w.0 (omega arith) wv ∙ eq-eqb v v refl in
      sym (held_from N g fill' i v w wv (ap (λ a. value_of a (variable_at N i v)) (sym e) ∙ h))

  pub one_for_one : f ≡ g
  one_for_one = ext_get_or 0 f g (omega arith) (λ k p. ap (λ i. get_or f i 0) (omega arith) ∙ same_held (k + 1) (omega arith, omega arith) ∙ ap (λ i. get_or g i 0) (omega arith))

-- A filling that keeps the rules gives a model.
use Rattle.std.proofs.Common.{◌≡◌, ℕ, ◌-◌, ◌*◌, ◌<◌, true, List, sym, refl, ap, ◌∙◌, arith}
use Rattle.std.specs.List.{AllByRecursion}
use Rattle.std.proofs.ByRecursion.{All-get_or}
use Rattle.std.proofs.lemmas.Bool.{eqb-true, eq-eqb}
use Rattle.cnf.specs.Formula.{value_of, Model}
use Rattle.futoshiki.specs.declared.sign.Sign.{Sign}
use Rattle.futoshiki.specs.Board.{InRange, cell_at, variable_at}
use Rattle.futoshiki.specs.Listing.{five_groups}
use Rattle.fillings.specs.Fillings.{Filling, held_value, Keeps, filling_assignment}
use Rattle.futoshiki.specs.Rules.{OnBoard}
use Rattle.futoshiki.proofs.Lists.{all_both}
use Rattle.futoshiki.proofs.Places.{within}
use Rattle.fillings.proofs.Assignments.{length_assignment, value_assignment}
use Rattle.fillings.proofs.View.{SignSays, View, satisfies_from_view}

module _ (N : ℕ) (f : List ℕ) (fill : Filling N f) where
  pub held_within : (i : ℕ) → InRange (N * N) i → InRange N (held_value f i)
  held_within i w = All-get_or (InRange N) f (i - 1) 0 (omega arith) fill.1

  -- what a true variable tells of the filling
  pub held_from : (i v : ℕ) → InRange (N * N) i → InRange N v → value_of (filling_assignment N f) (variable_at N i v) ≡ true → held_value f i ≡ v
  held_from i v wi wv h = eqb-true (held_value f i) v (sym (value_assignment N f i v wi.0 (omega arith) wv) ∙ h)

  module _ (signs : List Sign) (on : AllByRecursion (OnBoard N) signs) (keeps : Keeps N signs f) where
    view : View (filling_assignment N f) N signs
    view = record {
      some = λ i wi.
          let v = held_value f i in
          let wv = held_within i wi in
          (v, wv, value_assignment N f i v wi.0 (omega arith) wv ∙ eq-eqb v v refl);
      single = λ i v w wi p q r s t.
          let e = held_from i v wi (p, omega arith) s in
          let e' = held_from i w wi (omega arith, r) t in
          omega arith;
      in_row = λ r v c d wr wv p q u s t.
          let one = keeps.rows_whole r v wr wv in
          let wc : InRange N c = (p, omega arith) in
          let wd : InRange N d = (omega arith, u) in
          let e = one.3 c wc (held_from (cell_at N r c) v (within N N r c wr wc) wv s) in
          let e' = one.3 d wd (held_from (cell_at N r d) v (within N N r d wr wd) wv t) in
          omega arith;
      in_column = λ c v r r' wc wv p q u s t.
          let one = keeps.columns_whole c v wc wv in
          let wr : InRange N r = (p, omega arith) in
          let wr' : InRange N r' = (omega arith, u) in
          let e = one.3 r wr (held_from (cell_at N r c) v (within N N r c wr wc) wv s) in
          let e' = one.3 r' wr' (held_from (cell_at N r' c) v (within N N r' c wr' wc) wv t) in
          omega arith;
      of_signs = all_both (OnBoard N) (λ s. held_value f s.lesser < held_value f s.greater) (SignSays (filling_assignment N f) N)
          (λ s o h x y wx wy u t.
          let e = held_from s.lesser x o.0 wx u in
          let e' = held_from s.greater y o.1 (wy.0, omega arith) t in
          omega arith)
          signs on keeps.signs_hold;
    }

    pub sound : Model (N * N * N) (five_groups N signs) (filling_assignment N f)
    sound = record { total = length_assignment N f ∙ ap (λ m. m * N) fill.0; holds = satisfies_from_view (filling_assignment N f) N signs view }

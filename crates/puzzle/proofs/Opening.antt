-- The first word of a list.
use Rattle.std.proofs.Common.{◌≡◌, ℕ, Bool, true, false, cond, List, [], ◌∷◌, length, Some, None, Ok, Err, sym, refl, ap, ◌∙◌, arith}
use Rattle.cnf.specs.declared.fault.Fault.{Fault}
use Rattle.cnf.specs.declared.fault.Fault.TheVariants.{WordForm, BoardWord, EndWord}
use Rattle.cnf.specs.Faults.{check_for}
use Rattle.words.specs.declared.item.Item.{Item}
use Rattle.words.specs.Layouts.{decoded}
use Rattle.puzzle.specs.Reading.{Tables, Verdict, opens, side_in, opening_answer, read_on, read_from, opened, read_list}
use Rattle.puzzle.specs.Steps.{side_told}

pub no_word : (t : Tables) (ws : List ℕ) → length ws ≡ 0 → Err (EndWord 1) ≡ read_list t ws
unfolding read_list
no_word t [] h = refl
no_word t (w ∷ ws) h = absurd (omega arith)

-- a refused opening is the answer
by_side : (b : Bool) (N : ℕ) (f : Fault) (rest : Verdict) → cond b (Ok N) (Err (BoardWord 1)) ≡ Err f → Err f ≡ read_on (check_for b (BoardWord 1)) rest
by_side true N f rest h = cc
by_side false N f rest h = cc

-- an opening gives the side, and is read on from
by_opening : (t : Tables) (b : Bool) (M N : ℕ) (rest : ℕ → Verdict) → cond b (Ok M) (Err (BoardWord 1)) ≡ Ok N → read_on (check_for b (BoardWord 1)) (rest M) ≡ rest N
by_opening t true M N rest h = let e : M ≡ N = cc in ap rest e
by_opening t false M N rest h = cc

module _ (t : Tables) (w : ℕ) (ws : List ℕ) where
  pub no_item : decoded w ≡ None → Err (WordForm 1) ≡ read_list t (w ∷ ws)
  unfolding read_list
  no_item e = rw e

  says : (it : Item) → decoded w ≡ Some it → read_list t (w ∷ ws) ≡ read_on (opening_answer it) (read_from t (opened (side_in it)) 2 ws)
  unfolding read_list
  says it e = rw e

  pub opens_none : (it : Item) → decoded w ≡ Some it → (f : Fault) → side_told it ≡ Err f → Err f ≡ read_list t (w ∷ ws)
  opens_none it e f s = by_side (opens it) (side_in it) f (read_from t (opened (side_in it)) 2 ws) s ∙ sym (says it e)

  pub opens_board : (it : Item) → decoded w ≡ Some it → (N : ℕ) → side_told it ≡ Ok N → read_list t (w ∷ ws) ≡ read_from t (opened N) 2 ws
  opens_board it e N s = says it e ∙ by_opening t (opens it) (side_in it) N (λ M. read_from t (opened M) 2 ws) s

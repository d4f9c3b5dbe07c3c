-- Each clause of the listing names variables of the board, and none twice.
use Rattle.std.proofs.Common.{◌≡◌, ℕ, zero, suc, ◌+◌, ◌*◌, ◌<◌, ◌≤◌, true, ◌≢◌, List, [], ◌∷◌, map, pos, neg_ℤ, sym, refl, arith}
use Rattle.std.specs.List.{AllByRecursion, range_with_len}
use Rattle.std.proofs.lemmas.Bool.{and_from}
use Rattle.cnf.specs.Formula.{Clause, variable_of, proper_clause, all_proper}
use Rattle.cnf.specs.Words.{Within, Apart, Distinct}
use Rattle.cnf.proofs.Proper.{properly}
use Rattle.futoshiki.specs.declared.sign.Sign.{Sign}
use Rattle.futoshiki.specs.Board.{InRange, cell_at, variable_at}
use Rattle.futoshiki.specs.Listing.{not_both, one_of, five_groups}
use Rattle.futoshiki.specs.Rules.{OnBoard}
use Rattle.futoshiki.proofs.Lists.{all_both}
use Rattle.futoshiki.proofs.Places.{within, same_block}
use Rattle.fillings.proofs.Groups.{OfSign, Groups, all_listing}

-- a clause over 1 to n that names no variable twice
abbrev Proper : ℕ → Clause → Type 0
Proper n c = proper_clause n c ≡ true

names_denied : (x : ℕ) → variable_of (neg_ℤ (pos x)) ≡ x
names_denied zero = refl
names_denied (suc k) = refl

proper_not_both : (n x y : ℕ) → InRange n x → InRange n y → x ≢ y → Proper n (not_both x y)
proper_not_both n x y wx wy d = (properly n (not_both x y)).1 (within_both, apart_both)
  where
    within_both : Within n (not_both x y)
    within_both = rw (names_denied x, names_denied y) (wx.0, wx.1, (wy.0, wy.1, tt))

    apart_both : Distinct (not_both x y)
    apart_both = rw (names_denied x, names_denied y) ((λ e. d (sym e), tt), (tt, tt))

within_one_of : (n : ℕ) (g : ℕ → ℕ) (b m : ℕ) → ((k : ℕ) → b ≤ k → k < b + m → InRange n (g k)) → Within n (one_of (map g (range_with_len b m)))
within_one_of n g b zero h = tt
within_one_of n g b (suc m) h =
    let w = h b (omega arith) (omega arith) in
    (w.0, w.1, within_one_of n g (b + 1) m (λ k p q. h k (omega arith) (omega arith)))

apart_one_of : (v : ℕ) (g : ℕ → ℕ) (b m : ℕ) → ((k : ℕ) → b ≤ k → k < b + m → g k ≢ v) → Apart v (one_of (map g (range_with_len b m)))
apart_one_of v g b zero h = tt
apart_one_of v g b (suc m) h =
    (h b (omega arith) (omega arith), apart_one_of v g (b + 1) m (λ k p q. h k (omega arith) (omega arith)))

distinct_one_of : (g : ℕ → ℕ) (b m : ℕ) → ((j k : ℕ) → b ≤ j → j < k → k < b + m → g k ≢ g j) → Distinct (one_of (map g (range_with_len b m)))
distinct_one_of g b zero h = tt
distinct_one_of g b (suc m) h =
    (apart_one_of (g b) g (b + 1) m (λ k p q. h b k (omega arith) (omega arith) (omega arith)), distinct_one_of g (b + 1) m (λ j k p q r. h j k (omega arith) q (omega arith)))

all_proper_from : (n : ℕ) (cs : List Clause) → AllByRecursion (Proper n) cs → all_proper n cs ≡ true
all_proper_from n [] h = refl
all_proper_from n (c ∷ cs) h = and_from (proper_clause n c) (all_proper n cs) h.0 (all_proper_from n cs h.1)

module _ (N : ℕ) (signs : List Sign) (on : AllByRecursion (OnBoard N) signs) (differ : AllByRecursion (λ s. s.lesser ≢ s.greater) signs) where
  in_board : (i v : ℕ) → InRange (N * N) i → InRange N v → InRange (N * N * N) (variable_at N i v)
  in_board i v wi wv = within (N * N) N i v wi wv

  -- two variables of different cells
  other_cells : (i j v w : ℕ) → InRange (N * N) i → InRange (N * N) j → InRange N v → InRange N w → i ≢ j → Proper (N * N * N) (not_both (variable_at N i v) (variable_at N j w))
  other_cells i j v w wi wj wv ww d = proper_not_both (N * N * N) _ _ (in_board i v wi wv) (in_board j w wj ww) (λ e. d (same_block N i j v w wi.0 wj.0 wv ww e))

  groups : Groups (Proper (N * N * N)) N signs
  groups = record {
    some = λ i wi. (properly (N * N * N) _).1 (
      within_one_of (N * N * N) (variable_at N i) 1 N (λ v p q. in_board i v wi (p, omega arith)),
      distinct_one_of (variable_at N i) 1 N (λ j k p q r e. omega arith),
    );
    single = λ i v w wi p q r.
        proper_not_both (N * N * N) _ _ (in_board i v wi (p, omega arith)) (in_board i w wi (omega arith, r)) (λ e. omega arith);
    in_row = λ r v c d wr wv p q u.
        let wc : InRange N c = (p, omega arith) in
        let wd : InRange N d = (omega arith, u) in
        other_cells (cell_at N r c) (cell_at N r d) v v (within N N r c wr wc) (within N N r d wr wd) wv wv (λ e. omega arith);
    in_column = λ c v r s wc wv p q u.
        let wr : InRange N r = (p, omega arith) in
        let ws : InRange N s = (omega arith, u) in
        other_cells (cell_at N r c) (cell_at N s c) v v (within N N r c wr wc) (within N N s c ws wc) wv wv
        (λ e. let e' = same_block N r s c c wr.0 ws.0 wc wc e in omega arith);
    of_signs = all_both (OnBoard N) (λ s. s.lesser ≢ s.greater) (OfSign (Proper (N * N * N)) N)
        (λ s o d x y wx wy. other_cells s.lesser s.greater x y o.0 o.1 wx (wy.0, omega arith) d)
        signs on differ;
  }

  pub listing_proper : all_proper (N * N * N) (five_groups N signs) ≡ true
  listing_proper = all_proper_from (N * N * N) (five_groups N signs) (all_listing (Proper (N * N * N)) N signs groups)

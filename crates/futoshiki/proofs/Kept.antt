-- The test of the rules tells whether a board keeps them.
use Rattle.std.proofs.Common.{◌≡◌, ℕ, ◌+◌, ◌-◌, ◌*◌, ◌≤◌, true, ◌&&◌, leb, ◌≢◌, List, [], ◌∷◌, length, Decides, sym, refl, ap, ◌∙◌, ⊎_elim, arith}
use Rattle.std.specs.List.{AllByRecursion}
use Rattle.std.proofs.lemmas.Bool.{leb-true, le-leb, and_parts, and_from}
use Rattle.std.proofs.lemmas.Bool.Decides.{Decides-and}
use Rattle.futoshiki.specs.declared.sign.Sign.{Sign}
use Rattle.futoshiki.specs.Board.{cell_at, sharing_side, SharingSide}
use Rattle.futoshiki.specs.Rules.{in_range, sign_kept, signs_kept, rules_kept, OnBoard, Rules}
use Rattle.futoshiki.proofs.Adjacent.{shares, shared}
use Rattle.futoshiki.proofs.Places.{same_block}

told_le : (a b : ℕ) → Decides (leb a b) (a ≤ b)
told_le a b = (leb-true a b, le-leb a b)

told_on : (N : ℕ) (s : Sign) → Decides (in_range (N * N) s.lesser && in_range (N * N) s.greater) (OnBoard N s)
told_on N s =
    Decides-and _ _
    (Decides-and _ _ (told_le 1 s.lesser) (told_le s.lesser (N * N)))
    (Decides-and _ _ (told_le 1 s.greater) (told_le s.greater (N * N)))

told_few : (N m : ℕ) → Decides (leb 2 N && leb N 9 && leb m (2 * N * N)) (((2 ≤ N) × (N ≤ 9)) × (m ≤ 2 * N * N))
told_few N m = Decides-and _ _ (Decides-and _ _ (told_le 2 N) (told_le N 9)) (told_le m (2 * N * N))

module _ (N : ℕ) (some : 1 ≤ N) where
  sign_from : (s : Sign) → sign_kept N s ≡ true → OnBoard N s × SharingSide N s.lesser s.greater
  sign_from s h =
      let w = and_parts (in_range (N * N) s.lesser && in_range (N * N) s.greater) (sharing_side N s.lesser s.greater) h in
      let on = (told_on N s).0 w.0 in
      (on, shares N some s.lesser s.greater on.0 on.1 w.1)

  sign_kept_from : (s : Sign) → OnBoard N s → SharingSide N s.lesser s.greater → sign_kept N s ≡ true
  sign_kept_from s on side = and_from _ _ ((told_on N s).1 on) (shared N s.lesser s.greater side)

  signs_from : (signs : List Sign) → signs_kept N signs ≡ true → AllByRecursion (OnBoard N) signs × AllByRecursion (λ s. SharingSide N s.lesser s.greater) signs
  signs_from [] h = (tt, tt)
  signs_from (s ∷ signs) h =
      let w = and_parts (sign_kept N s) (signs_kept N signs) h in
      let v = sign_from s w.0 in
      let r = signs_from signs w.1 in
      ((v.0, r.0), (v.1, r.1))

  signs_kept_from : (signs : List Sign) → AllByRecursion (OnBoard N) signs → AllByRecursion (λ s. SharingSide N s.lesser s.greater) signs → signs_kept N signs ≡ true
  signs_kept_from [] on side = refl
  signs_kept_from (s ∷ signs) on side =
      and_from (sign_kept N s) (signs_kept N signs) (sign_kept_from s on.0 side.0) (signs_kept_from signs on.1 side.1)

pub rules_from : (N : ℕ) (signs : List Sign) → rules_kept N signs ≡ true → Rules N signs
rules_from N signs h =
    let w = and_parts (leb 2 N && leb N 9 && leb (length signs) (2 * N * N)) (signs_kept N signs) h in
    let few = (told_few N (length signs)).0 w.0 in
    let r = signs_from N (omega arith) signs w.1 in
    record {
      two_at_least = few.0.0;
      nine_at_most = few.0.1;
      few_signs = few.1;
      all_on_board = r.0;
      all_share = r.1;
    }

pub rules_kept_from : (N : ℕ) (signs : List Sign) → Rules N signs → rules_kept N signs ≡ true
rules_kept_from N signs r =
    and_from _ _ ((told_few N (length signs)).1 ((r.two_at_least, r.nine_at_most), r.few_signs))
    (signs_kept_from N (let p = r.two_at_least in omega arith) signs r.all_on_board r.all_share)

pub rules_told : (N : ℕ) (signs : List Sign) → Decides (rules_kept N signs) (Rules N signs)
rules_told N signs = (rules_from N signs, rules_kept_from N signs)

-- cells that share a side differ
pub sharing_apart : (N i j : ℕ) → SharingSide N i j → i ≢ j
sharing_apart N i j s e =
    let p = s.place_i in
    let q = s.place_j in
    let same : cell_at N s.row_i s.column_i ≡ cell_at N s.row_j s.column_j = sym p ∙ e ∙ q in
    let rows = same_block N s.row_i s.row_j s.column_i s.column_j s.row_i_on.0 s.row_j_on.0 s.column_i_on s.column_j_on same in
    let columns : s.column_i ≡ s.column_j = omega (arith, ap (λ r. (r - 1) * N) rows) in
    ⊎_elim
    (λ w. ⊎_elim (λ (d : s.column_i + 1 ≡ s.column_j). omega arith) (λ (d : s.column_j + 1 ≡ s.column_i). omega arith) w.1)
    (λ w. ⊎_elim (λ (d : s.row_i + 1 ≡ s.row_j). omega arith) (λ (d : s.row_j + 1 ≡ s.row_i). omega arith) w.1)
    s.beside

-- The test for cells that share a side.
use Rattle.std.proofs.Common.{◌≡◌, ℕ, ◌+◌, ◌-◌, ◌*◌, ◌/◌, ◌%◌, ◌≤◌, true, ◌⊎◌, Decides, ap, ◌∙◌, arith}
use Rattle.std.proofs.lemmas.Nat.{div-mul-add, mod-mul-add, div_below, mod_below, div-add-mod'}
use Rattle.std.proofs.lemmas.Bool.Decides.{Decides-eqb, Decides-and, Decides-or}
use Rattle.futoshiki.specs.Board.{InRange, cell_at, row_of, column_of, differ_by_one, sharing_side, DifferByOne, SharingSide}

-- what the test says of rows and columns
abbrev Near : ℕ → ℕ → ℕ → Type 0
Near N i j = ((row_of N i ≡ row_of N j) × DifferByOne (column_of N i) (column_of N j)) ⊎ ((column_of N i ≡ column_of N j) × DifferByOne (row_of N i) (row_of N j))

told_neighbours : (a b : ℕ) → Decides (differ_by_one a b) (DifferByOne a b)
told_neighbours a b = Decides-or _ _ (Decides-eqb (a + 1) b) (Decides-eqb (b + 1) a)

told_near : (N i j : ℕ) → Decides (sharing_side N i j) (Near N i j)
unfolding sharing_side
told_near N i j =
    Decides-or _ _
    (Decides-and _ _ (Decides-eqb (row_of N i) (row_of N j)) (told_neighbours (column_of N i) (column_of N j)))
    (Decides-and _ _ (Decides-eqb (column_of N i) (column_of N j)) (told_neighbours (row_of N i) (row_of N j)))

module _ (N : ℕ) (some : 1 ≤ N) where
  row_on : (i : ℕ) → InRange (N * N) i → InRange N (row_of N i)
  row_on i w = (omega arith, omega (arith, div_below (i - 1) N N some (omega arith)))

  column_on : (i : ℕ) → InRange N (column_of N i)
  column_on i = (omega arith, omega (arith, mod_below (i - 1) N some))

  place : (i : ℕ) → InRange (N * N) i → i ≡ cell_at N (row_of N i) (column_of N i)
  place i w =
      let back : (i - 1) / N + 1 - 1 ≡ (i - 1) / N = omega arith in
      omega (arith, ap (λ k. k * N) back, div-add-mod' (i - 1) N)

  pub shares : (i j : ℕ) → InRange (N * N) i → InRange (N * N) j → sharing_side N i j ≡ true → SharingSide N i j
  shares i j wi wj h = record {
    row_i = row_of N i;
    column_i = column_of N i;
    row_j = row_of N j;
    column_j = column_of N j;
    row_i_on = row_on i wi;
    column_i_on = column_on i;
    row_j_on = row_on j wj;
    column_j_on = column_on j;
    place_i = place i wi;
    place_j = place j wj;
    beside = (told_near N i j).0 h;
  }

row_cell : (N r c i : ℕ) → InRange N r → InRange N c → i ≡ cell_at N r c → row_of N i ≡ r
row_cell N r c i wr wc e =
    let p : i - 1 ≡ (r - 1) * N + (c - 1) = omega arith in
    let q = ap (λ x. x / N) p ∙ div-mul-add (r - 1) N (c - 1) (omega arith) in
    omega arith

column_cell : (N r c i : ℕ) → InRange N r → InRange N c → i ≡ cell_at N r c → column_of N i ≡ c
column_cell N r c i wr wc e =
    let p : i - 1 ≡ (r - 1) * N + (c - 1) = omega arith in
    let q = ap (λ x. x % N) p ∙ mod-mul-add (r - 1) N (c - 1) (omega arith) in
    omega arith

pub shared : (N i j : ℕ) → SharingSide N i j → sharing_side N i j ≡ true
shared N i j s =
    let ri = row_cell N s.row_i s.column_i i s.row_i_on s.column_i_on s.place_i in
    let ci = column_cell N s.row_i s.column_i i s.row_i_on s.column_i_on s.place_i in
    let rj = row_cell N s.row_j s.column_j j s.row_j_on s.column_j_on s.place_j in
    let cj = column_cell N s.row_j s.column_j j s.row_j_on s.column_j_on s.place_j in
    (told_near N i j).1 (rw (ri, ci, rj, cj) s.beside)

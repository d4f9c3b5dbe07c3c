-- Whether every cell is claimed, cell by cell.
use Rattle.std.proofs.Common.{◌≡◌, ℕ, suc, ◌+◌, ◌-◌, ◌<◌, ◌≤◌, true, false, nat_eq, ◌&&◌, List, ap, ◌∙◌, arith}
use Rattle.std.specs.List.{range_with_len}
use Rattle.register.specs.Keys.{has_key}
use Rattle.words.specs.declared.entry.Entry.{Entry}
use Rattle.words.specs.Cells.{entry_key}
use Rattle.puzzle.specs.Reading.{all_claimed}

module _ (es : List Entry) (n i : ℕ) where
  -- the next cell first
  first_cell : i ≤ n → all_claimed es (range_with_len i (n + 1 - i)) ≡ (has_key nat_eq entry_key es i && all_claimed es (range_with_len (i + 1) (n + 1 - (i + 1))))
  unfolding all_claimed
  first_cell h =
      let e : n + 1 - i ≡ suc (n + 1 - (i + 1)) = omega arith in
      ap (λ k. all_claimed es (range_with_len i k)) e

  pub cell_claimed : i ≤ n → has_key nat_eq entry_key es i ≡ true → all_claimed es (range_with_len i (n + 1 - i)) ≡ all_claimed es (range_with_len (i + 1) (n + 1 - (i + 1)))
  cell_claimed h e = first_cell h ∙ ap (λ b. b && all_claimed es (range_with_len (i + 1) (n + 1 - (i + 1)))) e

  pub cell_unclaimed : i ≤ n → has_key nat_eq entry_key es i ≡ false → all_claimed es (range_with_len i (n + 1 - i)) ≡ false
  cell_unclaimed h e = first_cell h ∙ ap (λ b. b && all_claimed es (range_with_len (i + 1) (n + 1 - (i + 1)))) e

  pub none_left : n < i → all_claimed es (range_with_len i (n + 1 - i)) ≡ true
  unfolding all_claimed
  none_left h =
      let e : n + 1 - i ≡ 0 = omega arith in
      ap (λ k. all_claimed es (range_with_len i k)) e

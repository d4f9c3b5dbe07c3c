-- The rules that a board keeps, as a test and in words.
use Rattle.std.specs.Prelude.{ℕ, ◌*◌, ◌≤◌, Bool, ◌&&◌, List, length, nat_le}
use Rattle.std.specs.List.{AllByRecursion, list_all}
use Rattle.futoshiki.specs.declared.sign.Sign.{Sign}
use Rattle.futoshiki.specs.Board.{InRange, sharing_side, SharingSide}

-- whether a number is one of 1 to n
abbrev pub in_range : ℕ → ℕ → Bool
in_range n k = nat_le 1 k && nat_le k n

-- whether the two cells of a sign stand on the board and share a side
abbrev pub sign_kept : ℕ → Sign → Bool
sign_kept N s = in_range (N * N) s.lesser && in_range (N * N) s.greater && sharing_side N s.lesser s.greater

-- whether every sign does
abbrev pub signs_kept : ℕ → List Sign → Bool
signs_kept N signs = list_all (sign_kept N) signs

-- whether a board keeps the rules; more signs than these would sign some pair of cells twice
abbrev pub rules_kept : ℕ → List Sign → Bool
rules_kept N signs = nat_le 2 N && nat_le N 9 && nat_le (length signs) (2 * N * N) && signs_kept N signs

-- both cells of the sign stand on the board
abbrev pub OnBoard : ℕ → Sign → Type 0
OnBoard N s = InRange (N * N) s.lesser × InRange (N * N) s.greater

-- the rules in words
pub record Rules (N : ℕ) (signs : List Sign) : Type 0 where
  pub two_at_least : 2 ≤ N
  pub nine_at_most : N ≤ 9
  pub few_signs : length signs ≤ 2 * N * N
  pub all_on_board : AllByRecursion (OnBoard N) signs
  pub all_share : AllByRecursion (λ s. SharingSide N s.lesser s.greater) signs

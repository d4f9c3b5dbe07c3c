-- What a Futoshiki, once it is listed, means.
use Rattle.std.specs.Prelude.{◌≡◌, ℕ, List}
use Rattle.cnf.specs.Formula.{Clause}
use Rattle.futoshiki.specs.declared.sign.Sign.{Sign}
use Rattle.futoshiki.specs.declared.source.Futoshiki.{Futoshiki}
use Rattle.futoshiki.specs.Drafts.{draft_listing}
use Rattle.futoshiki.specs.Listing.{board_variables, board_listing}

-- the number of variables that it tells
abbrev pub source_variables : Futoshiki → ℕ
source_variables s = s.variables

-- the clauses that it lists
abbrev pub source_listing : Futoshiki → List Clause
source_listing s = draft_listing s.clauses

-- it tells the variables and the clauses of a board
pub record TellsBoard (N : ℕ) (signs : List Sign) (s : Futoshiki) : Type 0 where
  pub variables_told : source_variables s ≡ board_variables N signs
  pub listing_told : source_listing s ≡ board_listing N signs

-- Joining two sources: the models of the join are what is a model of both.
use Rattle.std.specs.Prelude.{◌≡◌, ℕ, ◌+◌, ◌≤◌, max, ◌↔◌, List, ◌++◌, length, take}
use Rattle.cnf.specs.Formula.{Clause, Assignment, Model, Lawful}

-- the first listing, and after it the second
abbrev pub joined_listing : List Clause → List Clause → List Clause
joined_listing cs ds = cs ++ ds

-- what joining two lawful sources does to the models, and when it is lawful
pub record JoinMeans (n m : ℕ) (cs ds : List Clause) : Type 0 where
  pub models : Lawful n cs → Lawful m ds → (a : Assignment) → Model (max n m) (joined_listing cs ds) a ↔ ((length a ≡ max n m) × Model n cs (take n a) × Model m ds (take m a))
  pub lawful : Lawful n cs → Lawful m ds → (Lawful (max n m) (joined_listing cs ds) ↔ (length cs + length ds ≤ 65535))

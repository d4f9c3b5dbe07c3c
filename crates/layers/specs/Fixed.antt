-- Fixing literals: each is listed as a clause of its own, and only the models that make all of them true stay.
use Rattle.std.specs.Prelude.{◌≡◌, ℕ, ◌+◌, ◌<◌, ◌≤◌, true, ◌↔◌, List, [], ◌∷◌, map, length, ℤ}
use Rattle.std.specs.List.{AllByRecursion}
use Rattle.cnf.specs.declared.literal.Literal.{Literal}
use Rattle.cnf.specs.declared.fault.Fault.TheVariants.{FixFull}
use Rattle.layers.specs.declared.fix.Fix.{Fix}
use Rattle.layers.specs.declared.unmade.Unmade.{Unmade}
use Rattle.cnf.specs.Formula.{Clause, Assignment, variable_of, literal_true, Model, Lawful}
use Rattle.layers.specs.Joined.{joined_listing}

-- each literal as a clause of its own
abbrev pub units_of : List ℤ → List Clause
units_of ls = map (λ l. l ∷ []) ls

-- a listing, and after it each literal as a clause
abbrev pub fixed_listing : List Clause → List ℤ → List Clause
fixed_listing cs ls = joined_listing cs (units_of ls)

-- the source below a fix
abbrev pub source_below : {S : Type 0} → Fix S → S
source_below f = f.joined.first

-- the literals that are fixed, in their order
abbrev pub fixed_literals : {S : Type 0} → Fix S → List Literal
fixed_literals f = f.joined.second.literals.items

-- a fix that was made: over the source below, with the literals given, of which there are few enough
pub record Fixed {S : Type 0} (source : S) (ls : List Literal) (f : Fix S) : Type 0 where
  pub few : length ls ≤ 128
  pub over : source_below f ≡ source
  pub in_order : fixed_literals f ≡ ls

-- a fix that was refused: there are too many literals, and the source below is given back
pub record NotFixed {S : Type 0} (source : S) (ls : List Literal) (u : Unmade S) : Type 0 where
  pub too_many : 128 < length ls
  pub given_back : u.below ≡ source
  pub cause : u.fault ≡ FixFull

-- a literal names a variable from 1 to n
abbrev pub NamesVariable : ℕ → ℤ → Type 0
NamesVariable n l = (1 ≤ variable_of l) × (variable_of l ≤ n)

-- what fixing literals does to the models, and when it is lawful
pub record FixMeans (n : ℕ) (cs : List Clause) (ls : List ℤ) : Type 0 where
  pub models : (a : Assignment) → Model n (fixed_listing cs ls) a ↔ (Model n cs a × AllByRecursion (λ l. literal_true a l ≡ true) ls)
  pub lawful : Lawful n (fixed_listing cs ls) ↔ (Lawful n cs × AllByRecursion (NamesVariable n) ls × (length cs + length ls ≤ 65535))

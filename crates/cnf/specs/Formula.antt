-- Literals, clauses, assignments and models; the block clause of an assignment; what a lawful source is.
use Rattle.std.specs.Prelude.{◌≡◌, ℕ, zero, suc, ◌≤◌, Bool, true, false, not, ◌&&◌, ◌||◌, List, [], ◌∷◌, length, ℤ, pos, negsuc, ◌==◌, nat_le, slice_index_or, unsigned_abs}

-- a clause is a list of literals; a literal is a whole number, negative where it denies its variable
abbrev pub Clause : Type 0
Clause = List ℤ

-- an assignment: variable v stands at place v − 1
abbrev pub Assignment : Type 0
Assignment = List Bool

-- the variable that a literal names
abbrev pub variable_of : ℤ → ℕ
variable_of l = unsigned_abs l

-- the value of a variable; false where the assignment gives it none
abbrev pub value_of : Assignment → ℕ → Bool
value_of a zero = false
value_of a (suc i) = slice_index_or a i false

-- whether a literal is true under an assignment
abbrev pub literal_true : Assignment → ℤ → Bool
literal_true a (pos v) = value_of a v
literal_true a (negsuc i) = not (value_of a (suc i))

-- a clause is true when one of its literals is
abbrev pub clause_true : Assignment → Clause → Bool
clause_true a [] = false
clause_true a (l ∷ c) = literal_true a l || clause_true a c

-- all clauses of a listing are true
abbrev pub all_true : Assignment → List Clause → Bool
all_true a [] = true
all_true a (c ∷ cs) = clause_true a c && all_true a cs

-- a model: an assignment of the variables 1 to n, and no other, that makes all clauses true
pub record Model (n : ℕ) (cs : List Clause) (a : Assignment) : Type 0 where
  pub total : length a ≡ n
  pub holds : all_true a cs ≡ true

-- the literal of variable i + 1 that denies a value
abbrev pub denial_of : ℕ → Bool → ℤ
denial_of i true = negsuc i
denial_of i false = pos (suc i)

-- the denials of a list of values, for the variables i + 1, i + 2, ..
abbrev pub denials_from : ℕ → List Bool → Clause
denials_from i [] = []
denials_from i (b ∷ a) = denial_of i b ∷ denials_from (suc i) a

-- the block clause of an assignment: over 1 to n in order, each literal denies the assignment's value
abbrev pub block_clause : Assignment → Clause
block_clause a = denials_from 0 a

-- whether a number stands in a list
abbrev pub is_among : ℕ → List ℕ → Bool
is_among v [] = false
is_among v (w ∷ ws) = v == w || is_among v ws

-- a literal of a variable from 1 to n that has not been seen
abbrev pub fresh_literal : ℕ → List ℕ → ℤ → Bool
fresh_literal n seen l = nat_le 1 (variable_of l) && nat_le (variable_of l) n && not (is_among (variable_of l) seen)

-- every literal names a variable from 1 to n, none of them twice and none that was seen
abbrev pub proper_after : ℕ → List ℕ → Clause → Bool
proper_after n seen [] = true
proper_after n seen (l ∷ c) = fresh_literal n seen l && proper_after n (variable_of l ∷ seen) c

-- every literal of a clause names a variable from 1 to n, none of them twice
abbrev pub proper_clause : ℕ → Clause → Bool
proper_clause n c = proper_after n [] c

-- the same, of every clause
abbrev pub all_proper : ℕ → List Clause → Bool
all_proper n [] = true
all_proper n (c ∷ cs) = proper_clause n c && all_proper n cs

-- a lawful source, by its number of variables and its listing
pub record Lawful (n : ℕ) (cs : List Clause) : Type 0 where
  pub some_variable : 1 ≤ n
  pub few_variables : n ≤ 1024
  pub few_clauses : length cs ≤ 65535
  pub clauses_proper : all_proper n cs ≡ true

-- Clauses that are listed one after another into a table that grows.
use Rattle.std.specs.Prelude.{◌≡◌, ℕ, ◌+◌, ◌-◌, ◌*◌, ◌≤◌, List, ◌++◌, map, vec_items, vec_len}
use Rattle.std.specs.List.{flat_map}
use Rattle.cnf.specs.Formula.{Clause}
use Rattle.cnf.specs.Tabled.{numbers_of, tabled}
use Rattle.futoshiki.specs.declared.draft.Draft.{Draft}
use Rattle.futoshiki.specs.Board.{up_to}
use Rattle.futoshiki.specs.Listing.{not_both}

-- a draft holds at most 100,000 literals when it has so many more
abbrev pub RoomFor : Draft → ℕ → Type 0
RoomFor d more = vec_len d.literals + more ≤ 100000

-- the clauses that a draft lists
abbrev pub draft_listing : Draft → List Clause
draft_listing d = tabled (numbers_of (vec_items d.literals)) (vec_items d.starts)

-- a draft goes on: it lists these clauses more, which have at most so many literals
pub record GoesOn (before after : Draft) (cs : List Clause) (most : ℕ) : Type 0 where
  pub lists : draft_listing after ≡ draft_listing before ++ cs
  pub few_literals : vec_len after.literals ≤ vec_len before.literals + most

-- variable x is not true with any of the n that follow y by steps
abbrev pub not_with : ℕ → ℕ → ℕ → ℕ → List Clause
not_with x y step n = map (λ k. not_both x (y + k * step)) (up_to n)

-- no two of n variables from x on, by steps, are true
abbrev pub no_two_stepped : ℕ → ℕ → ℕ → List Clause
no_two_stepped x step n = flat_map (λ j. not_with (x + (j - 1) * step) (x + (j - 1) * step) step (n - j)) (up_to n)

-- no two of a line's n variables, which go by steps, are true; the lines start at 1, n times every inner, and that n times every outer
abbrev pub no_two_along : ℕ → ℕ → ℕ → ℕ → List Clause
no_two_along n outer inner step =
    flat_map (λ a. flat_map (λ b. no_two_stepped ((a - 1) * outer + (b - 1) * inner + 1) step n) (up_to n)) (up_to n)

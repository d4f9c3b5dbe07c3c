-- How many pages a clause takes.
use Rattle.std.specs.Prelude.{ℕ, ◌*◌, ◌≤◌, max}
use Rattle.std.proofs.Common.{arith}
use Rattle.store.specs.Tables.{ceil_div}

-- the pages that n literals take: at least one
abbrev pub pages_for : ℕ → ℕ
pages_for n = max 1 (ceil_div n 8)

-- n literals have room on the pages that they take
pub fits_pages : (n : ℕ) → n ≤ 8 * pages_for n
fits_pages n = omega arith

pub pages_some : (n : ℕ) → 1 ≤ pages_for n
pages_some n = omega arith

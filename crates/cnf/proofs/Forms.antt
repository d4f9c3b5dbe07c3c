-- A claim's form.
use Rattle.std.proofs.Common.{◌≡◌, ℕ, ◌+◌, ◌<◌, ◌≤◌, true, false, List, length, Err, ◌∙◌, arith}
use Rattle.std.specs.List.{AllWithin, HoldsAt}
use Rattle.std.proofs.lemmas.Bool.Decides.{nat_tests}
use Rattle.cnf.specs.declared.fault.Fault.TheVariants.{ClaimForm}
use Rattle.cnf.specs.Faults.{Answer, accepted}
use Rattle.cnf.specs.Checks.{is_bit, bytes_fit, form_answer}
use Rattle.cnf.specs.Laws.{TellsFirst}
use Rattle.cnf.proofs.Firsts.{stops_at, goes_on, tells_by}

pub form_sized : (n : ℕ) (bs : List ℕ) → n ≤ 1024 → length bs ≡ n → form_answer n bs ≡ bytes_fit 1 bs
form_sized n bs h e = grind (arith, nat_tests)

pub bit_from : (b : ℕ) → b ≤ 1 → is_bit b ≡ true
bit_from b h = grind (arith, nat_tests)

pub no_bit : (b : ℕ) → 1 < b → is_bit b ≡ false
no_bit b h = grind (arith, nat_tests)

-- a claim of the source's size is decided by its first byte that is neither 0 nor 1
module _ (n : ℕ) (bs : List ℕ) (few : n ≤ 1024) (size : length bs ≡ n) where
  pub form_fits : AllWithin (λ b. b ≤ 1) bs 0 (length bs) → form_answer n bs ≡ accepted
  form_fits f = form_sized n bs few size ∙ goes_on is_bit ClaimForm 1 bs 0 (λ j l. bit_from _ (f j 0 (omega arith) l))

  pub form_stops : (i : ℕ) → (i < length bs) × HoldsAt (λ b. 1 < b) bs i × AllWithin (λ b. b ≤ 1) bs 0 i → form_answer n bs ≡ Err (ClaimForm (i + 1))
  form_stops i f =
      form_sized n bs few size
      ∙ stops_at is_bit ClaimForm 1 bs i 0 f.0 (λ j l. bit_from _ (f.2 j 0 (omega arith) l)) (no_bit _ (f.1 0))

pub form_tells : (n : ℕ) (bs : List ℕ) (answer : Answer) → answer ≡ form_answer n bs → n ≤ 1024 → length bs ≡ n → TellsFirst is_bit ClaimForm bs answer
form_tells n bs answer e h l = tells_by is_bit ClaimForm bs answer (e ∙ form_sized n bs h l)

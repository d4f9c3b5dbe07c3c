-- What holds of every board: its models and its law where it keeps the rules, and that it lists nothing where it does not.
use Rattle.std.proofs.Common.{◌≡◌, ℕ, ◌*◌, ◌≤◌, Bool, true, false, cond, ◌≢◌, List, [], length, refl, arith}
use Rattle.std.specs.List.{AllByRecursion}
use Rattle.std.proofs.lemmas.Nat.{mul-le}
use Rattle.std.proofs.ByRecursion.{All-weaker}
use Rattle.std.proofs.lemmas.Bool.{both_ways, cond-true, cond-false}
use Rattle.cnf.specs.Formula.{Clause, Lawful}
use Rattle.futoshiki.specs.declared.sign.Sign.{Sign}
use Rattle.futoshiki.specs.Board.{SharingSide}
use Rattle.futoshiki.specs.Rules.{rules_kept, Rules}
use Rattle.futoshiki.specs.Listing.{five_groups}
use Rattle.futoshiki.proofs.Kept.{rules_from, sharing_apart}
use Rattle.fillings.specs.Theorems.{ModelsAreFillings, clause_count, BoardStands, BoardTheorem}
use Rattle.fillings.proofs.Assignments.{assigns}
use Rattle.fillings.proofs.Sound.{sound}
use Rattle.fillings.proofs.Complete.{complete}
use Rattle.fillings.proofs.OneForOne.{one_for_one}
use Rattle.fillings.proofs.Lawful.{listing_proper}
use Rattle.fillings.proofs.Count.{variables_fit, count, count_fits}

-- a statement of a board's variables and clauses, where the board keeps the rules
when_kept : (P : ℕ → List Clause → Type 0) (b : Bool) (n : ℕ) (cs : List Clause) → b ≡ true → P n cs → P (cond b n 0) (cond b cs [])
when_kept P true n cs e p = p
when_kept P false n cs e p = absurd (both_ways false refl e)

module _ (N : ℕ) (signs : List Sign) (r : Rules N signs) where
  models : ModelsAreFillings N signs (N * N * N) (five_groups N signs)
  models =
      let some : 1 ≤ N = let p = r.two_at_least in omega arith in
      record {
        assigns = λ f fill. assigns N f fill;
        sound = λ f fill keeps. sound N f fill signs r.all_on_board keeps;
        complete = λ a m. complete N signs some r.all_on_board a m;
        one_for_one = λ f g fill fill' e. one_for_one N f g fill fill' e;
      }

  differ : AllByRecursion (λ s. s.lesser ≢ s.greater) signs
  differ = All-weaker (λ s. SharingSide N s.lesser s.greater) (λ s. s.lesser ≢ s.greater) (λ s. sharing_apart N s.lesser s.greater) signs r.all_share

  few : length signs ≤ 1000
  few =
      let p = r.few_signs in
      let q = r.nine_at_most in
      omega (arith, mul-le (2 * N) N 18 9 (omega arith) q)

  law : Lawful (N * N * N) (five_groups N signs)
  law =
      let v = variables_fit N r.two_at_least r.nine_at_most in
      record {
        some_variable = v.0;
        few_variables = v.1;
        few_clauses = count_fits N signs r.nine_at_most few;
        clauses_proper = listing_proper N signs r.all_on_board differ;
      }

  pub stands : rules_kept N signs ≡ true → BoardStands N signs
  stands h = record {
    models = when_kept (ModelsAreFillings N signs) (rules_kept N signs) (N * N * N) (five_groups N signs) h models;
    lawful = when_kept Lawful (rules_kept N signs) (N * N * N) (five_groups N signs) h law;
    variables_count = cond-true (rules_kept N signs) (N * N * N) 0 h;
    clauses_count = when_kept (λ n cs. length cs ≡ clause_count N (length signs)) (rules_kept N signs) (N * N * N) (five_groups N signs) h (count N signs);
  }

pub board_theorem : (N : ℕ) (signs : List Sign) → BoardTheorem N signs
board_theorem N signs = record {
  kept = λ h. stands N signs (rules_from N signs h) h;
  broken_variables = λ h. cond-false (rules_kept N signs) (N * N * N) 0 h;
  broken_listing = λ h. cond-false (rules_kept N signs) (five_groups N signs) [] h;
}

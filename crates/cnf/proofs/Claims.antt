-- The checks of a claim, one after another.
use Rattle.std.proofs.Common.{◌≡◌, ℕ, true, ◌&&◌, eqb, leb, ◌⊎◌, ◌↔◌, List, [], ◌∷◌, length, Err, sym, refl, ap, ◌∙◌, inl, inr, ⊎_elim, arith}
use Rattle.std.specs.List.{AllByRecursion}
use Rattle.std.proofs.lemmas.List.{length-map}
use Rattle.std.proofs.lemmas.Bool.Decides.{nat_tests}
use Rattle.std.proofs.lemmas.Bool.{and_parts, or_cases, eqb-true}
use Rattle.cnf.specs.declared.fault.Fault.{Fault}
use Rattle.cnf.specs.declared.fault.Fault.TheVariants.{ClaimForm, ClaimFalse}
use Rattle.cnf.specs.Formula.{Clause, Assignment, clause_true, all_true}
use Rattle.cnf.specs.Faults.{Answer, accepted, ◌then◌, check_for}
use Rattle.cnf.specs.Checks.{is_bit, bytes_fit, form_answer, assignment_of, clauses_hold, lawful_answer, claim_answer, told_listing}
use Rattle.cnf.specs.Laws.{ClaimStands}
use Rattle.cnf.proofs.Firsts.{test_of_all, tells_first}
use Rattle.cnf.proofs.Forms.{form_sized}
use Rattle.cnf.proofs.Short.{told_lawful_listing}
use Rattle.cnf.proofs.Accepting.{then_parts, then_from, check_passed, lawful_accepted}

all_true_each : (a : Assignment) (cs : List Clause) → (all_true a cs ≡ true) ↔ AllByRecursion (λ c. clause_true a c ≡ true) cs
all_true_each a cs = test_of_all (clause_true a) (all_true a) refl (λ c ds. refl) cs

bits_each : (bs : List ℕ) → AllByRecursion (λ b. is_bit b ≡ true) bs ↔ AllByRecursion (λ b. (b ≡ 0) ⊎ (b ≡ 1)) bs
bits_each [] = (λ _. tt, λ _. tt)
bits_each (b ∷ bs) =
    let ih = bits_each bs in (
      λ h. (⊎_elim (λ e. inl (eqb-true b 0 e)) (λ e. inr (eqb-true b 1 e)) (or_cases (eqb b 0) (eqb b 1) h.0), ih.0 h.1),
      λ h. (⊎_elim (λ e. grind (arith, nat_tests)) (λ e. grind (arith, nat_tests)) h.0, ih.1 h.1),
    )

form_size : (n : ℕ) (bs : List ℕ) → form_answer n bs ≡ accepted → length bs ≡ n
form_size n bs h =
    let w = then_parts (check_for (leb n 1024 && eqb (length bs) n) (ClaimForm 0)) (bytes_fit 1 bs) h in
    eqb-true (length bs) n (and_parts (leb n 1024) (eqb (length bs) n) (check_passed (leb n 1024 && eqb (length bs) n) (ClaimForm 0) w.0)).1

pub claim_accepted : (n : ℕ) (cs : List Clause) (bs : List ℕ) → (claim_answer n cs bs ≡ accepted) ↔ ClaimStands n cs bs
claim_accepted n cs bs =
    let a = assignment_of bs in
    let hold = (tells_first (clause_true a) ClaimFalse cs).all_pass in
    let fit = (tells_first is_bit ClaimForm bs).all_pass in
    let long = length-map bs (λ b. eqb b 1) in (
      λ h.
          let w = then_parts (lawful_answer n cs) (form_answer n bs then clauses_hold a 1 cs) h in
          let v = then_parts (form_answer n bs) (clauses_hold a 1 cs) w.1 in
          let law = (lawful_accepted n cs).0 w.0 in
          let size = form_size n bs v.0 in
          record {
            lawful = law;
            bits = (bits_each bs).0 (fit.0 (sym (form_sized n bs law.few_variables size) ∙ v.0));
            solves = record { total = long ∙ size; holds = (all_true_each a cs).1 (hold.0 v.1) };
          },
      λ s.
          then_from (lawful_answer n cs) (form_answer n bs then clauses_hold a 1 cs) ((lawful_accepted n cs).1 s.lawful)
          ∙ then_from (form_answer n bs) (clauses_hold a 1 cs) (form_sized n bs s.lawful.few_variables (sym long ∙ s.solves.total) ∙ fit.1 ((bits_each bs).1 s.bits))
          ∙ hold.1 ((all_true_each a cs).0 s.solves.holds),
    )

pub claim_tells : (n : ℕ) (cs : List Clause) (bs : List ℕ) (answer : Answer) → answer ≡ claim_answer n cs bs → (answer ≡ accepted) ↔ ClaimStands n cs bs
claim_tells n cs bs answer e =
    let a = claim_accepted n cs bs in
    (λ h. a.0 (sym e ∙ h), λ s. e ∙ a.1 s)

-- the source is lawful: the claim's form, and then the clauses, decide
module _ (n : ℕ) (cs : List Clause) (bs : List ℕ) (lawful : accepted ≡ lawful_answer n cs) where
  pub refused_form : (f : Fault) → Err f ≡ form_answer n bs → Err f ≡ claim_answer n cs bs
  refused_form f e =
      ap (λ x. x then clauses_hold (assignment_of bs) 1 cs) e
      ∙ sym (then_from (lawful_answer n cs) (form_answer n bs then clauses_hold (assignment_of bs) 1 cs) (sym lawful))

  pub clauses_last : accepted ≡ form_answer n bs → (answer : Answer) → answer ≡ clauses_hold (assignment_of bs) 1 (told_listing cs) → answer ≡ claim_answer n cs bs
  clauses_last form answer e =
      e
      ∙ ap (clauses_hold (assignment_of bs) 1) (told_lawful_listing n cs ((lawful_accepted n cs).0 (sym lawful)))
      ∙ sym (then_from (form_answer n bs) (clauses_hold (assignment_of bs) 1 cs) (sym form))
      ∙ sym (then_from (lawful_answer n cs) (form_answer n bs then clauses_hold (assignment_of bs) 1 cs) (sym lawful))

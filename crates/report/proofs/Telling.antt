-- What the report says of a file.
use Rattle.std.proofs.Common.{◌≡◌, ℕ, suc, ◌+◌, ◌*◌, ◌<◌, ◌≤◌, Bool, true, false, cond, leb, ◌⊎◌, List, [], ◌∷◌, length, Ok, Err, vec_items, sym, refl, ap, ◌∙◌, subst, inl, inr, arith}
use Rattle.std.proofs.lemmas.Bool.{leb-true, leb-false, le-leb}
use Rattle.cnf.specs.declared.fault.Fault.{Fault}
use Rattle.cnf.specs.declared.fault.Fault.TheVariants.{ClaimFalse, TooManyBytes}
use Rattle.cnf.specs.Formula.{Clause, clause_true}
use Rattle.cnf.specs.Told.{told_variables, told_clauses}
use Rattle.cnf.specs.Faults.{Answer, accepted, ◌then◌, check_for}
use Rattle.cnf.specs.Checks.{claim_answer, clauses_hold, assignment_of}
use Rattle.cnf.proofs.Accepting.{then_from, lawful_accepted}
use Rattle.fillings.specs.Theorems.{clause_count}
use Rattle.words.specs.Bytes.{words_in}
use Rattle.puzzle.specs.Reading.{Puzzle, Verdict, read_list}
use Rattle.puzzle.specs.Refused.{Refused}
use Rattle.puzzle.specs.Meaning.{puzzle_variables, puzzle_listing, claim_bytes, ample_tables}
use Rattle.puzzle.specs.declared.task.Task.{Task}
use Rattle.puzzle.specs.Poses.{fixed_variables, fixed_clauses, Poses}
use Rattle.puzzle.specs.Theorems.{Stands}
use Rattle.puzzle.proofs.Whole.{taken_is, is_taken}
use Rattle.puzzle.proofs.Refusals.{refused_is}
use Rattle.puzzle.proofs.Solving.{stands}
use Rattle.report.specs.declared.verdict.Report.TheVariants.{Source, Refusal}
use Rattle.report.specs.Reported.{claim_report, list_report, reported}
use Rattle.report.specs.Theorems.{ClaimKept, ReportMeans}

-- a refusal is no source
no_source : (f : Fault) (n m : ℕ) → Refusal f ≡ Source n m → ⊥
no_source f n m h = let z : ◌≡◌ {A = ℕ} 0 1 = cc in omega arith

-- only an accepted claim reports the source's numbers
by_answer : (n m v : ℕ) (cs : List Clause) (a : Answer) → claim_report v cs a ≡ Source n m → (a ≡ accepted) × (told_variables v ≡ n) × (told_clauses cs ≡ m)
by_answer n m v cs (Ok x) h = (refl, cc, cc)
by_answer n m v cs (Err f) h = absurd (no_source f n m h)

-- a refused claim reports its fault
by_fault : (v : ℕ) (cs : List Clause) (a : Answer) (f : Fault) → claim_report v cs a ≡ Refusal f → a ≡ Err f
by_fault v cs (Ok x) f h = let z : ◌≡◌ {A = ℕ} 0 1 = cc in absurd (omega arith)
by_fault v cs (Err g) f h = let e : g ≡ f = cc in ap Err e

-- the first clause that is false is the fault
first_false : (a : List Bool) (p : ℕ) (cs : List Clause) (f : Fault) → clauses_hold a p cs ≡ Err f → (k : ℕ) × (f ≡ ClaimFalse k)
first_false a p [] f h = let z : ◌≡◌ {A = ℕ} 0 1 = cc in absurd (omega arith)
first_false a p (c ∷ cs) f h = go (λ e. first_false a (suc p) cs f e) (clause_true a c) h
  where
    go : (clauses_hold a (suc p) cs ≡ Err f → (k : ℕ) × (f ≡ ClaimFalse k)) → (b : Bool) → (check_for b (ClaimFalse p) then clauses_hold a (suc p) cs) ≡ Err f → (k : ℕ) × (f ≡ ClaimFalse k)
    go later true h = later h
    go later false h = (p, cc)

module _ (P : Puzzle) (s : Stands P) where
  -- of an accepted puzzle's claim only the clauses are in question
  only_clauses : claim_answer (puzzle_variables P) (puzzle_listing P) (claim_bytes P.size P.claims) ≡ clauses_hold (assignment_of (claim_bytes P.size P.claims)) 1 (puzzle_listing P)
  only_clauses = then_from _ _ ((lawful_accepted (puzzle_variables P) (puzzle_listing P)).1 s.lawful) ∙ then_from _ _ s.form

  variables_told : told_variables (puzzle_variables P) ≡ P.size * P.size * P.size
  variables_told = omega (arith, s.variables_are, s.lawful.few_variables)

  clauses_told : told_clauses (puzzle_listing P) ≡ clause_count P.size (length P.signs) + length P.givens
  clauses_told = omega (arith, s.clauses_are, s.lawful.few_clauses)

module _ (bytes : List ℕ) where
  stands_so : (n m : ℕ) → reported bytes ≡ Source n m → ClaimKept bytes n m
  stands_so n m h = by_size (leb (length bytes) 65536) refl h
    where
      by_list : length bytes ≤ 65536 → (v : Verdict) → read_list ample_tables (words_in bytes) ≡ v → list_report v ≡ Source n m → ClaimKept bytes n m
      by_list l (Err f) e h = absurd (no_source f n m h)
      by_list l (Ok P) e h =
          let a = taken_is ample_tables (words_in bytes) P e in
          let s = stands P a.sound in
          let r = by_answer n m (puzzle_variables P) (puzzle_listing P) _ h in
          record {
            short = l;
            posed = P;
            accepted_list = a;
            solved = s.claim_checked.0 r.0;
            variables_are = sym r.1 ∙ variables_told P s;
            clauses_are = sym r.2 ∙ clauses_told P s;
          }

      by_size : (b : Bool) → leb (length bytes) 65536 ≡ b → cond b (list_report (read_list ample_tables (words_in bytes))) (Refusal TooManyBytes) ≡ Source n m → ClaimKept bytes n m
      by_size true e h = by_list (leb-true (length bytes) 65536 e) (read_list ample_tables (words_in bytes)) refl h
      by_size false e h = absurd (no_source TooManyBytes n m h)

  so_stands : (n m : ℕ) → ClaimKept bytes n m → reported bytes ≡ Source n m
  so_stands n m k =
      let P = k.posed in
      let s = stands P k.accepted_list.sound in
      ap (λ b. cond b (list_report (read_list ample_tables (words_in bytes))) (Refusal TooManyBytes)) (le-leb (length bytes) 65536 k.short)
      ∙ ap list_report (is_taken ample_tables (words_in bytes) P k.accepted_list)
      ∙ ap (claim_report (puzzle_variables P) (puzzle_listing P)) (s.claim_checked.1 k.solved)
      ∙ (λ i. Source ((variables_told P s ∙ sym k.variables_are) i) ((clauses_told P s ∙ sym k.clauses_are) i))

  causes : (f : Fault) → reported bytes ≡ Refusal f → ((65536 < length bytes) × (f ≡ TooManyBytes)) ⊎ (Refused ample_tables (words_in bytes) f ⊎ ((k : ℕ) × (f ≡ ClaimFalse k)))
  causes f h = by_size (leb (length bytes) 65536) refl h
    where
      by_list : (v : Verdict) → read_list ample_tables (words_in bytes) ≡ v → list_report v ≡ Refusal f → Refused ample_tables (words_in bytes) f ⊎ ((k : ℕ) × (f ≡ ClaimFalse k))
      by_list (Err g) e h = let same : g ≡ f = cc in inl (subst (Refused ample_tables (words_in bytes)) same (refused_is ample_tables (words_in bytes) g e))
      by_list (Ok P) e h =
          let s = stands P (taken_is ample_tables (words_in bytes) P e).sound in
          inr (first_false _ 1 (puzzle_listing P) f (sym (only_clauses P s) ∙ by_fault (puzzle_variables P) (puzzle_listing P) _ f h))

      by_size : (b : Bool) → leb (length bytes) 65536 ≡ b → cond b (list_report (read_list ample_tables (words_in bytes))) (Refusal TooManyBytes) ≡ Refusal f → ((65536 < length bytes) × (f ≡ TooManyBytes)) ⊎ (Refused ample_tables (words_in bytes) f ⊎ ((k : ℕ) × (f ≡ ClaimFalse k)))
      by_size true e h = inr (by_list (read_list ample_tables (words_in bytes)) refl h)
      by_size false e h = inl (leb-false (length bytes) 65536 e, cc)

  pub report_means : ReportMeans bytes
  report_means = record { stands = λ n m. (stands_so n m, so_stands n m); causes = causes }

-- the report on a short file is that on its words
pub short_report : (bytes ws : List ℕ) (v : Verdict) → length bytes ≤ 65536 → ws ≡ words_in bytes → read_list ample_tables ws ≡ v → list_report v ≡ reported bytes
short_report bytes ws v h w e =
    sym (
    ap (λ b. cond b (list_report (read_list ample_tables (words_in bytes))) (Refusal TooManyBytes)) (le-leb (length bytes) 65536 h)
    ∙ ap (λ (x : List ℕ). list_report (read_list ample_tables x)) (sym w)
    ∙ ap list_report e
    )

-- the report on a task that poses a puzzle is that on the puzzle
pub posed_report : (P : Puzzle) (q : Task) → Poses P q → claim_report (fixed_variables q.source) (fixed_clauses q.source) (claim_answer (fixed_variables q.source) (fixed_clauses q.source) (vec_items q.claim)) ≡ list_report (Ok P)
posed_report P q p = λ i. claim_report (p.variables_posed i) (p.clauses_posed i) (claim_answer (p.variables_posed i) (p.clauses_posed i) (p.claim_posed i))

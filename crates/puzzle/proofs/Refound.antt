-- The records of a taken list, read back from the tables that it has filled.
use Rattle.std.proofs.Common.{◌≡◌, ℕ, ◌-◌, List, length, take, replicate, Ok, Err, sym, refl, ap, ◌∙◌, arith}
use Rattle.std.proofs.lemmas.List.{take-append-le, take_all}
use Rattle.futoshiki.specs.declared.sign.Sign.{Sign}
use Rattle.register.specs.Held.{laid_out}
use Rattle.words.specs.declared.entry.Entry.{Entry}
use Rattle.puzzle.specs.declared.taken.Records.{Records}
use Rattle.puzzle.specs.declared.taken.Taken.{Taken}
use Rattle.puzzle.specs.Reading.{Puzzle, Verdict}
use Rattle.puzzle.specs.Filled.{counted, givens_left, claims_left, signs_left, entries_filled, signs_filled}
use Rattle.puzzle.specs.Poses.{puzzle_in}

-- the first slots, as many as there are records, hold the records
records_first : {X : Type 0} (b : X) (n : ℕ) (xs table : List X) (k : ℕ) → table ≡ laid_out b n xs → k ≡ length xs → take k table ≡ xs
records_first b n xs table k e h =
    ap (λ i. take i table) h ∙ ap (take (length xs)) e ∙ take-append-le (length xs) xs (replicate (n - length xs) b) (omega arith) ∙ take_all (length xs) xs (omega arith)

-- records of tables that a taken list has filled are those of its puzzle
pub refound : (v : Verdict) (taken : Taken) (r : Records) (n m : ℕ) (gs cs : List Entry) (ss : List Sign)
    → counted v ≡ Ok taken → gs ≡ entries_filled n (givens_left v) → cs ≡ entries_filled n (claims_left v) → ss ≡ signs_filled m (signs_left v)
    → r.side ≡ taken.side → r.givens.now ≡ take taken.given_count gs → r.claims.now ≡ take taken.claim_count cs → r.signs.now ≡ take taken.sign_count ss
    → (P : Puzzle) × (v ≡ Ok P) × (puzzle_in r ≡ P)
refound (Err f) taken r n m gs cs ss e a b d w x y z = cc
refound (Ok P) taken r n m gs cs ss e a b d w x y z =
    let t : record { side = P.size; given_count = length P.givens; claim_count = length P.claims; sign_count = length P.signs } ≡ taken = cc in (
      P,
      refl,
      λ i. record {
        size = (w ∙ ap (λ (u : Taken). u.side) (sym t)) i;
        givens = (x ∙ records_first _ n P.givens gs taken.given_count a (ap (λ (u : Taken). u.given_count) (sym t))) i;
        claims = (y ∙ records_first _ n P.claims cs taken.claim_count b (ap (λ (u : Taken). u.claim_count) (sym t))) i;
        signs = (z ∙ records_first _ m P.signs ss taken.sign_count d (ap (λ (u : Taken). u.sign_count) (sym t))) i;
      },
    )

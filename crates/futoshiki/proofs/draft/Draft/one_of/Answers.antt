use Rattle.std.proofs.Common.{◌≡◌, ℕ, ◌+◌, ◌<◌, [], ◌∷◌, length, get_or, take, pos, ap, arith, rules}
use Rattle.std.specs.List.{range_with_len}
use Rattle.std.proofs.lemmas.List.{length-take}
use Rattle.std.proofs.lemmas.Result.{IfOk-weaker}
use Rattle.cnf.specs.Tabled.{numbers_of}
use Rattle.cnf.proofs.Cuts.{no_literal}
use Rattle.futoshiki.specs.Listing.{one_of}
use Rattle.futoshiki.specs.Drafts.{GoesOn}
use Rattle.futoshiki.proofs.Stepping.{asserted_number, counted_literals}
use Rattle.futoshiki.proofs.Growing.{goes_as}
use Rattle.futoshiki.proofs.draft.Draft.one_of.Goals as goal

pub returns : goal.returns
returns c =
    let all = c.from_fn-clause.result in
    let first = c.args.first in
    let n = c.args.count in
    let each : (i : ℕ) → i < n → (get_or all i no_literal).0 ≡ pos (first + i) = λ i p.
    let called = c.from_fn-clause.ensures.items.at i no_literal (omega arith) in
    let e = asserted_number (first + i) (omega arith) in
    search rules in
    let same = counted_literals first n all (omega (arith, c.from_fn-clause.ensures.items.long)) each in
    IfOk-weaker c.list.result (λ _. GoesOn c.args.self.now c.list.new.self (numbers_of (take n all) ∷ []) (length (take n all)))
    (λ _. GoesOn c.args.self.now c.list.new.self (one_of (range_with_len first n) ∷ []) 9)
    (λ _ goes. goes_as c.args.self.now c.list.new.self _ _ (length (take n all)) 9 goes (ap (λ k. k ∷ []) same) (omega (arith, length-take n all)))
    c.list.ensures

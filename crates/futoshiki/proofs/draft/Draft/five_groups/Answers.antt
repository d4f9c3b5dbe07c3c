use Rattle.std.proofs.Common.{◌*◌, ◌++◌, append_assoc, refl, ap, ◌∙◌, arith}
use Rattle.std.specs.List.{flat_map}
use Rattle.std.proofs.lemmas.Nat.{mul-le}
use Rattle.std.proofs.lemmas.Result.{IfOk-weaker}
use Rattle.futoshiki.specs.Listing.{some_values, single_values, row_clauses, column_clauses, sign_clauses, five_groups}
use Rattle.futoshiki.specs.Drafts.{GoesOn, no_two_along}
use Rattle.futoshiki.proofs.Stepping.{cells_along, rows_along, columns_along}
use Rattle.futoshiki.proofs.Growing.{goes_then}
use Rattle.futoshiki.proofs.draft.Draft.five_groups.Goals as goal

pub signs_hold-requires : goal.signs_hold-requires
signs_hold-requires c =
    let one = c.in_ok-some_values.ensures in
    let two = c.in_ok-no_two_along.ensures in
    let three = c.in_ok-no_two_along-2.ensures in
    let four = c.in_ok-no_two_along-3.ensures in
    let twice = mul-le (2 * c.args.side.n) c.args.side.n 18 9 (omega arith) (omega arith) in
    record {
      room = omega (arith, one.few_literals, two.few_literals, three.few_literals, four.few_literals);
      few = omega (arith, c.requires.kept.few_signs);
      on = c.requires.kept.all_on_board;
    }

pub returns : goal.returns
returns c =
    let N = c.args.side.n in
    let start = c.args.self.now in
    let signed = flat_map (sign_clauses N) c.args.signs.now in
    let rest = column_clauses N ++ signed in
    let rows = row_clauses N ++ rest in
    let two = goes_then start c.some_values.new.self c.no_two_along.new.self (some_values N) (no_two_along N (N * N) N 1) (some_values N ++ single_values N) 729 13122 13851
    c.in_ok-some_values.ensures c.in_ok-no_two_along.ensures (ap (λ cs. some_values N ++ cs) (cells_along N)) (omega arith) in
    let three = goes_then c.no_two_along.new.self c.no_two_along-2.new.self c.no_two_along-3.new.self (no_two_along N (N * N) 1 N) (no_two_along N N 1 (N * N)) (row_clauses N ++ column_clauses N) 13122 13122 26244
    c.in_ok-no_two_along-2.ensures c.in_ok-no_two_along-3.ensures (ap (λ cs. cs ++ no_two_along N N 1 (N * N)) (rows_along N) ∙ ap (λ cs. row_clauses N ++ cs) (columns_along N)) (omega arith) in
    let four = goes_then start c.no_two_along.new.self c.no_two_along-3.new.self (some_values N ++ single_values N) (row_clauses N ++ column_clauses N) ((some_values N ++ single_values N) ++ (row_clauses N ++ column_clauses N)) 13851 26244 40095 two three refl (omega arith) in
    IfOk-weaker c.signs_hold.result (λ _. GoesOn c.no_two_along-3.new.self c.signs_hold.new.self signed 26244) (λ _. GoesOn start c.signs_hold.new.self (five_groups N c.args.signs.now) 99000)
    (λ _ five. goes_then start c.no_two_along-3.new.self c.signs_hold.new.self ((some_values N ++ single_values N) ++ (row_clauses N ++ column_clauses N)) signed (five_groups N c.args.signs.now) 40095 26244 99000 four five
    (append_assoc (some_values N ++ single_values N) (row_clauses N ++ column_clauses N) signed
    ∙ ap (λ cs. (some_values N ++ single_values N) ++ cs) (append_assoc (row_clauses N) (column_clauses N) signed)
    ∙ append_assoc (some_values N) (single_values N) rows)
    (omega arith))
    c.signs_hold.ensures

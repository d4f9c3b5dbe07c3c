use Rattle.std.proofs.Common.{◌∷◌, [], ◌++◌, vec_items, sym, ap, ◌∙◌, arith}
use Rattle.std.proofs.lemmas.List.{map-append}
use Rattle.cnf.specs.declared.literal.Literal.{Literal}
use Rattle.cnf.specs.Tabled.{numbers_of}
use Rattle.cnf.proofs.Cuts.{length_numbers}
use Rattle.futoshiki.proofs.Growing.{ends_after, tabled_after}
use Rattle.futoshiki.proofs.draft.Draft.list.Goals as goal

pub invariant_of-self-2 : goal.invariant_of-self-2
invariant_of-self-2 c =
    let more = c.in_ok-extend_from_slice.ensures in
    let before = c.args.self.now in
    record { ended = ends_after _ _ (vec_items before.starts) _ before.ended (omega (arith, more.len)) (c.push_reserved.ensures.items ∙ ap (λ ss. ss ++ c.len.result ∷ []) c.in_ok-reserve.ensures.items ∙ ap (λ n. vec_items before.starts ++ n ∷ []) c.len.ensures) }

pub returns : goal.returns
returns c =
    let more = c.in_ok-extend_from_slice.ensures in
    let before = c.args.self.now in
    let ls = vec_items before.literals in
    record {
      lists = tabled_after (numbers_of ls) (numbers_of c.args.clause.now) (vec_items before.starts) before.literals.len c.len.result
          (before.literals.ok.0 ∙ sym (length_numbers ls))
          (omega (arith, more.len, c.len.ensures, length_numbers c.args.clause.now))
          before.ended
          (ap numbers_of more.items ∙ map-append (λ (l : Literal). l.0) ls c.args.clause.now)
          (c.push_reserved.ensures.items ∙ ap (λ ss. ss ++ c.len.result ∷ []) c.in_ok-reserve.ensures.items);
      few_literals = omega (arith, more.len);
    }

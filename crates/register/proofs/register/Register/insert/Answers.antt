use Rattle.std.proofs.Common.{◌≡◌, false, sym, subst, arith, rules}
use Rattle.std.proofs.lemmas.List.{take_more_set}
use Rattle.register.specs.Keys.{has_key, NoKeyTwice}
use Rattle.register.specs.Held.{records_in}
use Rattle.register.proofs.Once.{once_more}
use Rattle.register.proofs.register.Register.insert.Goals as goal

pub returns-clause-once : goal.returns-clause-once
returns-clause-once g c =
    let same = g.R.Key.PartialEq.eq in
    let key_of = g.R.Record.keyed in
    let s = c.args.self.now in
    let r = c.args.r in
    let new : has_key same key_of (records_in s) (key_of r) ≡ false = search (rules, c.key.ensures, c.contains.ensures, c.if-contains.false) in
    λ o. subst (λ xs. NoKeyTwice same key_of xs) (sym (take_more_set s.slots.now s.used r (omega (arith, s.fits, c.if-self.false)))) (once_more same key_of (records_in s) r o new)

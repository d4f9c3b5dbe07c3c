use Rattle.std.proofs.Common.{◌≡◌, Ok, subst, arith}
use Rattle.store.specs.Rows.{FoundPlace}
use Rattle.store.specs.Stands.{found_lookup}
use Rattle.store.proofs.flat.FlatStore.entry.Goals as goal

pub returns : goal.returns
returns c =
    let es = c.args.self.now.entries.items in
    let ok : c.find.result ≡ Ok c.in_ok-at.at = grind arith in
    found_lookup c.args.id.0 es c.in_ok-at.at c.index.result.now (subst (FoundPlace c.args.id.0 es) ok c.find.ensures) c.index.ensures

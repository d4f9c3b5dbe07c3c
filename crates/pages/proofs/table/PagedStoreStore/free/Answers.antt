use Rattle.std.proofs.Common.{vec_items, sym}
use Rattle.pages.specs.Owners.{free_pages}
use Rattle.pages.proofs.table.PagedStoreStore.free.Goals as goal

pub returns : goal.returns
returns c =
    let s = c.args.self.now in
    sym (free_pages s.pages s.first s.spare (vec_items s.directory) s.all s.none s.full)

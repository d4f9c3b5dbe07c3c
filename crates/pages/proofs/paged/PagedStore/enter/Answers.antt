use Rattle.std.proofs.Common.{◌≤◌, length, is_ok, vec_items, vec_len, vec_capacity, refl, ◌∙◌, arith, rules}
use Rattle.std.proofs.lemmas.Bool.{cond-true}
use Rattle.pages.specs.Owners.{owners_le, free_le, free_inside}
use Rattle.pages.proofs.Keeps.{Kept, room_left, kept_entered, table_entered}
use Rattle.pages.proofs.paged.PagedStore.enter.Goals as goal

pub fill-self-requires : goal.fill-self-requires
fill-self-requires c =
    let s = c.args.self.now in
    let es = vec_items s.directory in
    let need = c.pages_needed-need.result in
    let le : need ≤ s.spare = omega (arith, c.requires.room) in
    let a = s.all in
    record {
      inside = free_inside s.pages s.first s.spare need es 1024 le s.none;
      once = free_le s.pages s.first s.spare need es le (owners_le s.pages s.first s.spare es 1024 s.one s.none);
      full = s.full;
      few = omega arith;
    }

pub invariant_of-self : goal.invariant_of-self
invariant_of-self c =
    let s = c.args.self.now in
    let es = vec_items s.directory in
    let ls = c.args.literals.now in
    let need = c.pages_needed-need.result in
    let f = c.fill-self.ensures in
    let le : need ≤ s.spare = omega (arith, c.requires.room) in
    let below = room_left es s.spare need (length ls) (vec_len s.directory) (vec_capacity s.directory) s.all c.pages_needed-need.ensures le (search rules) s.room in
    let items = c.insert.ensures.items ∙ cond-true (is_ok c.insert.result) _ es (c.insert.ensures.succeeds below) in
    let kept : Kept s.pages s.first s.spare es = record { all = s.all; one = s.one; none = s.none; full = s.full; order = s.order } in
    let now = kept_entered s.pages c.fill-self.new.pages s.spare es c.insert.new.self.items c.args.at _ items ls c.fill-self.result kept c.requires.gap refl le f.after f.links f.full in
    record {
      room = omega (arith, s.room, c.insert.ensures.capacity);
      all = now.all;
      one = now.one;
      none = now.none;
      full = now.full;
      order = now.order;
    }

pub returns : goal.returns
returns c =
    let s = c.args.self.now in
    let es = vec_items s.directory in
    let ls = c.args.literals.now in
    let need = c.pages_needed-need.result in
    let f = c.fill-self.ensures in
    let le : need ≤ s.spare = omega (arith, c.requires.room) in
    let below = room_left es s.spare need (length ls) (vec_len s.directory) (vec_capacity s.directory) s.all c.pages_needed-need.ensures le (search rules) s.room in
    let items = c.insert.ensures.items ∙ cond-true (is_ok c.insert.result) _ es (c.insert.ensures.succeeds below) in
    let kept : Kept s.pages s.first s.spare es = record { all = s.all; one = s.one; none = s.none; full = s.full; order = s.order } in
    let still = c.insert.ensures.in_place below in
    record {
      after = table_entered s.pages c.fill-self.new.pages s.spare es c.insert.new.self.items c.args.at _ items ls c.fill-self.result kept c.requires.gap refl le f.after f.links f.full f.others f.text;
      still = (still.0, still.1.0);
    }

use Rattle.std.proofs.Common.{sym, subst}
use Rattle.puzzle.specs.Reading.{Puzzle, read_list}
use Rattle.puzzle.specs.Accepted.{Sound}
use Rattle.puzzle.specs.Meaning.{ample_tables}
use Rattle.puzzle.specs.Poses.{Poses}
use Rattle.puzzle.proofs.Refound.{refound}
use Rattle.puzzle.proofs.Whole.{taken_is}
use Rattle.puzzle.proofs.posing.pose.Goals as goal

pub pose_sound-requires : goal.pose_sound-requires
pose_sound-requires c =
    let ws = c.args.words.now in
    let f = c.in-Ok.ensures in
    let k = c.records-puzzle.ensures in
    let r = refound (read_list ample_tables ws) c.in-Ok.taken c.records-puzzle.result 81 162 c.read.new.givens c.read.new.claims c.read.new.signs (sym f.answer) f.givens f.claims f.signs k.side k.givens k.claims k.signs in
    subst Sound (sym r.2) (taken_is ample_tables ws r.0 r.1).sound

pub returns-in_ok-pose_sound-in-Ok-clause-answer : goal.returns-in_ok-pose_sound-in-Ok-clause-answer
returns-in_ok-pose_sound-in-Ok-clause-answer c =
    let f = c.in-Ok.ensures in
    let k = c.records-puzzle.ensures in
    let r = refound (read_list ample_tables c.args.words.now) c.in-Ok.taken c.records-puzzle.result 81 162 c.read.new.givens c.read.new.claims c.read.new.signs (sym f.answer) f.givens f.claims f.signs k.side k.givens k.claims k.signs in
    (r.0, r.1, subst (λ (P : Puzzle). Poses P c.in_ok-pose_sound-in-Ok.field-0) r.2 c.in_ok-pose_sound-in-Ok.ensures)

use Rattle.puzzle.specs.Steps.{state_held, tables_held, SameTables}
use Rattle.puzzle.proofs.Underway.{UnderWay}
use Rattle.puzzle.proofs.registers.Registers.read_rest.Given as goal

abbrev pub invariant-loop-i : goal.invariant-loop-i
invariant-loop-i l = record {
  under_way : UnderWay (tables_held l.initial.self) l.words l.side.n (state_held l.side.n l.ended l.self) l.i;
  tables : SameTables l.initial.self l.self;
}

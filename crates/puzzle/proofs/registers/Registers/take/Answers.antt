use Rattle.puzzle.specs.Reading.{first_failed}
use Rattle.puzzle.proofs.registers.Registers.take.Goals as goal

pub returns-in-Board-clause-answer : goal.returns-in-Board-clause-answer
unfolding first_failed
returns-in-Board-clause-answer c = rw c.in-Board.is

pub returns-in-Given-clause-answer : goal.returns-in-Given-clause-answer
unfolding first_failed
returns-in-Given-clause-answer c = rw c.in-Given.is c.enter.ensures.answer

pub returns-in-Claim-clause-answer : goal.returns-in-Claim-clause-answer
unfolding first_failed
returns-in-Claim-clause-answer c = rw c.in-Claim.is c.enter-in-Claim.ensures.answer

pub returns-in-Less-clause-answer : goal.returns-in-Less-clause-answer
unfolding first_failed
returns-in-Less-clause-answer c = rw c.in-Less.is c.enter-in-Less.ensures.answer

pub returns-in-End-clause-answer : goal.returns-in-End-clause-answer
unfolding first_failed
returns-in-End-clause-answer c = rw c.in-End.is c.end_list.ensures

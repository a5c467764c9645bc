-- What is held, the layout and the lines lie in their arrays.
use Rattle.lengths_program.specs.Calls.{Given}
use Rattle.lengths.proofs.main.Given as goal

abbrev pub invariant-loop : goal.invariant-loop
invariant-loop l = Given l.state l.input l.layout l.out

-- The invariant: what was found is the last of the name among the arguments that were passed.
use Rattle.std.proofs.Common.{◌+◌}
use Rattle.blocks.specs.Bytes.{le2}
use Rattle.interpreter_context.proofs.Lists.{Passed}
use Rattle.interpreter_context.proofs.last_argument.Given as goal

abbrev pub invariant-loop : goal.invariant-loop
invariant-loop l = Passed l.s l.name (le2 l.s l.list) (l.list + 2) l.counter l.at l.last

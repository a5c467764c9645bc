-- The invariant: the blocks that are left end where the list ends.
use Rattle.std.proofs.Common.{◌+◌}
use Rattle.blocks.specs.Bytes.{le2}
use Rattle.interpreter_context.proofs.Laws.{Passed}
use Rattle.interpreter_context.proofs.behind_list.Given as goal

abbrev pub invariant-loop : goal.invariant-loop
invariant-loop l = Passed l.s (le2 l.s l.at) (l.at + 2) l.counter l.q

-- None of the cases that were passed has the tag's value.
use Rattle.std.proofs.Common.{◌+◌, ◌-◌}
use Rattle.blocks.specs.Bytes.{le2}
use Rattle.value.specs.Number.{number_of}
use Rattle.interpreter_leaves.proofs.Cases.{Tried}
use Rattle.interpreter_leaves.proofs.selected.Given as goal

abbrev pub invariant-loop : goal.invariant-loop
invariant-loop l = Tried l.s (number_of l.fn.tag) (le2 l.s l.list) (l.list + 2) (le2 l.s l.list - l.counter) l.p

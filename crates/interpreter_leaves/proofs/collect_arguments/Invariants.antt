-- The arguments that were passed were found in the caller's context.
use Rattle.std.proofs.Common.{◌+◌, ◌-◌}
use Rattle.blocks.specs.Bytes.{le2}
use Rattle.interpreter_leaves.proofs.Binding.{Going}
use Rattle.interpreter_leaves.proofs.collect_arguments.Given as goal

abbrev pub invariant-loop : goal.invariant-loop
invariant-loop l =
    let i = l.inputs in
    let m = le2 i.layout.now l.list in
    Going i.layout.now i.values.now i.root.block i.root.len l.initial.words l.words l.f.depth m (l.list + 2) (m - l.counter) l.p

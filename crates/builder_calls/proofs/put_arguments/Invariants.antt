-- The arguments of the paths before this one are collected (`Paths`).
use Prim.Native.Nat.{◌-◌}
use Rattle.blocks.specs.Bytes.{le2}
use Rattle.accepted.specs.Accepted.{name_at}
use Rattle.builder_calls.proofs.Laws.{Paths}
use Rattle.builder_calls.proofs.put_arguments.Given as goal

abbrev pub invariant-loop : goal.invariant-loop
invariant-loop l =
    Paths l.s (name_at l.s l.owner.at) l.initial.out l.fn.c l.initial.words l.paths
    (le2 l.s l.paths - l.counter) l.path l.words l.out l.collected

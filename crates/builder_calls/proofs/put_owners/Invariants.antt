-- The arguments of the owners before this one are collected (`Owners`).
use Prim.Native.Nat.{◌+◌, ◌-◌}
use Rattle.blocks.specs.Bytes.{le2}
use Rattle.builder_calls.proofs.Laws.{Owners}
use Rattle.builder_calls.proofs.put_owners.Given as goal

abbrev pub invariant-loop : goal.invariant-loop
invariant-loop l =
    Owners l.s l.initial.out l.fn.c l.initial.words l.references (le2 l.s (l.references + 6) - l.counter) l.at l.words l.out l.collected

-- The types that were passed are built, and stand in the output.
use Rattle.std.proofs.Common.{◌-◌}
use Rattle.builder_set.proofs.Laws.{Building}
use Rattle.builder_set.proofs.build_types.Given as goal

abbrev pub invariant-loop-place : goal.invariant-loop-place
invariant-loop-place l =
    Building l.s l.fn.out l.at l.words l.out (l.place-end - l.place) l.from l.place l.p

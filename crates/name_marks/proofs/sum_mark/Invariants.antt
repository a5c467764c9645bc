-- The eights before i have this sum.
use Rattle.std.proofs.Common.{◌+◌, ◌-◌, ◌<◌}
use Rattle.name_marks.proofs.Marks.{Summed}
use Rattle.name_marks.proofs.sum_mark.Given as goal

abbrev pub invariant-loop-i : goal.invariant-loop-i
invariant-loop-i l = record { summed : Summed l.name l.i l.sum; within : l.i < l.n + 8 }

abbrev pub decreases-loop-i : goal.decreases-loop-i
decreases-loop-i l = l.n + 8 - l.i

-- The steps before i have made h and g.
use Rattle.std.proofs.Common.{◌+◌, ◌-◌, ◌<◌}
use Rattle.name_marks.proofs.Marks.{Marked}
use Rattle.name_marks.proofs.mark.Given as goal

abbrev pub invariant-loop-i : goal.invariant-loop-i
invariant-loop-i l = record { marked : Marked l.name l.apart l.i l.h l.g; within : l.i < l.n + 32 }

abbrev pub decreases-loop-i : goal.decreases-loop-i
decreases-loop-i l = l.n + 32 - l.i

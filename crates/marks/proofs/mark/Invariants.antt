-- The mark of the name is that of its other bytes behind m.
use Rattle.std.proofs.Common.{◌≡◌, drop}
use Rattle.marks.specs.Mark.{mark_of}
use Rattle.marks.proofs.mark.Given as goal

abbrev pub invariant-loop-b : goal.invariant-loop-b
invariant-loop-b l = mark_of l.h l.name ≡ mark_of l.m (drop l.b-index l.name)

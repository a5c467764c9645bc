-- What is passed over from j on back to i does not have the mark.
use Rattle.marks.specs.Table.{Chain, Prior}
use Rattle.marks.proofs.reach.Given as goal

abbrev pub invariant-loop-i : goal.invariant-loop-i
invariant-loop-i l = (c : Chain l.table l.mark l.j) → Prior c.table.marks l.mark l.j l.i

abbrev pub decreases-loop-i : goal.decreases-loop-i
decreases-loop-i l = l.i

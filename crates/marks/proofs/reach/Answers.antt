-- Before j nothing is passed over; a slot of another mark is passed over.
use Rattle.marks.proofs.Walks.{prior_more}
use Rattle.marks.proofs.reach.Goals as goal

pub loop-i-preserved : goal.loop-i-preserved
loop-i-preserved c = λ a. prior_more c.ranges.mark.fits a (c.loop-i.invariant a) c.loop-i-test.true c.if-w-mark.false

-- No eight is added at the start; one more is; behind the last that others follow, the last step is left.
use Rattle.std.proofs.Common.{refl, arith}
use Rattle.name_marks.proofs.Marks.{summed_none, summed_more, sum_long}
use Rattle.name_marks.proofs.sum_mark.Goals as goal

pub loop-i-init : goal.loop-i-init
loop-i-init c = record { summed = summed_none _; within = omega arith }

pub loop-i-preserved : goal.loop-i-preserved
loop-i-preserved c = record {
  summed = summed_more _ c.loop-i.invariant.summed c.loop-i-test.true refl c.read8-sum.ensures;
  within = omega arith;
}

pub returns : goal.returns
returns c = sum_long _ c.loop-i.invariant.summed c.if-n-lt8.false c.loop-i-test.false c.step-3.ensures c.step-2.ensures c.read8.ensures

-- No step is made at the start; a step more goes from the other mark; behind the last eight that others follow, the last step is left.
use Rattle.std.proofs.Common.{arith}
use Rattle.name_marks.proofs.Marks.{marked_none, marked_more, mark_long}
use Rattle.name_marks.proofs.mark.Goals as goal

pub loop-i-init : goal.loop-i-init
loop-i-init c = record { marked = marked_none _ _; within = omega arith }

pub loop-i-preserved : goal.loop-i-preserved
loop-i-preserved c = record {
  marked = marked_more _ _ c.loop-i.invariant.marked c.requires.0 c.loop-i-test.true c.step-next.ensures c.read8.ensures;
  within = omega arith;
}

pub returns : goal.returns
returns c =
    mark_long _ _ c.loop-i.invariant.marked c.if-n-lt8.false c.loop-i-test.false c.step-3.ensures c.step-2.ensures c.read8-2.ensures

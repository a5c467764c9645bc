use Rattle.std.proofs.Common.{◌+◌, arith, ap}
use Rattle.reader_leaf.proofs.Distinct.{known_none, known_more}
use Rattle.reader_leaf.proofs.fresh_linked.Goals as goal

pub loop-count-init : goal.loop-count-init
loop-count-init c = (known_none _ _, c.requires.5, omega arith)

pub loop-count-preserved : goal.loop-count-preserved
loop-count-preserved c = (
  known_more _ _ c.loop-count.invariant.0 c.in-Some.ensures (c.is_new.ensures.count_value c.if-not-is_new.false),
  c.is_new.ensures.linked (ap (λ i. i + 6) c.loop-count.invariant.0.here),
  c.in-Some.ensures.1,
)

use Rattle.std.proofs.Common.{arith}
use Rattle.reader_leaf.proofs.Distinct.{known_none, known_more, told}
use Rattle.reader_leaf.proofs.fresh_compared.Goals as goal

pub loop-count-init : goal.loop-count-init
loop-count-init c = (known_none _ _, omega arith)

pub loop-count-preserved : goal.loop-count-preserved
loop-count-preserved c = (
  known_more _ _ c.loop-count.invariant.0 c.in-Some.ensures (told _ _ c.differs.ensures c.if-not-differs.false),
  c.in-Some.ensures.1,
)

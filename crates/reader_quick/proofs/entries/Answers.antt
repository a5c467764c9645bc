use Rattle.std.proofs.Common.{arith}
use Rattle.blocks.specs.Read.{Earlier}
use Rattle.reader_quick.proofs.Laws.{rest_all, rest_next, rest_none}
use Rattle.reader_quick.proofs.entries.Goals as goal

pub loop-init : goal.loop-init
loop-init c = (c.in_ok-n.ensures.inside, λ room h. rest_all room _ _ _ _ _ (omega arith) c.in_ok-n.ensures)

pub loop-preserved : goal.loop-preserved
loop-preserved c = (
  c.in_ok-i.ensures.inside,
  λ room h. rest_next _ _ _ _ _ _ (c.loop.invariant.1 room h) _ (omega arith) (c.in_ok-i.ensures.read room Earlier.any h),
)

pub returns-clause-read : goal.returns-clause-read
returns-clause-read c = λ room start h. rest_none _ _ _ _ _ _ (c.loop.invariant.1 room h) (omega arith) start

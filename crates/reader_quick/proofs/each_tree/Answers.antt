use Rattle.std.proofs.Common.{arith}
use Rattle.reader_quick.proofs.Listed.{going_first, going_next, going_last}
use Rattle.reader_quick.proofs.each_tree.Goals as goal

pub loop-init : goal.loop-init
loop-init c = (c.requires.0.inside, going_first _ _ _ c.requires.0)

pub loop-preserved : goal.loop-preserved
loop-preserved c =
    (c.in_ok-i.ensures.inside, λ f. going_next _ _ _ c.requires.1 (c.loop.invariant.1 f) (omega arith) c.in_ok-i.ensures.read)

pub returns-clause-read : goal.returns-clause-read
returns-clause-read c = λ f. going_last _ _ _ c.requires.1 (c.loop.invariant.1 f) (omega arith)

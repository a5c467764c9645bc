-- One more word is taken in; where the bits of all are 0, all are.
use Rattle.std.proofs.Common.{arith}
use Rattle.wire.proofs.Laws.{bits_more, zeros_end}
use Rattle.wire.proofs.or_of.Goals as goal

pub loop-word-preserved : goal.loop-word-preserved
loop-word-preserved c = bits_more _ _ _ c.loop-word.invariant

pub returns : goal.returns
returns c = λ e. zeros_end _ (λ k h. c.loop-word.invariant e k (omega arith))

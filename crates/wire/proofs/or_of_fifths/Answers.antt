-- Five words more are taken in; where the bits of all are 0, all are.
use Rattle.std.proofs.Common.{arith}
use Rattle.wire.proofs.Laws.{bits_more, five_words, fifths_end}
use Rattle.wire.proofs.or_of_fifths.Goals as goal

pub loop-i-preserved : goal.loop-i-preserved
loop-i-preserved c = rw (five_words _ _) (bits_more _ _ _ c.loop-i.invariant)

pub returns : goal.returns
returns c = fifths_end _ _ _ c.loop-i.i _ (omega arith) c.loop-i.invariant c.or_of.ensures

-- The bits are those of the first words of each fifth.
use Rattle.wire.proofs.Laws.{Bits, ors}
use Rattle.wire.proofs.or_of_fifths.Given as goal

abbrev pub invariant-loop-i : goal.invariant-loop-i
invariant-loop-i l = Bits (ors l.words l.fifth 4) l.bits l.i

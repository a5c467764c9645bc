-- The bits are those of the words so far.
use Rattle.std.proofs.Common.{get_or}
use Rattle.wire.proofs.Laws.{Bits}
use Rattle.wire.proofs.or_of.Given as goal

abbrev pub invariant-loop-word : goal.invariant-loop-word
invariant-loop-word l = Bits (λ k. get_or l.words k 0) l.bits l.word-index

-- None of the blocks that were passed has the name.
use Rattle.blocks.specs.Blocks.{Passed}
use Rattle.wire.proofs.block_named.Given as goal

abbrev pub invariant-loop-place : goal.invariant-loop-place
invariant-loop-place l = Passed l.s l.name l.from l.place l.at

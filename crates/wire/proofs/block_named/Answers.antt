-- Before the first block none was passed.
use Rattle.blocks.specs.Blocks.{Passed}
use Rattle.wire.proofs.block_named.Goals as goal

pub loop-place-init : goal.loop-place-init
loop-place-init c = Passed.none

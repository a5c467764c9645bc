-- `unwrapped` meets its contract. The invariant: without the nodes that hand the count on, the node at p is what the first is
-- without them. The measure is the length of the node's block.
use Rattle.blocks.specs.Bytes.{le4}
use Rattle.accepted.specs.Accepted.{Accepted}
use Rattle.interpreter_leaves.proofs.Align.{Within}
use Rattle.interpreter_leaves.proofs.unwrapped.Given as goal

abbrev pub invariant-loop-at : goal.invariant-loop-at
invariant-loop-at l = (a : Accepted l.s 128 144 l.at) → Within a l.p

abbrev pub decreases-loop-at : goal.decreases-loop-at
decreases-loop-at l = le4 l.s l.p

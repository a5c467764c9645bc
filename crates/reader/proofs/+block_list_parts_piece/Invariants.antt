-- The measure is four times the room, and a member's rank. A list reads as what is left of it, behind what the code keeps of the blocks
-- before; all parts of a block read as those of the digits that are left of its row.
use Rattle.std.proofs.Common.{◌≡◌, ◌+◌, ◌-◌, ◌*◌, ◌≤◌}
use Rattle.blocks.specs.Read.{read_block, read_list, read_entries}
use Rattle.reader_leaf.specs.Answer.{forget}
use Rattle.reader_leaf.specs.Seen.{Here, earlier_of}
use Rattle.reader.specs.Before.{Before}
use Rattle.reader.proofs.Blocks.{Left}
use Rattle.reader.proofs.+block_list_parts_piece.Given as goal

abbrev pub decreases-block : goal.decreases-block
decreases-block l = 4 * l.room

abbrev pub decreases-list : goal.decreases-list
decreases-list l = 4 * l.room + 1

abbrev pub decreases-piece : goal.decreases-piece
decreases-piece l = 4 * l.room + 2

abbrev pub decreases-parts : goal.decreases-parts
decreases-parts l = 4 * l.room + 3

abbrev pub invariant-list-loop : goal.invariant-list-loop
invariant-list-loop l =
    (l.i ≤ l.end) × Before l.s l.before l.lo l.hi l.i ×
    (forget (read_list (λ f a. read_block l.room l.s f l.lo l.hi a l.end) (earlier_of l.s l.fn.seen) l.limit l.s l.start l.end l.at) ≡ forget
    (read_entries (λ f a. read_block l.room l.s f l.lo l.hi a l.end) (earlier_of l.s l.before) (l.n - l.counter) l.i))

abbrev pub invariant-parts-loop-row : goal.invariant-parts-loop-row
invariant-parts-loop-row l =
    (l.here ≤ l.end) × Left (Here l.s l.seen) (read_block l.room l.s) l.s (earlier_of l.s l.seen) l.start l.end l.kind l.at l.row l.here

abbrev pub decreases-parts-loop-row : goal.decreases-parts-loop-row
decreases-parts-loop-row l = l.row

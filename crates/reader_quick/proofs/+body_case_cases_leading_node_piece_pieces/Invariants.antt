-- The measure is eight times the room, and a member's rank. A list reads as what is left of it; if the parts of the digits that are left of a row
-- read to the end, then so does the whole, and so does a node.
use Rattle.std.proofs.Common.{◌≡◌, ◌+◌, ◌-◌, ◌*◌, ◌<◌, ◌≤◌}
use Rattle.errors.specs.Refusal.{done}
use Rattle.blocks.specs.Read.{Earlier, read_block}
use Rattle.reader_leaf.specs.Answer.{forget}
use Rattle.reader_quick.specs.Quick.{Body}
use Rattle.reader_quick.proofs.Laws.{Rest}
use Rattle.reader_quick.proofs.+body_case_cases_leading_node_piece_pieces.Given as goal

abbrev pub decreases-node : goal.decreases-node
decreases-node l = 8 * l.room

abbrev pub decreases-case : goal.decreases-case
decreases-case l = 8 * l.room + 1

abbrev pub decreases-cases : goal.decreases-cases
decreases-cases l = 8 * l.room + 2

abbrev pub decreases-piece : goal.decreases-piece
decreases-piece l = 8 * l.room + 3

abbrev pub decreases-leading : goal.decreases-leading
decreases-leading l = 8 * l.room + 4

abbrev pub decreases-pieces : goal.decreases-pieces
decreases-pieces l = 8 * l.room + 4

abbrev pub decreases-body : goal.decreases-body
decreases-body l = 8 * l.room + 5

abbrev pub invariant-cases-loop : goal.invariant-cases-loop
invariant-cases-loop l = (l.i ≤ l.end) × Rest l.room l.s 163 64 l.end l.at (l.n - l.counter) l.i

abbrev pub invariant-pieces-loop-digits : goal.invariant-pieces-loop-digits
invariant-pieces-loop-digits l = (l.i ≤ l.stop) × (Body l.room l.s l.digits l.i l.stop → Body l.room l.s l.row l.at l.stop)

abbrev pub decreases-pieces-loop-digits : goal.decreases-pieces-loop-digits
decreases-pieces-loop-digits l = l.digits

abbrev pub invariant-node-loop-row : goal.invariant-node-loop-row
invariant-node-loop-row l =
    (l.i ≤ l.stop) ×
    (l.left < l.room) ×
    (Body l.left l.s l.row l.i l.stop → (e : Earlier) → forget (read_block l.room l.s e 128 144 l.at l.end) ≡ done l.stop)

abbrev pub decreases-node-loop-row : goal.decreases-node-loop-row
decreases-node-loop-row l = l.left

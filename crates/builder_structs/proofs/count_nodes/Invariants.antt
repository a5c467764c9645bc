-- The nodes of the fields that were passed are counted, and the prefix ends at `so_far`.
use Rattle.std.proofs.Common.{◌-◌, ◌*◌, ◌≤◌}
use Rattle.builder_structs.proofs.Laws.{Count}
use Rattle.builder_structs.proofs.count_nodes.Given as goal

abbrev pub invariant-loop : goal.invariant-loop
invariant-loop l = (l.n ≤ 2 * l.counter) × Count l.s l.fn.list.count l.fn.list.first (l.fn.list.count - l.counter) l.at l.so_far l.n

-- The names of the blocks before are none of those before them, and their marks are in the table.
use Rattle.std.proofs.Common.{◌≤◌}
use Rattle.marks.specs.Table.{Linked}
use Rattle.reader_leaf.specs.Mark.{mark_in}
use Rattle.reader_leaf.proofs.Distinct.{Known}
use Rattle.reader_leaf.proofs.fresh_linked.Given as goal

abbrev pub invariant-loop-count : goal.invariant-loop-count
invariant-loop-count l = Known l.s l.first l.count l.at × Linked l.table (mark_in l.s l.apart l.first) l.count × (l.at ≤ l.end)

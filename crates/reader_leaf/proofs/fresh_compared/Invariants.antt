-- The names of the blocks before are none of those before them.
use Rattle.std.proofs.Common.{◌≤◌}
use Rattle.reader_leaf.proofs.Distinct.{Known}
use Rattle.reader_leaf.proofs.fresh_compared.Given as goal

abbrev pub invariant-loop-count : goal.invariant-loop-count
invariant-loop-count l = Known l.s l.first l.count l.at × (l.at ≤ l.end)

-- The loop's invariant: the entry that was kept has the key, and each slot that may have the mark was asked from the last one down to `j`.
use mathlib.Core.List.{◌++◌}
use Rattle.builder_registry.proofs.Index.{Searching}
use Rattle.builder_registry.proofs.place.Given as goal

abbrev pub invariant-loop-j : goal.invariant-loop-j
invariant-loop-j l = Searching l.s l.words l.search.count l.owner (l.head ++ l.rest) l.search.mark l.found l.j

abbrev pub decreases-loop-j : goal.decreases-loop-j
decreases-loop-j l = l.j

-- `is_new`: a walk over the earlier entries that may have the mark of the name, from the last one back (`Walk`, of crate marks): those
-- that it has asked do not have the name (`Other`). At its end no entry of that mark has it, and one of another mark does not.
use Rattle.marks.proofs.Walks.{Walk}
use Rattle.builder_parameters.specs.Listed.{marks_of}
use Rattle.builder_parameters.proofs.Listed.{Other}
use Rattle.builder_parameters.proofs.is_new.Given as goal

abbrev pub invariant-loop-j : goal.invariant-loop-j
invariant-loop-j l = Walk (marks_of l.s l.words) l.mark l.fn.i (Other l.s l.words l.fn.i) l.j

abbrev pub decreases-loop-j : goal.decreases-loop-j
decreases-loop-j l = l.j

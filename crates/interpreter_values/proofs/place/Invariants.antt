-- The loop's invariant: each entry that may have the mark was asked from the last one down to `j`, and none has the name.
use Rattle.interpreter_values.proofs.Index.{Searching}
use Rattle.interpreter_values.proofs.place.Given as goal

abbrev pub invariant-loop-j : goal.invariant-loop-j
invariant-loop-j l = Searching l.values l.block l.m l.name l.mark l.j

abbrev pub decreases-loop-j : goal.decreases-loop-j
decreases-loop-j l = l.j

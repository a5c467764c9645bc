-- `before_element`: the segments one by one. In the loop no segment that was passed is `element`, so the definition's answer is the
-- one that it gives from here (`left_of`).
use mathlib.Core.Path.{◌≡◌}
use lib.ListN.{length, drop}
use Rattle.builder.specs.Names.{split, before_element}
use Rattle.builder_parameters.proofs.Segments.{left_of}
use Rattle.builder_parameters.proofs.before_element.Given as goal

abbrev pub invariant-loop-segment : goal.invariant-loop-segment
invariant-loop-segment l = left_of l.before (drop (length l.yielded) (split l.name)) ≡ before_element (split l.name)

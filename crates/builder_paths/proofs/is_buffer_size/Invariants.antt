-- `is_buffer_size` meets its contract. The invariant: what the name has behind the segments that were passed is left to match.
use Rattle.builder_paths.proofs.Segments.{Walk, Matched}
use Rattle.builder_paths.proofs.is_buffer_size.Given as goal

abbrev pub invariant-loop-behind : goal.invariant-loop-behind
invariant-loop-behind l = Walk (Matched l.name) l.s l.at l.behind l.q

-- `path_length` meets its contract. The invariant: the segments that were passed have n bytes.
use Prim.Native.Nat.{◌≤◌}
use lib.ListN.{length}
use Rattle.builder_paths.proofs.Segments.{Walk, Passed}
use Rattle.builder_paths.proofs.path_length.Given as goal

abbrev pub invariant-loop-behind : goal.invariant-loop-behind
invariant-loop-behind l = Walk (Passed l.n) l.s l.at l.behind l.q × (l.n ≤ l.q) × (l.q ≤ length l.s)

-- `put_path` meets its contract. The invariant: whatever writes the segments that are left makes the whole write.
use Prim.Native.Nat.{◌+◌, ◌≤◌}
use Rattle.builder_paths.proofs.Segments.{Walk, Written}
use Rattle.builder_paths.proofs.put_path.Given as goal

abbrev pub invariant-loop-behind : goal.invariant-loop-behind
invariant-loop-behind l = Walk (Written l.initial.out l.start l.out l.p) l.s l.at l.behind l.q × (l.p ≤ l.start + l.q)

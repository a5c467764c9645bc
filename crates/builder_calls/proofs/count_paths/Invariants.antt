-- All the paths are those that were counted and those of the owners that are left (`Count`). An owner has at most 64 paths and a block
-- 64 owners, so the count stays at most 4096.
use Prim.Native.Nat.{◌+◌, ◌-◌, ◌*◌, ◌≤◌}
use Rattle.blocks.specs.Bytes.{le2}
use Rattle.builder_calls.proofs.Laws.{Count}
use Rattle.builder_calls.proofs.count_paths.Given as goal

abbrev pub invariant-loop : goal.invariant-loop
invariant-loop l = record {
  few : l.n ≤ 64 * l.counter;
  counted : Count l.s l.references (le2 l.s (l.references + 6) - l.counter) l.at l.n;
}

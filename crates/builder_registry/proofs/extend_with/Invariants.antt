-- The loop's invariant: all owners on the registry at entry are the owners that are left on the registry now.
use Rattle.std.proofs.Common.{◌≤◌, ◌≡◌, length}
use Rattle.builder_registry.proofs.Extend.{Owners}
use Rattle.builder_registry.specs.Words.{entries_of, Indexed}
use Rattle.builder_registry.proofs.extend_with.Given as goal

abbrev pub invariant-loop : goal.invariant-loop
invariant-loop l =
    (l.count ≤ 512) ×
    (length l.words ≡ length l.fn.words) ×
    Owners l.s (entries_of l.s l.fn.words l.n) (entries_of l.s l.words l.count) l.references l.counter l.at ×
    Indexed l.s l.words l.count

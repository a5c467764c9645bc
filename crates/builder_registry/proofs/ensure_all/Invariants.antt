-- The loop's invariant: all paths on the registry at entry are the paths that are left on the registry now.
use Rattle.std.proofs.Common.{◌≤◌, ◌≡◌, length}
use Rattle.builder_registry.proofs.Extend.{Paths}
use Rattle.builder_registry.specs.Words.{held, entries_of, Indexed}
use Rattle.builder_registry.proofs.ensure_all.Given as goal

abbrev pub invariant-loop : goal.invariant-loop
invariant-loop l =
    (l.count ≤ 512) ×
    (length l.words ≡ length l.fn.words) ×
    Paths l.s (held l.s l.fn.owner) (entries_of l.s l.fn.words l.n) (entries_of l.s l.words l.count) l.paths l.counter l.at ×
    Indexed l.s l.words l.count

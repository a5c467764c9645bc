-- The whole list reads as what is left of it.
use Rattle.std.proofs.Common.{ℕ, ◌-◌, ◌<◌, ◌≤◌}
use Rattle.reader_quick.proofs.Laws.{Rest}
use Rattle.reader_quick.proofs.entries.Given as goal

abbrev pub invariant-loop : goal.invariant-loop
invariant-loop l = (l.i ≤ l.end) × ((room : ℕ) → 0 < room → Rest room l.s l.kind 512 l.end l.at (l.n - l.counter) l.i)

-- The whole list reads as what is left of it.
use Rattle.std.proofs.Common.{◌≡◌, ◌-◌, ◌≤◌}
use Rattle.blocks.specs.Read.{Earlier, read_key, read_list, read_entries}
use Rattle.reader_leaf.specs.Answer.{forget}
use Rattle.reader_leaf.proofs.names.Given as goal

abbrev pub invariant-loop : goal.invariant-loop
invariant-loop l =
    (l.i ≤ l.end) ×
    (forget
    (read_list (read_key l.s l.start l.end) Earlier.any l.limit l.s l.start l.end l.at) ≡ forget
    (read_entries (read_key l.s l.start l.end) Earlier.any (l.n - l.counter) l.i))

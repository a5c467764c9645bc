-- The whole list reads as what is left of it, behind the name at `last`.
use Rattle.std.proofs.Common.{[], ◌-◌, ◌<◌, ◌≤◌}
use Rattle.blocks.specs.Read.{Earlier, read_list}
use Rattle.reader_leaf.specs.Seen.{LastIn}
use Rattle.reader_leaf.specs.Answer.{forget, read_entry}
use Rattle.reader_leaf.proofs.Lists.{Going}
use Rattle.reader_leaf.proofs.entries.Given as goal

abbrev pub invariant-loop : goal.invariant-loop
invariant-loop l =
    (0 < l.i) ×
    (l.i ≤ l.end) × LastIn l.s l.last × Going l.s
    (read_entry l.pairs l.s l.start l.end)
    (forget (read_list (read_entry l.pairs l.s l.start l.end) (Earlier.ascending [] 0) l.limit l.s l.start l.end l.at))
    l.last (l.n - l.counter) l.i

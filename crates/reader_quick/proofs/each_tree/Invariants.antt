-- Where the names are distinct, the whole list reads as what is left of it. (`fn.end`, since a loop's own end may be called `end`.)
use Rattle.std.proofs.Common.{◌+◌, ◌≤◌}
use Rattle.reader_leaf.specs.Seen.{Fresh}
use Rattle.reader_quick.proofs.Listed.{Going}
use Rattle.reader_quick.proofs.each_tree.Given as goal

abbrev pub invariant-loop : goal.invariant-loop
invariant-loop l = (l.i ≤ l.fn.end) × (Fresh l.s (l.at + 2) l.count → Going l.room l.s l.fn.end l.at l.count l.counter l.i)

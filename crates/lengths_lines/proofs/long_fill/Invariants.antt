-- `long_fill` meets its contract. The loop's invariant: i counts are the whole lengths and the rest.
use Rattle.lengths_lines.proofs.Laws.{Filled}
use Rattle.lengths_lines.proofs.long_fill.Given as goal

abbrev pub invariant-loop : goal.invariant-loop
invariant-loop l = Filled l.count l.len l.counter l.whole l.rest

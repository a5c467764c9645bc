-- None of the entries that were passed has the name.
use Rattle.std.proofs.Common.{◌-◌}
use Rattle.lookup.proofs.Values.{Passed}
use Rattle.lookup.proofs.value_from.Given as goal

abbrev pub invariant-loop : goal.invariant-loop
invariant-loop l = Passed l.s l.name l.count l.from (l.count - l.counter) l.at

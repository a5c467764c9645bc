-- `last_colons` meets its contract. The loop's invariant: there is no `::` from `i` on.
use Rattle.std.proofs.Common.{◌≡◌, drop}
use mathlib.Core.Option.{none}
use Rattle.builder.specs.Names.{rsplit_once}
use Rattle.builder_names.proofs.last_colons.Given as goal

abbrev pub invariant-loop-i : goal.invariant-loop-i
invariant-loop-i l = rsplit_once (drop l.i l.name) ≡ none

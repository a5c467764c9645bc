-- `has_jagged`: one pass over the fields. In the loop no field that was passed is a jagged array of this name (`Search`), so the
-- fields that are left decide.
use mathlib.Core.Path.{◌≡◌}
use Prim.Native.Nat.{◌-◌}
use Rattle.builder_parameters.proofs.Fields.{Search}
use Rattle.builder_parameters.proofs.has_jagged.Given as goal

abbrev pub invariant-loop : goal.invariant-loop
invariant-loop l = Search (λ n. n ≡ l.name) l.s l.end l.initial.at (l.end - l.counter) l.at

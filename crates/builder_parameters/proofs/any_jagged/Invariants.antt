-- `any_jagged`: one pass over the fields of a struct. In the loop no field that was passed is a jagged array, of any name (`Search`).
-- Where none is found, no name is an element of one.
use Prim.Native.Nat.{◌-◌}
use Rattle.builder_parameters.proofs.Fields.{Search}
use Rattle.builder_parameters.proofs.any_jagged.Given as goal

abbrev pub invariant-loop : goal.invariant-loop
invariant-loop l = Search (λ n. Unit) l.s l.end l.initial.at (l.end - l.counter) l.at

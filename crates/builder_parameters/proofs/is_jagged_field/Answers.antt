-- `is_jagged_field`: a field of another name, or of this name and no jagged array, leaves the answer to the fields behind it; the contract says it as
-- an `or` with their answer.
use Rattle.resolved_parts.proofs.Laws.{inside, long}
use Rattle.builder_parameters.proofs.Fields.{other_field, that_field}
use native.Mathlib.Omega.{arith}
use Rattle.builder_parameters.proofs.is_jagged_field.Goals as goal

pub overflow_add-at : goal.overflow_add-at
overflow_add-at c = omega (arith, inside c.requires, long c.requires)

pub name_at-requires : goal.name_at-requires
name_at-requires c = (c.field_parts-field.ensures c.requires).named

pub is_jagged-requires : goal.is_jagged-requires
is_jagged-requires c = (c.field_parts-field.ensures c.requires).type

pub returns-then-same_name : goal.returns-then-same_name
returns-then-same_name c = λ a u.
    that_field (c.field_parts-field.ensures a) _ u c.name_at.ensures c.if-same_name.ensures c.is_jagged.ensures

pub returns-else-same_name : goal.returns-else-same_name
returns-else-same_name c = λ a u.
    rw c.if-same_name.false (other_field (c.field_parts-field.ensures a) _ u c.name_at.ensures c.if-same_name.ensures)

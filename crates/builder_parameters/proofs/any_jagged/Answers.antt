use mathlib.Core.Path.{sym, ◌∙◌}
use Rattle.resolved_parts.proofs.Laws.{inside, long}
use Rattle.builder_parameters.proofs.Fields.{begin, not_found, next_field, go_on, plain_field, no_struct, no_jagged}
use native.Mathlib.Omega.{arith}
use Rattle.builder_parameters.proofs.any_jagged.Goals as goal

pub overflow_add-kind : goal.overflow_add-kind
overflow_add-kind c = omega (arith, inside c.requires)

pub read2-requires : goal.read2-requires
read2-requires c = omega (arith, inside c.requires, long c.requires)

pub returns-then-read2-ne2 : goal.returns-then-read2-ne2
returns-then-read2-ne2 c = no_struct c.read2.ensures.0 c.if-read2-ne2.true

pub loop-init : goal.loop-init
loop-init c = begin (c.field_list-list.ensures c.requires) _

pub field_parts-field-requires : goal.field_parts-field-requires
field_parts-field-requires c = next_field _ c.loop-test.true c.loop.invariant

pub is_jagged-requires : goal.is_jagged-requires
is_jagged-requires c = (c.field_parts-field.ensures (next_field _ c.loop-test.true c.loop.invariant)).type

pub overflow_add-at : goal.overflow_add-at
overflow_add-at c = omega (arith, inside (next_field _ c.loop-test.true c.loop.invariant))

pub read4-requires : goal.read4-requires
read4-requires c = omega (arith, inside (next_field _ c.loop-test.true c.loop.invariant))

pub overflow_add-at-in-loop : goal.overflow_add-at-in-loop
overflow_add-at-in-loop c = omega (arith, inside (next_field _ c.loop-test.true c.loop.invariant), c.read4.ensures.0)

pub loop-preserved : goal.loop-preserved
loop-preserved c =
    go_on _ c.loop-test.true (λ n e b u. plain_field (c.field_parts-field.ensures b) n u c.is_jagged.ensures c.if-is_jagged.false)
    c.read4.ensures.0 c.loop.invariant

pub returns : goal.returns
returns c =
    no_jagged c.read2.ensures.0 c.if-read2-ne2.false
    (λ a n. not_found (c.field_list-list.ensures a) _ (sym c.read2.ensures.0 ∙ c.if-read2-ne2.false) tt
    c.loop.invariant (omega (arith, c.loop-test.false)))

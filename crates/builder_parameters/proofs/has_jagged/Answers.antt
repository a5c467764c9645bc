use mathlib.Core.Path.{refl}
use Rattle.resolved_parts.proofs.Laws.{inside}
use Rattle.builder_parameters.proofs.Fields.{begin, found, not_found, next_field, go_on, hits, misses}
use native.Mathlib.Omega.{arith}
use Rattle.builder_parameters.proofs.has_jagged.Goals as goal

pub loop-init : goal.loop-init
loop-init c = begin (c.field_list-list.ensures c.requires.0) _

pub is_jagged_field-requires : goal.is_jagged_field-requires
is_jagged_field-requires c = next_field _ c.loop-test.true c.loop.invariant

pub returns-then-is_jagged_field : goal.returns-then-is_jagged_field
returns-then-is_jagged_field c =
    λ a. found (c.field_list-list.ensures a) _ c.requires.1 refl c.loop.invariant (omega (arith, c.loop-test.true))
    (λ b u. hits _ c.is_jagged_field.ensures b u c.if-is_jagged_field.true)

pub overflow_add-at : goal.overflow_add-at
overflow_add-at c = omega (arith, inside (next_field _ c.loop-test.true c.loop.invariant))

pub read4-requires : goal.read4-requires
read4-requires c = omega (arith, inside (next_field _ c.loop-test.true c.loop.invariant))

pub overflow_add-at-in-loop : goal.overflow_add-at-in-loop
overflow_add-at-in-loop c = omega (arith, inside (next_field _ c.loop-test.true c.loop.invariant), c.read4.ensures.0)

pub loop-preserved : goal.loop-preserved
loop-preserved c =
    go_on _ c.loop-test.true (λ n e b u. rw e (misses _ c.is_jagged_field.ensures b u c.if-is_jagged_field.false)) c.read4.ensures.0
    c.loop.invariant

pub returns : goal.returns
returns c = λ a. not_found (c.field_list-list.ensures a) _ c.requires.1 refl c.loop.invariant (omega (arith, c.loop-test.false))

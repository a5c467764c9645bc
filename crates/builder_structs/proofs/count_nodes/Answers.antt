-- Each field's nodes are counted, and the next field is reached.
use Rattle.std.proofs.Common.{◌≡◌, ◌+◌, ◌-◌, ◌∙◌, sym, arith}
use native.Mathlib.Numerals.{unary_clauses}
use Rattle.builder_structs.proofs.Laws.{count_begin, count_next, count_over, count_end, field_here, field_inside}
use Rattle.builder_structs.proofs.count_nodes.Goals as goal

pub loop-init : goal.loop-init
loop-init c = (omega arith, simp unary_clauses (count_begin c.requires.0))

pub field_parts-f-requires : goal.field_parts-f-requires
field_parts-f-requires c = field_here (omega arith) c.loop.invariant.1.here

pub prefix_after-requires : goal.prefix_after-requires
prefix_after-requires c = (c.field_parts-f.ensures (field_here (omega arith) c.loop.invariant.1.here)).type

pub returns-in_default-clause-value : goal.returns-in_default-clause-value
returns-in_default-clause-value c =
    count_over _ c.field_parts-f.ensures c.nodes_of-n.ensures.1 (λ a. sym c.in_default.is ∙ c.prefix_after.ensures a) (omega arith) c.loop.invariant.1

pub overflow_add-at : goal.overflow_add-at
overflow_add-at c = omega (arith, field_inside (omega arith) c.loop.invariant.1.here)

pub read4-requires : goal.read4-requires
read4-requires c = omega (arith, field_inside (omega arith) c.loop.invariant.1.here)

pub overflow_add-at-in-loop : goal.overflow_add-at-in-loop
overflow_add-at-in-loop c = omega (arith, c.read4.ensures.0, field_inside (omega arith) c.loop.invariant.1.here)

pub loop-preserved : goal.loop-preserved
loop-preserved c =
    let next : c.args.list.count - (c.loop.counter + 1) ≡ c.args.list.count - c.loop.counter - 1 = omega arith in (
      omega (arith, c.nodes_of-n.ensures.0),
      rw next
          (count_next _ c.field_parts-f.ensures c.nodes_of-n.ensures.1 (λ a. sym c.in-Some.is ∙ c.prefix_after.ensures a) (omega arith) c.read4.ensures.0
          c.loop.invariant.1),
    )

pub returns-clause-value : goal.returns-clause-value
returns-clause-value c = count_end (omega arith) c.loop.invariant.1

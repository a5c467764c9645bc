-- The laws `.._marks` go by the kind of the expression, as the code does.
use Rattle.std.proofs.Common.{arith}
use Rattle.accepted.proofs.Laws.{header_inside}
use Rattle.builder_registry.proofs.Laws.{standing}
use Rattle.builder_switches.proofs.Marks.{low_marks, high_marks, unary_marks, binary_marks, left_in, right_in}
use Rattle.builder_switches.proofs.+mark_expression_field_refs.Goals as goal

pub overflow_add-e : goal.overflow_add-e
overflow_add-e t c = omega (arith, header_inside c.requires.expr)

pub read2-k-requires : goal.read2-k-requires
read2-k-requires t c = omega (arith, header_inside c.requires.expr)

pub returns-then-k-lt68-clause-n_after : goal.returns-then-k-lt68-clause-n_after
returns-then-k-lt68-clause-n_after t c = low_marks _ _ _ c.read2-k.ensures.0 (omega arith) (omega arith)

pub overflow_add-e-in-68-to-78 : goal.overflow_add-e-in-68-to-78
overflow_add-e-in-68-to-78 t c = omega (arith, header_inside c.requires.expr)

pub mark_expression_field_refs-requires : goal.mark_expression_field_refs-requires
mark_expression_field_refs-requires t c =
    let left = left_in _ c.read2-k.ensures.0 (omega arith) (omega arith) c.requires.expr in
    (omega (arith, c.decreases, left.1), record { standing = c.requires.standing; owned = c.requires.owned; expr = left.0 })

pub overflow_add-e-in-68-to-78-2 : goal.overflow_add-e-in-68-to-78-2
overflow_add-e-in-68-to-78-2 t c = omega (arith, header_inside c.requires.expr)

pub read4-u-requires : goal.read4-u-requires
read4-u-requires t c = omega (arith, header_inside (left_in _ c.read2-k.ensures.0 (omega arith) (omega arith) c.requires.expr).0)

pub overflow_add-e-in-68-to-78-3 : goal.overflow_add-e-in-68-to-78-3
overflow_add-e-in-68-to-78-3 t c = omega (arith, header_inside c.requires.expr)

pub overflow_add-e-in-68-to-78-4 : goal.overflow_add-e-in-68-to-78-4
overflow_add-e-in-68-to-78-4 t c =
    omega (arith, header_inside (right_in _ _ c.read2-k.ensures.0 (omega arith) (omega arith) c.read4-u.ensures.0 c.requires.expr).0)

pub mark_expression_field_refs-requires-in-68-to-78 : goal.mark_expression_field_refs-requires-in-68-to-78
mark_expression_field_refs-requires-in-68-to-78 t c =
    let right = right_in _ _ c.read2-k.ensures.0 (omega arith) (omega arith) c.read4-u.ensures.0 c.requires.expr in (
      omega (arith, c.decreases, right.1),
      record {
        standing = standing c.requires.standing (omega arith) c.requires.standing.count c.mark_expression_field_refs.ensures.indexed;
        owned = c.requires.owned;
        expr = right.0;
      },
    )

pub returns-in-68-to-78-clause-n_after : goal.returns-in-68-to-78-clause-n_after
returns-in-68-to-78-clause-n_after t c =
    binary_marks _ _ _ _
    c.read2-k.ensures.0
    (omega arith)
    (omega arith)
    c.read4-u.ensures.0
    c.mark_expression_field_refs.ensures.n_after
    c.mark_expression_field_refs-in-68-to-78.ensures.n_after

pub overflow_add-e-in-79-to-82 : goal.overflow_add-e-in-79-to-82
overflow_add-e-in-79-to-82 t c = omega (arith, header_inside c.requires.expr)

pub mark_expression_field_refs-requires-in-79-to-82 : goal.mark_expression_field_refs-requires-in-79-to-82
mark_expression_field_refs-requires-in-79-to-82 t c =
    let operand = left_in _ c.read2-k.ensures.0 (omega arith) (omega arith) c.requires.expr in
    (omega (arith, c.decreases, operand.1), record { standing = c.requires.standing; owned = c.requires.owned; expr = operand.0 })

pub returns-in-79-to-82-clause-n_after : goal.returns-in-79-to-82-clause-n_after
returns-in-79-to-82-clause-n_after t c =
    unary_marks _ _ _ c.read2-k.ensures.0 (omega arith) (omega arith) c.mark_expression_field_refs-in-79-to-82.ensures.n_after

pub returns-else-k-lt83-clause-n_after : goal.returns-else-k-lt83-clause-n_after
returns-else-k-lt83-clause-n_after t c = high_marks _ _ _ c.read2-k.ensures.0 (omega arith)

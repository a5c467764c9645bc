use borrow.Author.Rules.{rules}
use native.Mathlib.Omega.{arith}
use Rattle.accepted.proofs.Laws.{header_inside}
use Rattle.answers.proofs.Laws.{hands, lacks}
use Rattle.builder_nodes.proofs.Laws.{builds_index}
use Rattle.builder_expressions.proofs.Laws.{summed, is_operation, other_stops, left_ready, second_inside, right_ready, both_within, left_stops, right_stops, both_made}
use Rattle.builder_expressions.proofs.+expressions.Goals as goal

pub build_binary_expr_ir-overflow_add-first : goal.build_binary_expr_ir-overflow_add-first
build_binary_expr_ir-overflow_add-first t c = omega (arith, header_inside c.requires.0.expression, c.requires.0.standing.size)

pub build_binary_expr_ir-build_expr_ir-requires : goal.build_binary_expr_ir-build_expr_ir-requires
build_binary_expr_ir-build_expr_ir-requires t c = let ready = left_ready c.requires.0 c.requires.1 c.open_node-p.ensures.value in
    (omega (arith, c.decreases, ready.0), ready.1)

pub build_binary_expr_ir-returns-in_err-left-clause-builds : goal.build_binary_expr_ir-returns-in_err-left-clause-builds
build_binary_expr_ir-returns-in_err-left-clause-builds t c = λ a. hands _ c.from_residual.ensures.1 (left_stops _ _ _ _ c.requires.1 c.in_err-left.ensures.builds a)

pub build_binary_expr_ir-overflow_add-second : goal.build_binary_expr_ir-overflow_add-second
build_binary_expr_ir-overflow_add-second t c = omega (arith, header_inside c.requires.0.expression, c.requires.0.standing.size)

pub build_binary_expr_ir-read4-requires : goal.build_binary_expr_ir-read4-requires
build_binary_expr_ir-read4-requires t c = omega (arith, second_inside c.requires.0 c.requires.1 c.open_node-p.ensures.value)

pub build_binary_expr_ir-overflow_add-second-2 : goal.build_binary_expr_ir-overflow_add-second-2
build_binary_expr_ir-overflow_add-second-2 t c = omega (arith, header_inside c.requires.0.expression, c.requires.0.standing.size, c.read4.ensures.1)

pub build_binary_expr_ir-build_expr_ir-requires-2 : goal.build_binary_expr_ir-build_expr_ir-requires-2
build_binary_expr_ir-build_expr_ir-requires-2 t c = let left = (left_ready c.requires.0 c.requires.1 c.open_node-p.ensures.value).1 in
    let ready = right_ready c.requires.0 c.requires.1 c.open_node-p.ensures.value c.in_ok-left.ensures.within (summed _ c.read4.ensures.0)
    (builds_index (c.in_ok-left.ensures.builds left.expression)) in
    (omega (arith, c.decreases, ready.0), ready.1)

pub build_binary_expr_ir-returns-in_err-right-clause-builds : goal.build_binary_expr_ir-returns-in_err-right-clause-builds
build_binary_expr_ir-returns-in_err-right-clause-builds t c = λ a. hands _ c.from_residual-in_err-right.ensures.1
    (right_stops _ _ _ _ c.requires.1 c.in_ok-left.ensures.builds (summed _ c.read4.ensures.0) c.in_err-right.ensures.builds a)

pub build_binary_expr_ir-close_block-requires : goal.build_binary_expr_ir-close_block-requires
build_binary_expr_ir-close_block-requires t c = let ends = both_within c.requires.0 c.requires.1 c.open_node-p.ensures.value c.in_ok-left.ensures.within (summed _ c.read4.ensures.0) c.in_ok-right.ensures.within in
    (ends.0, ends.1)

pub build_binary_expr_ir-returns-clause-within : goal.build_binary_expr_ir-returns-clause-within
build_binary_expr_ir-returns-clause-within t c = (both_within c.requires.0 c.requires.1 c.open_node-p.ensures.value c.in_ok-left.ensures.within (summed _ c.read4.ensures.0) c.in_ok-right.ensures.within).2

pub build_binary_expr_ir-returns-clause-builds : goal.build_binary_expr_ir-returns-clause-builds
build_binary_expr_ir-returns-clause-builds t c = both_made _ _ _ _ c.requires.1 c.in_ok-left.ensures.builds (summed _ c.read4.ensures.0) c.in_ok-right.ensures.builds
    c.default_alignment.ensures c.open_node-p.ensures.wrote c.close_block.ensures.wrote

pub build_expr_ir-overflow_add-offset : goal.build_expr_ir-overflow_add-offset
build_expr_ir-overflow_add-offset t c = omega (arith, header_inside c.requires.expression, c.requires.standing.size)

pub build_expr_ir-read2-requires : goal.build_expr_ir-read2-requires
build_expr_ir-read2-requires t c = omega (arith, header_inside c.requires.expression)

pub build_expr_ir-returns-in_err-kind-in_default-clause-builds : goal.build_expr_ir-returns-in_err-kind-in_default-clause-builds
build_expr_ir-returns-in_err-kind-in_default-clause-builds t c = λ a. lacks _ c.from_residual.ensures.1 c.in_err-kind-in_default.ensures.value c.in_err-kind-in_default.ensures.ok_part
    (other_stops _ _ _ c.read2.ensures.0 (search rules) (search rules) c.in_err-kind-in_default.ensures.ok_part c.operation_kind.ensures a)

pub build_expr_ir-build_binary_expr_ir-requires : goal.build_expr_ir-build_binary_expr_ir-requires
build_expr_ir-build_binary_expr_ir-requires t c = (omega (arith, c.decreases), (c.requires, is_operation c.read2.ensures.0 c.in_ok-kind-in_default.ensures.ok_part c.operation_kind.ensures))

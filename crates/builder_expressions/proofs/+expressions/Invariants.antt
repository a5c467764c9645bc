-- Each operand is a shorter block: the measure is twice the length of the expression's block, and one more before it is known that there
-- are two operands.
use Prim.Native.Nat.{◌+◌, ◌*◌}
use Rattle.blocks.specs.Bytes.{le4}
use Rattle.builder_expressions.proofs.+expressions.Given as goal

abbrev pub decreases-build_expr_ir : goal.decreases-build_expr_ir
decreases-build_expr_ir l = 2 * le4 l.s.now l.e.offset + 1

abbrev pub decreases-build_binary_expr_ir : goal.decreases-build_binary_expr_ir
decreases-build_binary_expr_ir l = 2 * le4 l.s.now l.b.offset

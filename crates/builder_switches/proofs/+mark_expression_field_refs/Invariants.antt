-- An operand is a shorter block than the expression.
use Rattle.blocks.specs.Bytes.{le4}
use Rattle.builder_switches.proofs.+mark_expression_field_refs.Given as goal

abbrev pub decreases-mark_expression_field_refs : goal.decreases-mark_expression_field_refs
decreases-mark_expression_field_refs l = le4 l.s.now l.e

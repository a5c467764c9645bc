-- The measure: the calls that may still open, then the length of the node's block, then the member's rank, since a node is handed on unchanged
-- only from eval_operand to eval_node, to eval_kind and to the member of its kind.
use Rattle.std.proofs.Common.{◌+◌, ◌-◌, ◌*◌}
use Rattle.blocks.specs.Bytes.{le4}
use Rattle.interpreter_eval.proofs.+eval.Given as goal

abbrev pub decreases-eval_align : goal.decreases-eval_align
decreases-eval_align l = (16 - l.f.depth) * 1048576 + 4 * le4 l.inputs.now.layout.now l.at

abbrev pub decreases-eval_binary : goal.decreases-eval_binary
decreases-eval_binary l = (16 - l.f.depth) * 1048576 + 4 * le4 l.inputs.now.layout.now l.at

abbrev pub decreases-eval_call : goal.decreases-eval_call
decreases-eval_call l = (16 - l.f.depth) * 1048576 + 4 * le4 l.inputs.now.layout.now l.at

abbrev pub decreases-eval_kind : goal.decreases-eval_kind
decreases-eval_kind l = (16 - l.f.depth) * 1048576 + 4 * le4 l.inputs.now.layout.now l.at + 1

abbrev pub decreases-eval_node : goal.decreases-eval_node
decreases-eval_node l = (16 - l.f.depth) * 1048576 + 4 * le4 l.inputs.now.layout.now l.at + 2

abbrev pub decreases-eval_switch : goal.decreases-eval_switch
decreases-eval_switch l = (16 - l.f.depth) * 1048576 + 4 * le4 l.inputs.now.layout.now l.at

abbrev pub decreases-eval_operand : goal.decreases-eval_operand
decreases-eval_operand l = (16 - l.f.depth) * 1048576 + 4 * le4 l.inputs.now.layout.now l.at + 3

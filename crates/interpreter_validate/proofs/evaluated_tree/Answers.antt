-- The root of the tree is evaluated with all calls left and no value remembered, and its count held against the buffer length.
use Rattle.std.proofs.Common.{arith}
use Rattle.errors.specs.Refusal.{◌>>=◌}
use Rattle.interpreter_validate.proofs.Laws.{aimed_tree, root_ready, tree_goes, refusal_goes}
use Rattle.interpreter_validate.proofs.evaluated_tree.Goals as goal

pub root-top-requires : goal.root-top-requires
root-top-requires c = aimed_tree c.requires.0

pub eval_node-requires : goal.eval_node-requires
eval_node-requires c = root_ready c.args.layout c.args.values c.root-top.ensures c.requires.0 (c.forget.ensures _ _)

pub returns : goal.returns
unfolding ◌>>=◌
returns c = record {
  words_len_unchanged = omega arith;
  tree_answers =
      tree_goes c.args.layout c.args.values c.root-top.ensures c.eval_node.new.answer c.fitting.result (c.forget.ensures _ _) c.eval_node.ensures.evaluates
      (rw c.in_ok-answer.was c.fitting.ensures);
}

pub returns-in_err-answer : goal.returns-in_err-answer
unfolding ◌>>=◌
returns-in_err-answer c = record {
  words_len_unchanged = omega arith;
  tree_answers =
      tree_goes c.args.layout c.args.values c.root-top.ensures c.eval_node.new.answer c.from_residual.result (c.forget.ensures _ _) c.eval_node.ensures.evaluates
      (rw c.in_err-answer.was (refusal_goes _ c.from_residual.result c.from_residual.ensures.1));
}

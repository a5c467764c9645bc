-- A ZeroSize node for 0, else a Const node inside an AlignUp node.
use Rattle.builder_nodes.proofs.Parts.{zero_closed, value_closed}
use Rattle.builder_nodes.proofs.put_const_or_zero.Goals as goal

pub returns-then-value-eq0-clause-wrote : goal.returns-then-value-eq0-clause-wrote
returns-then-value-eq0-clause-wrote c = zero_closed _ _ c.if-value-eq0.true c.open_node-p.ensures.wrote c.close_block.ensures.wrote

pub returns-clause-wrote : goal.returns-clause-wrote
returns-clause-wrote c = value_closed _ _ c.if-value-eq0.false c.open_align-p.ensures.wrote c.put_const-q.ensures.wrote c.close_block-2.ensures.wrote

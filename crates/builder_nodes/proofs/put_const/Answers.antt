-- The head, the value, then the length.
use Rattle.builder_nodes.proofs.Parts.{const_closed}
use Rattle.builder_nodes.proofs.put_const.Goals as goal

pub returns-clause-wrote : goal.returns-clause-wrote
returns-clause-wrote c = (const_closed _ _ c.open_node-p.ensures.wrote c.put_number_part-q.ensures.wrote c.close_block.ensures.wrote).0

pub returns-clause-value : goal.returns-clause-value
returns-clause-value c = (const_closed _ _ c.open_node-p.ensures.wrote c.put_number_part-q.ensures.wrote c.close_block.ensures.wrote).1

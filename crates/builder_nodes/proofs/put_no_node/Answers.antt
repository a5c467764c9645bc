-- The table says whether the part is an optional node.
use Rattle.builder_nodes.proofs.Parts.{no_node_there, no_node_other}
use Rattle.builder_nodes.proofs.put_no_node.Goals as goal

pub returns-then-node_part-eq-OPT_NODE-clause-wrote : goal.returns-then-node_part-eq-OPT_NODE-clause-wrote
returns-then-node_part-eq-OPT_NODE-clause-wrote c = no_node_there c.node_part.ensures c.if-node_part-eq-OPT_NODE.true c.put_flag.ensures.wrote

pub returns-clause-wrote : goal.returns-clause-wrote
returns-clause-wrote c = no_node_other c.node_part.ensures c.if-node_part-eq-OPT_NODE.false

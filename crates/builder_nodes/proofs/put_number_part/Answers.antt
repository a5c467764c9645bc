-- The table says whether the part is a number.
use Rattle.builder_nodes.proofs.Parts.{number_there, number_other}
use Rattle.builder_nodes.proofs.put_number_part.Goals as goal

pub returns-then-node_part-eq-NUMBER-clause-wrote : goal.returns-then-node_part-eq-NUMBER-clause-wrote
returns-then-node_part-eq-NUMBER-clause-wrote c = number_there c.node_part.ensures _ c.if-node_part-eq-NUMBER.true c.put_le.ensures.wrote

pub returns-clause-wrote : goal.returns-clause-wrote
returns-clause-wrote c = number_other c.node_part.ensures _ c.if-node_part-eq-NUMBER.false

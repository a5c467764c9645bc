-- The table says whether the part is optional.
use Rattle.builder_nodes.proofs.Parts.{flag_there, flag_other}
use Rattle.builder_nodes.proofs.put_text_flag.Goals as goal

pub returns-then-node_part-eq-OPT_TEXT-clause-wrote : goal.returns-then-node_part-eq-OPT_TEXT-clause-wrote
returns-then-node_part-eq-OPT_TEXT-clause-wrote c = flag_there c.node_part.ensures _ c.if-node_part-eq-OPT_TEXT.true c.put_flag.ensures.wrote

pub returns-clause-wrote : goal.returns-clause-wrote
returns-clause-wrote c = flag_other c.node_part.ensures _ c.if-node_part-eq-OPT_TEXT.false

-- The head of an AlignUp node and its alignment.
use Rattle.builder_nodes.proofs.Parts.{align_started}
use Rattle.builder_nodes.proofs.open_align.Goals as goal

pub returns-clause-wrote : goal.returns-clause-wrote
returns-clause-wrote c = (align_started _ c.open_node-p.ensures.wrote c.put_number_part.ensures.wrote).0

pub returns-clause-value : goal.returns-clause-value
returns-clause-value c = (align_started _ c.open_node-p.ensures.wrote c.put_number_part.ensures.wrote).1

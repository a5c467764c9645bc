-- The head, the parts of the reference, then the length.
use Rattle.builder_nodes.proofs.Parts.{path_closed}
use Rattle.builder_nodes.proofs.put_path_ref.Goals as goal

pub returns-clause-wrote : goal.returns-clause-wrote
returns-clause-wrote c = path_closed _ _ c.default_alignment.ensures c.open_node-p.ensures.wrote c.put_ref_parts-q.ensures.wrote c.close_block.ensures.wrote

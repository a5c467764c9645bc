-- The head, the path, no parameter, then the length.
use Rattle.builder_nodes.proofs.Parts.{buffer_closed}
use Rattle.builder_nodes.proofs.put_buffer_size.Goals as goal

pub returns-clause-wrote : goal.returns-clause-wrote
returns-clause-wrote c = (buffer_closed c.default_alignment.ensures c.open_node-p.ensures.wrote c.put_text_part-q.ensures.wrote c.put_text_flag-u.ensures.wrote
    c.close_block.ensures.wrote).0

pub returns-clause-value : goal.returns-clause-value
returns-clause-value c = (buffer_closed c.default_alignment.ensures c.open_node-p.ensures.wrote c.put_text_part-q.ensures.wrote c.put_text_flag-u.ensures.wrote
    c.close_block.ensures.wrote).1

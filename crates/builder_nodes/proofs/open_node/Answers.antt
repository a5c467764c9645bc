-- Every kind begins with a number and an optional text; the metadata has the alignment that was given.
use Rattle.builder_nodes.proofs.Laws.{start_at}
use Rattle.builder_nodes.proofs.Parts.{started}
use Rattle.builder_nodes.proofs.open_node.Goals as goal

pub returns-clause-wrote : goal.returns-clause-wrote
returns-clause-wrote c = start_at _ c.aligned-meta.ensures
    (started _ _ c.requires.1 c.requires.2 c.open_block-p.ensures.wrote c.put_number_part-q.ensures.wrote c.put_text_flag.ensures.wrote).0

pub returns-clause-value : goal.returns-clause-value
returns-clause-value c = (started _ _ c.requires.1 c.requires.2 c.open_block-p.ensures.wrote c.put_number_part-q.ensures.wrote c.put_text_flag.ensures.wrote).1

-- The flag, where the part is optional, then the name.
use Rattle.wire.proofs.Laws.{both}
use Rattle.builder_nodes.proofs.put_text_part.Goals as goal

pub returns-clause-wrote : goal.returns-clause-wrote
returns-clause-wrote c = both c.put_text_flag-p.ensures.wrote c.put_name.ensures.wrote

-- The flag, where the part is optional, then the entry's name.
use Rattle.wire.proofs.Laws.{both}
use Rattle.builder_nodes.proofs.put_entry_part.Goals as goal

pub returns-clause-wrote : goal.returns-clause-wrote
returns-clause-wrote c = both c.put_text_flag-q.ensures.wrote c.put_entry_name.ensures.wrote

-- The path and the entry's name one behind the other.
use Rattle.builder_nodes.proofs.Parts.{ref_parts_lem}
use Rattle.builder_nodes.proofs.put_ref_parts.Goals as goal

pub returns-clause-wrote : goal.returns-clause-wrote
returns-clause-wrote c = ref_parts_lem _ _ c.put_text_part-p.ensures.wrote c.put_entry_part.ensures.wrote

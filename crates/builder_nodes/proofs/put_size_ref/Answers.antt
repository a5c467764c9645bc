-- A node with a size text, so its metadata is written part by part.
use Rattle.builder_nodes.proofs.Parts.{size_closed}
use Rattle.builder_nodes.proofs.put_size_ref.Goals as goal

pub returns-clause-wrote : goal.returns-clause-wrote
returns-clause-wrote c = size_closed c.args.owner.now _ _ c.default_alignment.ensures c.open_block-p.ensures.wrote c.put_number_part-q.ensures.wrote
    c.put_size_text-u.ensures.wrote c.put_ref_parts-v.ensures.wrote c.close_block.ensures.wrote

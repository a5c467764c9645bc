-- the block's parts one behind the other, then its length
use Rattle.builder_registry.proofs.Puts.{puts_parameter}
use Rattle.builder_registry.proofs.put_parameter.Goals as goal

pub returns-clause-wrote : goal.returns-clause-wrote
returns-clause-wrote c = puts_parameter _ _ _ c.made_of.ensures c.is_derived.ensures c.open_block-p.ensures.wrote c.put_entry_name-q.ensures.wrote c.put_description-u.ensures.wrote c.put_flag-e.ensures.wrote c.close_block.ensures.wrote

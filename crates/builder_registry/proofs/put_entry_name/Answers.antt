-- the canonical name, or the length, the owner and the end, one write behind the other
use Rattle.builder_registry.proofs.Puts.{name_puts_path, name_puts_made, name_end}
use Rattle.builder_registry.proofs.put_entry_name.Goals as goal

pub returns-in-None-clause-wrote : goal.returns-in-None-clause-wrote
returns-in-None-clause-wrote c = name_puts_path _ _ c.made_of.ensures c.owner_of-o.ensures.result_value c.path_of.ensures.result_value c.in-None.is c.put_canonical_name.ensures.wrote

pub returns-in-None-clause-lower_bound : goal.returns-in-None-clause-lower_bound
returns-in-None-clause-lower_bound c = name_end _ _ (name_puts_path _ _ c.made_of.ensures c.owner_of-o.ensures.result_value c.path_of.ensures.result_value c.in-None.is c.put_canonical_name.ensures.wrote)

pub returns-in-Some-clause-wrote : goal.returns-in-Some-clause-wrote
returns-in-Some-clause-wrote c = name_puts_made _ _ c.made_of.ensures c.owner_of-o.ensures.result_value c.in-Some.is c.end.ensures c.name_length.ensures.value c.put_le-p.ensures.wrote c.put_from-q.ensures.wrote c.put_from.ensures.wrote

-- a flag, and behind it the text
use Rattle.builder_registry.proofs.Puts.{puts_none, puts_some}
use Rattle.builder_registry.proofs.put_description.Goals as goal

pub returns-in-None-clause-wrote : goal.returns-in-None-clause-wrote
returns-in-None-clause-wrote c = puts_none c.in-None.is c.put_flag.ensures.wrote

pub returns-in-Some-clause-wrote : goal.returns-in-Some-clause-wrote
returns-in-Some-clause-wrote c = puts_some c.in-Some.is c.description.ensures c.put_flag-p.ensures.wrote c.put_name.ensures.wrote

-- The parameters, then the count before them.
use Rattle.builder_registry.proofs.Puts.{counted_last}
use Rattle.builder_registry.proofs.put_owner_parameters.Goals as goal

pub returns-clause-wrote : goal.returns-clause-wrote
returns-clause-wrote c = counted_last _ c.put_owned-listed.ensures.wrote c.put_le.ensures.wrote c.put_owned-listed.ensures.count_value

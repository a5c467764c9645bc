-- Two writes, one behind the other.
use Rattle.wire.proofs.Laws.{writes}
use Rattle.wire.proofs.put_name.Goals as goal

pub returns-clause-wrote : goal.returns-clause-wrote
returns-clause-wrote c = search writes

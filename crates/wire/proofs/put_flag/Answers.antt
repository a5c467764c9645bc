-- The byte is a 1 or a 0.
use Rattle.wire.proofs.Laws.{flag_puts}
use Rattle.wire.proofs.put_flag.Goals as goal

pub returns-clause-wrote : goal.returns-clause-wrote
returns-clause-wrote c = flag_puts _ _ _ _ _ c.args.on c.from.ensures c.put_byte.ensures.wrote

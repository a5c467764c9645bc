-- `target` meets its contract: the target's name stands behind the head.
use Rattle.resolved_parts.proofs.Each.{target_at}
use Rattle.resolved_parts.proofs.target.Goals as goal

pub returns : goal.returns
returns c = target_at c.behind_head.ensures c.requires.1

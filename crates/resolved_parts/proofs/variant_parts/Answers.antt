-- `variant_parts` meets its contract: the number stands behind the name, the type behind the number.
use Rattle.resolved_parts.proofs.Fields.{variant_at}
use Rattle.resolved_parts.proofs.variant_parts.Goals as goal

pub returns : goal.returns
returns c = variant_at c.requires.1.0 c.requires.1.1 c.behind_name-p.ensures c.read8.ensures

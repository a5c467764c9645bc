-- `rest_of` meets its contract: behind the owner and a dot stands what was stripped, or else the path.
use Rattle.builder_names.proofs.Canonical.{rest_some}
use Rattle.builder_names.proofs.rest_of.Goals as goal

pub returns : goal.returns
returns c = rw c.unwrap_or.ensures (rest_some _ _ _ c.if-is_empty.ensures c.if-same_name.ensures c.strip_owner.ensures)

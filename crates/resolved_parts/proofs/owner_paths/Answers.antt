-- `owner_paths` meets its contract: the paths stand behind the owner's name.
use Rattle.resolved_parts.proofs.Fields.{owner_at}
use Rattle.resolved_parts.proofs.owner_paths.Goals as goal

pub returns : goal.returns
returns c = owner_at c.behind_name.ensures

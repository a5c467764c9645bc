-- `sized_list` meets its contract: behind the head of a size-discriminated union stands the count of its variants.
use Rattle.std.proofs.Common.{arith}
use Rattle.resolved_parts.proofs.Each.{sized_at}
use Rattle.resolved_parts.proofs.sized_list.Goals as goal

pub returns : goal.returns
returns c = sized_at c.behind_head.ensures c.list_at.ensures.count (omega arith) c.requires.1

-- `field_list` meets its contract: behind the head of a struct or a union stands the count of its fields.
use Rattle.std.proofs.Common.{arith}
use Rattle.resolved_parts.proofs.Each.{fields_at}
use Rattle.resolved_parts.proofs.field_list.Goals as goal

pub returns : goal.returns
returns c = fields_at c.behind_head.ensures c.list_at.ensures.count (omega arith) c.requires.1.0 c.requires.1.1

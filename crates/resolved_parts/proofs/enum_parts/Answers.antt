-- `enum_parts` meets its contract: behind the head stands the tag expression, behind it the count of the variants.
use Rattle.resolved_parts.proofs.Each.{enum_at}
use Rattle.resolved_parts.proofs.enum_parts.Goals as goal

pub returns : goal.returns
returns c = enum_at c.requires.1 c.behind_head-tag.ensures c.read4.ensures.0 c.list_at-variants.ensures.count
    c.list_at-variants.ensures.first

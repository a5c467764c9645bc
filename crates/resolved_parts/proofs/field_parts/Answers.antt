-- `field_parts` meets its contract: the flag behind the name says whether an offset stands before the type.
use Rattle.resolved_parts.proofs.Fields.{field_some, field_none}
use Rattle.resolved_parts.proofs.field_parts.Goals as goal

pub returns-then-s-p-eq1 : goal.returns-then-s-p-eq1
returns-then-s-p-eq1 c = field_some c.behind_name-p.ensures c.if-s-p-eq1.true c.read8-offset.ensures

pub returns : goal.returns
returns c = field_none c.behind_name-p.ensures c.if-s-p-eq1.false

-- `fill` meets its contract: the whole number and the rest are those of the division, or the longer way comes to them.
use Rattle.lengths_lines.proofs.Laws.{fill_none, fill_parts}
use Rattle.lengths_lines.proofs.fill.Goals as goal

pub returns-then-len-eq0 : goal.returns-then-len-eq0
returns-then-len-eq0 c = fill_none _ _ c.if-len-eq0.true

pub returns-then-len-lt72057594037927936 : goal.returns-then-len-lt72057594037927936
returns-then-len-lt72057594037927936 c = fill_parts _ _ c.if-len-eq0.false c.nearest.ensures

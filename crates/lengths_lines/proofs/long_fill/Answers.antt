use Rattle.std.proofs.Common.{arith}
use Rattle.lengths_lines.proofs.Laws.{positive, fill_long}
use Rattle.lengths_lines.proofs.long_fill.Goals as goal

pub returns : goal.returns
returns c =
    fill_long (positive c.requires.1) (omega arith) c.loop.invariant c.nearest.ensures

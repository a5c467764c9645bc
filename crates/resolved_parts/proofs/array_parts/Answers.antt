-- `array_parts` meets its contract: behind the head stand the flag, the element and the size, whose offsets the code sums.
use mathlib.Core.Path.{refl}
use Rattle.resolved_parts.proofs.Each.{array_at}
use Rattle.resolved_parts.proofs.array_parts.Goals as goal

pub returns : goal.returns
returns c = array_at c.requires.1 c.behind_head-q.ensures refl c.read4.ensures.0

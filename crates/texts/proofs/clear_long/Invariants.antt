-- The bytes before 8 * i are clear.
use Rattle.std.proofs.Common.{◌*◌}
use Rattle.texts.specs.Clear.{Clear}
use Rattle.texts.proofs.clear_long.Given as goal

abbrev pub invariant-loop-i : goal.invariant-loop-i
invariant-loop-i l = Clear l.s 0 (8 * l.i)

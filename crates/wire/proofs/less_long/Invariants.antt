-- The names begin alike.
use Rattle.std.proofs.Common.{◌*◌}
use Rattle.wire.proofs.Names.{Alike}
use Rattle.wire.proofs.less_long.Given as goal

abbrev pub invariant-loop-i : goal.invariant-loop-i
invariant-loop-i l = Alike l.a l.b (8 * l.i)

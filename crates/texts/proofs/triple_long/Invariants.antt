-- The bytes before 16 * i and the two behind them go together.
use Rattle.std.proofs.Common.{◌*◌}
use Rattle.texts.specs.Triples.{Tripled}
use Rattle.texts.proofs.triple_long.Given as goal

abbrev pub invariant-loop-i : goal.invariant-loop-i
invariant-loop-i l = Tripled l.s 0 (16 * l.i)

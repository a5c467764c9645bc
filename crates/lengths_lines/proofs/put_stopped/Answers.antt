-- `put_stopped` meets its contract: three writes, one behind the other.
use native.Mathlib.Omega.{arith}
use Rattle.lengths_lines.proofs.Laws.{stopped_puts}
use Rattle.lengths_lines.proofs.put_stopped.Goals as goal

pub returns : goal.returns
returns c = record {
  wrote = search stopped_puts;
  upper_bound = omega arith;
}

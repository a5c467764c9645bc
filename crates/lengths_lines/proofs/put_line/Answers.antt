-- `put_line` meets its contract: four writes, one behind the other.
use native.Mathlib.Omega.{arith}
use Rattle.lengths_lines.proofs.Laws.{line_puts}
use Rattle.lengths_lines.proofs.put_line.Goals as goal

pub returns : goal.returns
returns c = record {
  wrote = search line_puts;
  upper_bound = omega arith;
}

-- `put_number` meets its contract: two writes, one behind the other.
use native.Mathlib.Omega.{arith}
use Rattle.wire.proofs.Laws.{both}
use Rattle.lengths_lines.proofs.put_number.Goals as goal

pub returns : goal.returns
returns c = record {
  wrote = search both;
  upper_bound = omega arith;
}

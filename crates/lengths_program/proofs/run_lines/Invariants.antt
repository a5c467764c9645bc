-- `run_lines` meets its contract. The invariant: the lines of the runs that were passed stand in the output. The measure is the bytes
-- that are left.
use Prim.Native.Nat.{◌+◌, ◌-◌, ◌≤◌}
use native.Mathlib.Omega.{arith}
use borrow.Author.Rules.{rules}
use lib.ListN.{length}
use Rattle.lengths_program.proofs.Runs.{Running, running_start, running_full, running_counted, running_part, running_stop, running_last, running_more, running_end, running_input}
use Rattle.lengths_program.proofs.Runs.{block_inside}
use Rattle.lengths_program.proofs.run_lines.Given as goal

abbrev pub invariant-loop-i : goal.invariant-loop-i
invariant-loop-i l = Running l.first l.layout l.s l.last l.initial.out l.out l.i l.at l.run

abbrev pub decreases-loop-i : goal.decreases-loop-i
decreases-loop-i l = length l.s - l.i

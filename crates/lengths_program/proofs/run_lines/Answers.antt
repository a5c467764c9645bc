use Prim.Native.Nat.{◌+◌, ◌-◌, ◌≤◌}
use native.Mathlib.Omega.{arith}
use borrow.Author.Rules.{rules}
use lib.ListN.{length}
use Rattle.lengths_program.proofs.Runs.{Running, running_start, running_full, running_counted, running_part, running_stop, running_last, running_more, running_end, running_input}
use Rattle.lengths_program.proofs.Runs.{block_inside}
use Rattle.lengths_program.proofs.run_lines.Goals as goal

pub returns-then-out-at-lt84 : goal.returns-then-out-at-lt84
returns-then-out-at-lt84 c = running_full c.loop-i.invariant c.if-out-at-lt84.true

pub returns-then-run-ge18446744073709551615 : goal.returns-then-run-ge18446744073709551615
returns-then-run-ge18446744073709551615 c = running_counted c.loop-i.invariant c.if-run-ge18446744073709551615.true

pub returns-in-Part : goal.returns-in-Part
returns-in-Part c =
    running_part
    c.loop-i.invariant
    c.loop-i-test.true
    c.next_block.ensures
    c.in-Part.is

pub returns-in-Refused : goal.returns-in-Refused
returns-in-Refused c =
    running_stop
    c.loop-i.invariant
    c.loop-i-test.true
    c.next_block.ensures
    c.in-Refused.is
    (rw c.number.ensures at c.put_stopped.ensures.wrote)
    c.put_stopped.ensures.upper_bound
    c.if-out-at-lt84.false

pub returns-in-Last : goal.returns-in-Last
returns-in-Last c =
    running_last
    c.loop-i.invariant
    c.loop-i-test.true
    c.next_block.ensures
    c.in-Block.is
    c.answer_at.ensures.answered
    c.answer_at.ensures.result_bound
    c.if-out-at-lt84.false
    c.in-Last.is

pub loop-i-preserved : goal.loop-i-preserved
loop-i-preserved c =
    running_more
    c.loop-i.invariant
    c.loop-i-test.true
    c.next_block.ensures
    c.in-Block.is
    c.answer_at.ensures.answered
    c.answer_at.ensures.result_bound
    c.if-out-at-lt84.false
    c.in-Line.is

pub returns-then-last : goal.returns-then-last
returns-then-last c = running_end c.loop-i.invariant c.if-last.true c.loop-i-test.false

pub returns : goal.returns
returns c = running_input c.loop-i.invariant c.if-last.false c.loop-i-test.false

-- `begin` meets its contract: the next block is refused, or it is the set, and the set is refused, or its layout stands in its buffer.
use Rattle.lengths_program.proofs.Set.{begins_part, begins_none, begins_refused, begins_built}
use Rattle.lengths_program.proofs.begin.Goals as goal

pub returns-in-Part : goal.returns-in-Part
returns-in-Part c = begins_part c.next_block.ensures _ _ c.in-Part.is

pub returns-in-Refused : goal.returns-in-Refused
returns-in-Refused c =
    begins_none
    c.next_block.ensures
    c.in-Refused.is
    (rw c.number.ensures at c.put_stopped.ensures.wrote)
    c.put_stopped.ensures.upper_bound
    c.requires.1.line

pub returns-in-Err : goal.returns-in-Err
returns-in-Err c =
    begins_refused
    c.next_block.ensures
    c.in-Block.is
    c.args.layout.now
    c.layout_of.ensures.result_value
    c.requires.0
    c.in-Err.is
    (rw c.number-in-Err.ensures at c.put_stopped-in-Err.ensures.wrote)
    c.put_stopped-in-Err.ensures.upper_bound
    c.requires.1.line

pub returns-in-Ok : goal.returns-in-Ok
returns-in-Ok c =
    begins_built
    c.next_block.ensures
    c.in-Block.is
    c.args.layout.now
    c.layout_of.ensures.result_value
    c.requires.0
    c.in-Ok.is
    c.layout_of.ensures.out_after

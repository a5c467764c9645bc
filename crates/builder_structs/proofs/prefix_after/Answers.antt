-- Only a constant field with an offset moves the end of the prefix.
use Rattle.builder_structs.proofs.Laws.{end_unplaced, end_variable, end_const}
use Rattle.builder_structs.proofs.prefix_after.Goals as goal

pub returns-in_default : goal.returns-in_default
returns-in_default c = end_unplaced _ c.in_default.is

pub returns-in-Some-size : goal.returns-in-Some-size
returns-in-Some-size c = rw c.in-Some.is (end_const _ c.type_head.ensures _ c.in-Some-size.is c.checked_add.ensures)

pub returns-in-None : goal.returns-in-None
returns-in-None c = rw c.in-Some.is (end_variable _ c.type_head.ensures _ c.in-None.is)

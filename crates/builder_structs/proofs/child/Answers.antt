-- Without a field it is refused; where the padding is made, or there is none, it is the field's node, else a constant.
use Rattle.std.proofs.Common.{arith}
use Rattle.builder_structs.proofs.Laws.{field_here, child_none, child_half, child_plain, child_pad}
use Rattle.builder_structs.proofs.child.Goals as goal
use Rattle.builder_structs.proofs.child.Goals.{then-from-via-then-from, then-from-via-else-from+then-pad-eq0}

pub returns-then-from-eq0-clause-ran : goal.returns-then-from-eq0-clause-ran
returns-then-from-eq0-clause-ran c = child_none _ _ _ c.if-from-eq0.true

pub field_parts-f-requires : goal.field_parts-f-requires
field_parts-f-requires c = field_here (omega (arith, c.if-from-eq0.false)) c.requires.list

pub returns-then-from-clause-ran : goal.returns-then-from-clause-ran
returns-then-from-clause-ran c =
    elim c.then-from.branch [
      | then-from-via-then-from w ↦ child_half _ _ _ c.field_node.ensures.ran w.if-from.true
      | then-from-via-else-from+then-pad-eq0 w ↦
          child_plain _ _ _ c.field_node.ensures.ran w.if-from.false (omega (arith, c.if-from-eq0.false)) c.field_parts-f.ensures c.padding-pad.ensures w.if-pad-eq0.true
    ]

pub returns-clause-ran : goal.returns-clause-ran
returns-clause-ran c =
    child_pad c.requires.standing.index c.if-from.false (omega (arith, c.if-from-eq0.false)) c.field_parts-f.ensures c.padding-pad.ensures
    c.if-pad-eq0.false c.put_const_or_zero-end.ensures.wrote

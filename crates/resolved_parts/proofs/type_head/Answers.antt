-- `type_head` meets its contract: the size's flag says whether a constant size stands before the alignment.
use Rattle.resolved_parts.proofs.Head.{head_const, head_variable}
use Rattle.resolved_parts.proofs.type_head.Goals as goal
use Rattle.resolved_parts.proofs.type_head.Goals.{then-s-p-eq0, else-s-p-eq0}

pub returns : goal.returns
returns c a =
    elim c.if-s-p-eq0.branch [
      | then-s-p-eq0 w ↦ rw w.size-is
          (head_const c.alignment_at-q.ensures c.read8-2.ensures c.behind_name-p.ensures w.if-s-p-eq0.true w.read8.ensures a)
      | else-s-p-eq0 w ↦ rw w.size-is
          (head_variable c.alignment_at-q.ensures c.read8-2.ensures c.behind_name-p.ensures w.if-s-p-eq0.false a)
    ]

-- The output is cleared where it is a refusal.
use Rattle.builder_set.proofs.Laws.{left_built, left_cleared}
use Rattle.builder_set.proofs.settled.Goals as goal

pub returns-then-is_err-clause-out_after : goal.returns-then-is_err-clause-out_after
returns-then-is_err-clause-out_after c = left_cleared _ _ c.built-a.ensures c.if-is_err.ensures.value c.clear_bytes.ensures c.built-a.auto.out

pub returns-else-is_err-clause-out_after : goal.returns-else-is_err-clause-out_after
returns-else-is_err-clause-out_after c = left_built _ _ c.built-a.ensures c.if-is_err.ensures.value

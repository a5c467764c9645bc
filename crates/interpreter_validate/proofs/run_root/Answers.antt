-- `run_root` meets its contract: its name, its buffer length and its values stand one behind the other.
use Rattle.interpreter_validate.proofs.Laws.{run_inside}
use native.Mathlib.Omega.{arith}
use Rattle.interpreter_validate.proofs.run_root.Goals as goal

pub behind_name-at-requires : goal.behind_name-at-requires
behind_name-at-requires c = omega (arith, run_inside _ c.requires)

pub overflow_add-result : goal.overflow_add-result
overflow_add-result c = omega (arith, run_inside _ c.requires, c.behind_name-at.ensures)

pub read8-requires : goal.read8-requires
read8-requires c = omega (arith, run_inside _ c.requires, c.behind_name-at.ensures)

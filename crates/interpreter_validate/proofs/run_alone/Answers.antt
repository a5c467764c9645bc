-- `run_alone` meets its contract: its type is evaluated with its values and its buffer length.
use Rattle.interpreter_validate.proofs.Laws.{run_inside, run_located, run_answers}
use native.Mathlib.Omega.{arith}
use Rattle.interpreter_validate.proofs.run_alone.Goals as goal

pub name_at-requires : goal.name_at-requires
name_at-requires c = omega (arith, run_inside _ c.requires.other_read)

pub type_alone-requires : goal.type_alone-requires
type_alone-requires c = run_located c.requires c.run_root.ensures

pub returns : goal.returns
returns c =
    run_answers _ c.run_root.ensures c.name_at.ensures c.type_alone.result c.type_alone.ensures

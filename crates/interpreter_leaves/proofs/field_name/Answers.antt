-- The parameter's name where there is one, else the path.
use native.Mathlib.Omega.{arith}
use Rattle.interpreter_leaves.proofs.Nodes.{three_parts}
use Rattle.interpreter_leaves.proofs.Nodes.{ref_three, by_parameter, by_path}
use Rattle.interpreter_leaves.proofs.field_name.Goals as goal

pub second_part-q-requires : goal.second_part-q-requires
second_part-q-requires c = (
  c.requires.0,
  three_parts _ (omega (arith, c.requires.1)) (omega (arith, c.requires.1)),
)

pub bounds-s-q : goal.bounds-s-q
bounds-s-q c =
    omega (
      arith,
      (ref_three c.second_part-q.ensures c.requires.0 c.requires.1).flag,
    )

pub returns-then-s-q-eq1 : goal.returns-then-s-q-eq1
returns-then-s-q-eq1 c =
    by_parameter
    c.first_part-p.ensures
    c.second_part-q.ensures
    c.requires.1
    c.requires.0
    c.if-s-q-eq1.true

pub returns-else-s-q-eq1 : goal.returns-else-s-q-eq1
returns-else-s-q-eq1 c =
    by_path
    c.first_part-p.ensures
    c.second_part-q.ensures
    c.requires.1
    c.requires.0
    c.if-s-q-eq1.false

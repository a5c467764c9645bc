use mathlib.Core.Path.{sym, ◌∙◌}
use native.Mathlib.Omega.{arith}
use Rattle.interpreter_context.proofs.Laws.{kinds}
use Rattle.interpreter_leaves.proofs.Nodes.{three_parts}
use Rattle.interpreter_leaves.proofs.Align.{align_number, align_child, whole, ends_plain, ends_aligned, inner}
use Rattle.interpreter_leaves.proofs.unwrapped.Goals as goal

pub loop-at-init : goal.loop-at-init
loop-at-init c = whole

pub overflow_add-p : goal.overflow_add-p
overflow_add-p c = omega (
  arith,
  (kinds (c.loop-at.invariant c.requires).node).2,
  (kinds (c.loop-at.invariant c.requires).node).3,
)

pub read2-requires : goal.read2-requires
read2-requires c = omega (
  arith,
  (kinds (c.loop-at.invariant c.requires).node).2,
  (kinds (c.loop-at.invariant c.requires).node).3,
)

pub first_part-requires : goal.first_part-requires
first_part-requires c =
    (c.loop-at.invariant c.requires).node

pub read8-requires : goal.read8-requires
read8-requires c =
    (align_number
    c.first_part.ensures
    (c.loop-at.invariant c.requires).node
    (sym c.read2.ensures.0 ∙ c.loop-at-test.true)).0

pub returns-then-read8-gt1 : goal.returns-then-read8-gt1
returns-then-read8-gt1 c =
    λ a. ends_aligned
    c.first_part.ensures
    (sym c.read2.ensures.0 ∙ c.loop-at-test.true)
    c.read8.ensures
    (c.loop-at.invariant a)
    c.if-read8-gt1.true

pub second_part-p-requires : goal.second_part-p-requires
second_part-p-requires c = (
  (c.loop-at.invariant c.requires).node,
  three_parts _ (omega (arith, (sym c.read2.ensures.0 ∙ c.loop-at-test.true))) (omega (arith, (sym c.read2.ensures.0 ∙ c.loop-at-test.true))),
)

pub loop-at-smaller : goal.loop-at-smaller
loop-at-smaller c =
    (align_child
    c.second_part-p.ensures
    (c.loop-at.invariant c.requires).node
    (sym c.read2.ensures.0 ∙ c.loop-at-test.true)).2

pub loop-at-preserved : goal.loop-at-preserved
loop-at-preserved c =
    λ a. inner
    c.first_part.ensures
    (sym c.read2.ensures.0 ∙ c.loop-at-test.true)
    c.read8.ensures
    (c.loop-at.invariant a)
    c.second_part-p.ensures
    (omega (arith, c.if-read8-gt1.false))

pub returns : goal.returns
returns c =
    λ a. ends_plain c.read2.ensures.0 c.loop-at-test.false (c.loop-at.invariant a)

use mathlib.Core.Path.{◌≡◌, refl}
use native.Mathlib.Omega.{arith}
use native.Mathlib.Numerals.{unary_clauses}
use Prim.Native.Nat.{◌+◌, ◌-◌}
use Rattle.std.specs.Prelude.{Ok, Err}
use Rattle.blocks.specs.Bytes.{le2}
use Rattle.accepted.specs.Accepted.{Accepted}
use Rattle.interpreter_values.proofs.Laws.{kept_none, kept_both}
use Rattle.interpreter_context.proofs.Calls.{bottom}
use Rattle.interpreter_context.proofs.Lists.{arguments_at, ends}
use Rattle.interpreter_leaves.proofs.Nodes.{three_parts}
use Rattle.interpreter_leaves.proofs.Binding.{still, begin, value_at, next_one, found_one, lacking_one, no_more, of_call}
use Rattle.interpreter_leaves.proofs.collect_arguments.Goals.{In-loop}
use Rattle.interpreter_leaves.proofs.collect_arguments.Goals as goal

pub second_part-list-requires : goal.second_part-list-requires
second_part-list-requires c = (
  c.requires.0,
  three_parts _ (omega (arith, c.requires.1)) (omega (arith, c.requires.1)),
)

pub overflow_add-p : goal.overflow_add-p
overflow_add-p c = omega (arith, (arguments_at c.second_part-list.ensures c.requires.0 c.requires.1).inside)

pub read2-end-requires : goal.read2-end-requires
read2-end-requires c = (arguments_at c.second_part-list.ensures c.requires.0 c.requires.1).inside

pub loop-init : goal.loop-init
loop-init c = record { collecting = simp unary_clauses (begin refl); kept = kept_none (bottom c.requires.2.1).1; long = refl }

-- inside the loop, the next argument
next : (c : In-loop) → Accepted c.args.inputs.now.layout.now 164 164 c.loop.p
next c =
    next_one (omega (arith, c.read2-end.ensures.0)) c.loop.invariant.collecting c.requires.2 (arguments_at c.second_part-list.ensures c.requires.0 c.requires.1).list

pub overflow_add-value : goal.overflow_add-value
overflow_add-value c = omega (arith, (value_at refl (next c)).value)

pub overflow_add-p-in-loop : goal.overflow_add-p-in-loop
overflow_add-p-in-loop c = omega (arith, (value_at refl (next (goal.at.overflow_add-p-in-loop c).In-loop)).value)

pub read2-requires : goal.read2-requires
read2-requires c = omega (arith, (value_at refl (next (goal.at.read2-requires c).In-loop)).value)

pub overflow_add-value-in-loop : goal.overflow_add-value-in-loop
overflow_add-value-in-loop c = omega (arith, (value_at c.read2.ensures.0 (next (goal.at.overflow_add-value-in-loop c).In-loop)).value)

pub found-requires : goal.found-requires
found-requires c = (
  (value_at c.read2.ensures.0 (next (goal.at.found-requires c).In-loop)).value,
  (c.requires.2.0, still c.loop.invariant c.requires.3 c.requires.2.1),
)

pub returns-in_default-clause-by_index : goal.returns-in_default-clause-by_index
returns-in_default-clause-by_index c =
    let inv = c.loop.invariant in
    λ γ x a. of_call _ γ (Err _) a (arguments_at c.second_part-list.ensures a c.requires.1)
    (lacking_one
    (omega (arith, c.read2-end.ensures.0))
    inv.collecting
    c.read2.ensures.0
    (λ γ x. c.found.ensures.result_value γ (still inv c.requires.3 x))
    c.in_default.is _ _
    c.missing.ensures γ x
    (arguments_at c.second_part-list.ensures a c.requires.1).list)

pub overflow_add-p-in-loop-2 : goal.overflow_add-p-in-loop-2
overflow_add-p-in-loop-2 c = omega (arith, (ends (next (goal.at.overflow_add-p-in-loop-2 c).In-loop)).0)

pub read4-requires : goal.read4-requires
read4-requires c = omega (arith, (ends (next (goal.at.read4-requires c).In-loop)).0)

pub overflow_add-p-in-loop-3 : goal.overflow_add-p-in-loop-3
overflow_add-p-in-loop-3 c = omega (arith, (ends (next (goal.at.overflow_add-p-in-loop-3 c).In-loop)).1, c.read4.ensures.0)

pub loop-preserved : goal.loop-preserved
loop-preserved c =
    let inv = c.loop.invariant in
    let n : le2 c.args.inputs.now.layout.now c.second_part-list.result - (c.loop.counter + 1) ≡ le2 c.args.inputs.now.layout.now c.second_part-list.result - c.loop.counter - 1 = omega arith in
    record {
      collecting = rw n
          (found_one
          (omega (arith, c.read2-end.ensures.0))
          inv.collecting
          c.read2.ensures.0
          (λ γ x. c.found.ensures.result_value γ (still inv c.requires.3 x))
          c.in-Some.is
          c.read4.ensures.0);
      kept = kept_both inv.kept c.found.ensures.kept;
      long = omega (arith, inv.long);
    }

pub returns-clause-by_index : goal.returns-clause-by_index
returns-clause-by_index c =
    λ γ x a. of_call _ γ (Ok tt) a (arguments_at c.second_part-list.ensures a c.requires.1)
    (no_more
    (omega (arith, c.read2-end.ensures.0))
    c.loop.invariant.collecting _ γ x
    (arguments_at c.second_part-list.ensures a c.requires.1).list)

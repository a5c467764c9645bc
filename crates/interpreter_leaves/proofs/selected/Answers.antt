use mathlib.Core.Path.{◌≡◌, refl, sym, ◌∙◌}
use Prim.Native.Nat.{◌+◌, ◌-◌}
use Rattle.blocks.specs.Bytes.{le2}
use Rattle.value.specs.Number.{number_of}
use native.Mathlib.Omega.{arith}
use native.Mathlib.Numerals.{unary_clauses}
use Rattle.interpreter_leaves.proofs.Nodes.{three_parts}
use Rattle.accepted.specs.Accepted.{Accepted}
use Rattle.interpreter_leaves.proofs.Cases.{IsCase, begin, switch_at, next_case, another, hit, ended, switch_long, Default, default_at, flag_in, default_given, default_absent}
use Rattle.interpreter_leaves.proofs.selected.Goals.{In-loop, After-third_part-d}
use Rattle.interpreter_leaves.proofs.selected.Goals as goal

pub second_part-list-requires : goal.second_part-list-requires
second_part-list-requires c = (
  c.requires.0,
  three_parts _ (omega (arith, c.requires.1)) (omega (arith, c.requires.1)),
)

pub overflow_add-p : goal.overflow_add-p
overflow_add-p c = omega (arith, (switch_at c.second_part-list.ensures c.requires.0 c.requires.1).inside)

pub read2-end-requires : goal.read2-end-requires
read2-end-requires c = (switch_at c.second_part-list.ensures c.requires.0 c.requires.1).inside

pub loop-init : goal.loop-init
loop-init c = simp unary_clauses (begin _ refl)

-- inside the loop, the next case
next : (c : In-loop) → (k : Accepted c.args.s.now 163 163 c.loop.p) × IsCase k
next c = next_case (omega (arith, c.read2-end.ensures.0)) c.loop.invariant (switch_at c.second_part-list.ensures c.requires.0 c.requires.1).list

pub overflow_add-p-in-loop : goal.overflow_add-p-in-loop
overflow_add-p-in-loop c = omega (arith, (next c).1.inside)

pub read8-requires : goal.read8-requires
read8-requires c = omega (arith, (next (goal.at.read8-requires c).In-loop).1.inside)

pub overflow_add-result : goal.overflow_add-result
overflow_add-result c = omega (arith, (next (goal.at.overflow_add-result c).In-loop).1.inside)

pub returns-then-read8-wanted : goal.returns-then-read8-wanted
returns-then-read8-wanted c =
    λ a. hit refl refl
    (omega (arith, c.read2-end.ensures.0))
    c.read8.ensures
    (c.if-read8-wanted.true ∙ c.low-wanted.ensures)
    c.loop.invariant a
    (switch_at c.second_part-list.ensures a c.requires.1)

pub overflow_add-p-in-loop-2 : goal.overflow_add-p-in-loop-2
overflow_add-p-in-loop-2 c = omega (arith, (next (goal.at.overflow_add-p-in-loop-2 c).In-loop).1.inside)

pub read4-requires : goal.read4-requires
read4-requires c = omega (arith, (next (goal.at.read4-requires c).In-loop).1.inside)

pub overflow_add-p-in-loop-3 : goal.overflow_add-p-in-loop-3
overflow_add-p-in-loop-3 c = omega (arith, (next (goal.at.overflow_add-p-in-loop-3 c).In-loop).1.next, c.read4.ensures.0)

pub loop-preserved : goal.loop-preserved
loop-preserved c =
    let n : le2 c.args.s.now c.second_part-list.result - (c.loop.counter + 1) ≡ le2 c.args.s.now c.second_part-list.result - c.loop.counter - 1 = omega arith in
    rw n (another (omega (arith, c.read2-end.ensures.0)) c.read8.ensures (λ e. c.if-read8-wanted.false (e ∙ sym c.low-wanted.ensures)) c.read4.ensures.0 c.loop.invariant)

pub third_part-d-requires : goal.third_part-d-requires
third_part-d-requires c = (c.requires.0, switch_long c.requires.1)

-- behind the loop, the default of the node, whatever accepted it
default : (c : After-third_part-d) (a : Accepted c.args.s.now 128 144 c.args.at) → Default a (number_of c.args.tag) c.third_part-d.result
default c a =
    default_at
    c.third_part-d.ensures a
    c.requires.1
    (ended (omega (arith, c.read2-end.ensures.0)) c.loop.invariant a (switch_at c.second_part-list.ensures a c.requires.1))

pub bounds-s-d : goal.bounds-s-d
bounds-s-d c = omega (arith, flag_in (default (goal.at.bounds-s-d c).After-third_part-d c.requires.0))

pub returns-then-s-d-eq1 : goal.returns-then-s-d-eq1
returns-then-s-d-eq1 c = λ a. default_given (default (goal.at.returns-then-s-d-eq1 c).After-third_part-d a) c.if-s-d-eq1.true

pub returns-else-s-d-eq1 : goal.returns-else-s-d-eq1
returns-else-s-d-eq1 c = λ a. default_absent (default (goal.at.returns-else-s-d-eq1 c).After-third_part-d a) c.if-s-d-eq1.false

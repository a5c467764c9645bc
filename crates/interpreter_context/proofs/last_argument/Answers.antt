-- `last_argument` meets its contract.
use Rattle.std.proofs.Common.{arith}
use Rattle.interpreter_context.proofs.Lists.{begin, next_one, go_on, arguments_at, has_three, last_of, ends}
use Rattle.interpreter_context.proofs.last_argument.Goals as goal

pub second_part-list-requires : goal.second_part-list-requires
second_part-list-requires c = (c.requires.0, has_three _ c.requires.1)

pub overflow_add-at : goal.overflow_add-at
overflow_add-at c = omega (arith, (arguments_at c.second_part-list.ensures c.requires.0 c.requires.1).inside)

pub read2-end-requires : goal.read2-end-requires
read2-end-requires c = (arguments_at c.second_part-list.ensures c.requires.0 c.requires.1).inside

pub loop-init : goal.loop-init
loop-init c = begin

pub later-last-requires : goal.later-last-requires
later-last-requires c =
    next_one (omega arith) c.loop.invariant (arguments_at c.second_part-list.ensures c.requires.0 c.requires.1).list

pub overflow_add-at-in-loop : goal.overflow_add-at-in-loop
overflow_add-at-in-loop c =
    let next = next_one (omega arith) c.loop.invariant (arguments_at c.second_part-list.ensures c.requires.0 c.requires.1).list in
    omega (arith, (ends next).0)

pub read4-requires : goal.read4-requires
read4-requires c =
    let next = next_one (omega arith) c.loop.invariant (arguments_at c.second_part-list.ensures c.requires.0 c.requires.1).list in
    omega (arith, (ends next).0)

pub overflow_add-at-in-loop-2 : goal.overflow_add-at-in-loop-2
overflow_add-at-in-loop-2 c =
    let next = next_one (omega arith) c.loop.invariant (arguments_at c.second_part-list.ensures c.requires.0 c.requires.1).list in
    omega (arith, (ends next).1, c.read4.ensures.0)

pub loop-preserved : goal.loop-preserved
loop-preserved c = go_on (omega arith) c.later-last.ensures c.read4.ensures.0 c.loop.invariant

pub returns : goal.returns
returns c = last_of (omega arith) c.second_part-list.ensures c.requires.1 c.loop.invariant

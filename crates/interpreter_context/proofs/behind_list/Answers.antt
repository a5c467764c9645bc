-- `behind_list` meets its contract.
use Rattle.std.proofs.Common.{arith}
use Rattle.interpreter_context.proofs.Laws.{none_passed, one_passed, count_in, next_in, all_passed}
use Rattle.interpreter_context.proofs.behind_list.Goals as goal

pub overflow_add-q : goal.overflow_add-q
overflow_add-q c = omega (arith, count_in c.requires.2 c.requires.3)

pub read2-end-requires : goal.read2-end-requires
read2-end-requires c = count_in c.requires.2 c.requires.3

pub loop-init : goal.loop-init
loop-init c = none_passed

pub overflow_add-q-in-loop : goal.overflow_add-q-in-loop
overflow_add-q-in-loop c = omega (arith, (next_in c.requires.2 c.requires.3 (omega arith) c.loop.invariant).0)

pub read4-requires : goal.read4-requires
read4-requires c = (next_in c.requires.2 c.requires.3 (omega arith) c.loop.invariant).0

pub overflow_add-q-in-loop-2 : goal.overflow_add-q-in-loop-2
overflow_add-q-in-loop-2 c = omega (arith, (next_in c.requires.2 c.requires.3 (omega arith) c.loop.invariant).1, c.read4.ensures.0)

pub loop-preserved : goal.loop-preserved
loop-preserved c = one_passed (omega arith) c.read4.ensures.0 c.loop.invariant

pub returns : goal.returns
returns c = λ p ps x h. all_passed h x (omega arith) c.loop.invariant

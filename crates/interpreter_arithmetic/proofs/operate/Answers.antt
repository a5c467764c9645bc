-- `operate` gives what the operation of the node's kind gives.
use Rattle.std.proofs.Common.{◌≡◌, arith, ap}
use Rattle.ir.specs.Layout.{operations}
use Rattle.interpreter.specs.Arithmetic.{value, checked_add, checked_sub, checked_mul, checked_div, checked_mod}
use Rattle.interpreter.specs.Arithmetic.{operate as operation}
use Rattle.interpreter_arithmetic.proofs.Laws.{given_exact, given_least, given_divided}
use Rattle.interpreter_arithmetic.proofs.operate.Goals as goal

pub returns-in-134 : goal.returns-in-134
unfolding operations operation checked_add
returns-in-134 c =
    rw (c.in-134.is, ← c.low-left.ensures, ← c.low-right.ensures) (given_exact c.checked_add.result _ c.checked_add.ensures c.given.ensures)

pub returns-in-135 : goal.returns-in-135
unfolding operations operation checked_sub
returns-in-135 c =
    rw (c.in-135.is, ← c.low-left.ensures, ← c.low-right.ensures)
    (given_least c.checked_sub.result _ _ _ c.checked_sub.ensures c.given-in-135.ensures)

pub returns-in-136 : goal.returns-in-136
unfolding operations operation checked_mul
returns-in-136 c =
    rw (c.in-136.is, ← c.low-left.ensures, ← c.low-right.ensures)
    (given_exact c.checked_mul.result _ c.checked_mul.ensures c.given-in-136.ensures)

pub returns-in-137 : goal.returns-in-137
unfolding operations operation checked_div
returns-in-137 c =
    rw (c.in-137.is, ← c.low-left.ensures, ← c.low-right.ensures)
    (given_divided c.checked_div.result _ _ c.checked_div.ensures c.given-in-137.ensures)

pub returns-in-138 : goal.returns-in-138
unfolding operations operation checked_mod
returns-in-138 c =
    rw (c.in-138.is, ← c.low-left.ensures, ← c.low-right.ensures)
    (given_divided c.checked_rem.result _ _ c.checked_rem.ensures c.given-in-138.ensures)

pub returns-in-139 : goal.returns-in-139
unfolding operations operation
returns-in-139 c = rw (c.in-139.is, ← c.low-left.ensures, ← c.low-right.ensures) (ap value c.of.ensures)

pub returns-in-140 : goal.returns-in-140
unfolding operations operation
returns-in-140 c = rw (c.in-140.is, ← c.low-left.ensures, ← c.low-right.ensures) (ap value c.of-in-140.ensures)

pub returns-in-141 : goal.returns-in-141
unfolding operations operation
returns-in-141 c = rw (c.in-141.is, ← c.low-left.ensures, ← c.low-right.ensures) (ap value c.of-in-141.ensures)

pub returns-in-142 : goal.returns-in-142
unfolding operations operation
returns-in-142 c = rw (c.in-142.is, ← c.low-left.ensures, ← c.low-right.ensures) c.checked_left_shift.ensures

pub returns-in_default : goal.returns-in_default
unfolding operations operation
returns-in_default c =
    let e : c.args.kind ≡ 143 = omega arith in
    rw (e, ← c.low-left.ensures, ← c.low-right.ensures) c.checked_right_shift.ensures

-- `checked_right_shift` gives the quotient by a power of 2, which is 0 from 64 on, and 23 for 128 and above.
use borrow.Author.Tests.{le-leb, lt-leb}
use Rattle.interpreter.specs.Arithmetic.{checked_right_shift}
use Rattle.interpreter.proofs.Arithmetic.{shift_out}
use Rattle.interpreter_arithmetic.proofs.checked_right_shift.Goals as goal

pub returns-then-right-ge128 : goal.returns-then-right-ge128
unfolding checked_right_shift
returns-then-right-ge128 c = rw (le-leb _ _ c.if-right-ge128.true)

pub returns-then-right-ge64 : goal.returns-then-right-ge64
unfolding checked_right_shift
returns-then-right-ge64 c = rw (
  lt-leb _ _ c.if-right-ge128.false,
  c.of.ensures,
  shift_out 64 _ _ c.ranges.left.fits c.if-right-ge64.true,
)

pub returns-else-right-ge64 : goal.returns-else-right-ge64
unfolding checked_right_shift
returns-else-right-ge64 c = rw (lt-leb _ _ c.if-right-ge128.false, c.of-else-right-ge64.ensures)

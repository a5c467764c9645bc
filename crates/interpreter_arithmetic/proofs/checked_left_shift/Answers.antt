-- `checked_left_shift` gives the exact product by a power of 2, 26 where it is 2^64 or more, 23 for 128 and above.
use Prim.Native.Nat.{◌^◌}
use native.Mathlib.Omega.{arith}
use native.Mathlib.Nat.{pos_of_ne-zero, zero-mul, mod-eq_of_lt}
use borrow.Author.Tests.{le-leb, lt-leb}
use lib.Pow.{pow_pos}
use Rattle.interpreter.specs.Arithmetic.{checked_left_shift}
use Rattle.interpreter.proofs.Arithmetic.{product_in, product_over, shift_over, exact_in, exact_over}
use Rattle.interpreter_arithmetic.proofs.checked_left_shift.Goals as goal

pub returns-then-right-ge128 : goal.returns-then-right-ge128
unfolding checked_left_shift
returns-then-right-ge128 c = rw (le-leb _ _ c.if-right-ge128.true)

pub returns-then-left-eq0 : goal.returns-then-left-eq0
unfolding checked_left_shift
returns-then-left-eq0 c = rw (lt-leb _ _ c.if-right-ge128.false, c.if-left-eq0.true, zero-mul, c.of.ensures)

pub returns-then-right-ge64 : goal.returns-then-right-ge64
unfolding checked_left_shift
returns-then-right-ge64 c = rw (
  lt-leb _ _ c.if-right-ge128.false,
  exact_over 64 _ (shift_over 64 _ _ (pos_of_ne-zero c.if-left-eq0.false) c.if-right-ge64.true),
)

pub returns-then-left-right : goal.returns-then-left-right
unfolding checked_left_shift
returns-then-left-right c =
    let h = product_in (2 ^ 64) _ _ (omega arith) (pow_pos c.args.right) c.if-left-right.true in
    rw (lt-leb _ _ c.if-right-ge128.false, exact_in 64 _ h, c.of-then-left-right.ensures, mod-eq_of_lt h)

pub returns-else-left-right : goal.returns-else-left-right
unfolding checked_left_shift
returns-else-left-right c =
    rw (
      lt-leb _ _ c.if-right-ge128.false,
      exact_over 64 _ (product_over _ _ _ (pow_pos c.args.right) c.if-left-right.false),
    )

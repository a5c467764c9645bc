-- interpreter.rs, arithmetic: the exact result over the natural numbers, or the number of the refusal.
use Rattle.std.specs.Prelude.{ℕ, ◌+◌, ◌-◌, ◌*◌, ◌/◌, ◌%◌, ◌^◌, ◌||◌, cond, ltb, leb, eqb}
use Rattle.std.specs.Int.Bits.{bit_and, bit_or, bit_xor}
use Rattle.errors.specs.Refusal.{ArithmeticOverflow}
use Rattle.ir.specs.Ir.{BinaryOp}

pub data Result : Type 0 where
  value : ℕ → Result
  fault : ℕ → Result

-- the numbers of document 01: "below 2^64"
abbrev pub bits : ℕ
bits = 64

-- 26: "is each exact result below 2^64?", for numbers of w bits
abbrev pub exact : ℕ → ℕ → Result
exact w n = cond (ltb n (2 ^ w)) (value n) (fault 26)

-- "Add, multiply and align beyond 64 bits give 26. Below zero, and a zero divisor, give 23."
unfoldable pub checked_add : ℕ → ℕ → ℕ → Result
checked_add w a b = exact w (a + b)

unfoldable pub checked_sub : ℕ → ℕ → Result
checked_sub a b = cond (leb b a) (value (a - b)) (fault ArithmeticOverflow)

unfoldable pub checked_mul : ℕ → ℕ → ℕ → Result
checked_mul w a b = exact w (a * b)

unfoldable pub checked_div : ℕ → ℕ → Result
checked_div a b = cond (eqb b 0) (fault ArithmeticOverflow) (value (a / b))

unfoldable pub checked_mod : ℕ → ℕ → Result
checked_mod a b = cond (eqb b 0) (fault ArithmeticOverflow) (value (a % b))

-- "Shifts by 128 or more give 23. [..] Left shift is the exact product"
unfoldable pub checked_left_shift : ℕ → ℕ → ℕ → Result
checked_left_shift w a b = cond (leb 128 b) (fault ArithmeticOverflow) (exact w (a * 2 ^ b))

-- "Right shift by 64 to 127 gives 0."
unfoldable pub checked_right_shift : ℕ → ℕ → Result
checked_right_shift a b = cond (leb 128 b) (fault ArithmeticOverflow) (value (a / 2 ^ b))

-- `align_up`
unfoldable pub align_up : ℕ → ℕ → ℕ → Result
align_up w v a = cond (leb a 1 || eqb (v % a) 0) (value v) (exact w (v + (a - v % a)))

-- "And, or and exclusive or act on the 64 bits."
unfoldable pub operate : ℕ → BinaryOp → ℕ → ℕ → Result
operate w BinaryOp.AddChecked a b = checked_add w a b
operate w BinaryOp.SubChecked a b = checked_sub a b
operate w BinaryOp.MulChecked a b = checked_mul w a b
operate w BinaryOp.DivChecked a b = checked_div a b
operate w BinaryOp.ModChecked a b = checked_mod a b
operate w BinaryOp.BitAnd a b = value (bit_and a b)
operate w BinaryOp.BitOr a b = value (bit_or a b)
operate w BinaryOp.BitXor a b = value (bit_xor a b)
operate w BinaryOp.LeftShift a b = checked_left_shift w a b
operate w BinaryOp.RightShift a b = checked_right_shift a b

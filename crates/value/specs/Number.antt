-- The number that a value stands for.
use Rattle.std.specs.Prelude.{ℕ}
use Rattle.value.specs.declared.Value.{Value}

unfoldable pub number_of : Value → ℕ
number_of v = v.low

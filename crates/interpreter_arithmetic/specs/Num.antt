-- What each answer of the code says: the value, or document 01's number of the refusal, 23 or 26.
use Rattle.std.specs.Prelude.{Result, Ok, Err}
use Rattle.errors.specs.declared.Reason.{Reason}
use Rattle.errors.specs.Meaning.{number_of}
use Rattle.value.specs.declared.Value.{Value}
use Rattle.value.specs.Number.{number_of as value_of}
use Rattle.interpreter.specs.Arithmetic.{value, fault}
use Rattle.interpreter.specs.Arithmetic as definition

abbrev pub result_of : Result Value Reason → definition.Result
result_of (Ok v) = value (value_of v)
result_of (Err r) = fault (number_of r)

-- What the code's refusals and answers say in document 01's terms.
use Rattle.std.specs.Prelude.{ℕ, Result, Ok, Err}
use Rattle.value.specs.declared.Value.{Value}
use Rattle.value.specs.Number.{number_of as value_of}
use Rattle.errors.specs.Refusal.{Outcome, done, refused}
use Rattle.errors.specs.Refusal as definition
use Rattle.errors.specs.declared.Reason.{Reason}
use Rattle.errors.specs.declared.Reason.TheVariants as reason
use Rattle.errors.specs.declared.Refusal.{Refusal}

-- "Questions in order": each reason is the number of the question that was answered "no".
abbrev pub number_of : Reason → ℕ
number_of reason.InputTooLong = 1
number_of reason.Malformed = 2
number_of reason.NotText = 3
number_of reason.TooMany = 4
number_of reason.OutOfRange = 5
number_of reason.Unordered = 6
number_of reason.UnsupportedSize = definition.UnsupportedSize
number_of reason.MissingDynamicRefs = definition.MissingDynamicRefs
number_of reason.MissingParameter = definition.MissingParameter
number_of reason.UnsupportedArrayElement = definition.UnsupportedArrayElement
number_of reason.UnsupportedExpression = definition.UnsupportedExpression
number_of reason.MissingType = definition.MissingType
number_of reason.OffsetTooLarge = 16
number_of reason.LimitExceeded = 17
number_of reason.OutputTooSmall = 18
number_of reason.TooFewWords = 19
number_of reason.UnknownType = definition.UnknownType
number_of reason.MissingIrParameter = definition.MissingIrParameter
number_of reason.InvalidTagValue = definition.InvalidTagValue
number_of reason.ArithmeticOverflow = definition.ArithmeticOverflow
number_of reason.UnsupportedOperation = definition.UnsupportedOperation
number_of reason.BufferTooSmall = definition.BufferTooSmall
number_of reason.ResultTooLarge = 26
number_of reason.TooManyCalls = 27

-- "A refusal gives number, type place in the set or layout (65,535 if none), offset and value."
unfoldable pub refusal_of : Refusal → definition.Refusal
refusal_of r = record { number = number_of r.reason; place = r.place; offset = r.offset; value = value_of r.value }

-- a count, or a refusal
abbrev pub outcome_of : Result Value Refusal → Outcome ℕ
outcome_of (Ok n) = done (value_of n)
outcome_of (Err r) = refused (refusal_of r)

-- a length, or a refusal
abbrev pub length_of : Result ℕ Refusal → Outcome ℕ
length_of (Ok n) = done n
length_of (Err r) = refused (refusal_of r)

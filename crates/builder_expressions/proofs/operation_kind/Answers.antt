-- The kinds 68 to 72 and 74 to 78 have an operation, the others none.
use native.Mathlib.Omega.{arith}
use Rattle.builder_expressions.specs.Operation.{Operates}
use Rattle.builder_expressions.proofs.Laws.{low_operates, high_operates, none_low, none_between, none_high}
use Rattle.builder_expressions.proofs.operation_kind.Goals as goal

pub returns-in-68-to-72 : goal.returns-in-68-to-72
returns-in-68-to-72 c = low_operates (omega arith) (omega arith)

pub returns-in-74-to-78 : goal.returns-in-74-to-78
returns-in-74-to-78 c = high_operates (omega arith) (omega arith)

pub returns-in_default : goal.returns-in_default
returns-in_default c = Operates.other (none_low (omega arith))

pub returns-in_default-2 : goal.returns-in_default-2
returns-in_default-2 c = Operates.other (none_between (omega arith) (omega arith))

pub returns-in_default-3 : goal.returns-in_default-3
returns-in_default-3 c = Operates.other (none_high (omega arith))

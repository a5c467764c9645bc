-- `low`: all of the number.
use mathlib.Core.Path.{refl}
use Rattle.value.specs.Number.{number_of}
use Rattle.value.proofs.Value.low.Goals as goal

pub returns : goal.returns
unfolding number_of
returns c = refl

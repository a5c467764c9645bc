-- `at_most`: the whole number is compared.
use mathlib.Core.Path.{refl}
use Rattle.value.specs.Number.{number_of}
use Rattle.value.proofs.Value.at_most.Goals as goal

pub returns : goal.returns
unfolding number_of
returns c = refl

-- `of`: the number is kept.
use mathlib.Core.Path.{refl}
use Rattle.value.specs.Number.{number_of}
use Rattle.value.proofs.Value.of.Goals as goal

pub returns : goal.returns
unfolding number_of
returns c = refl

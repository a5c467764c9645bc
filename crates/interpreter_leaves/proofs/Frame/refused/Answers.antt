use mathlib.Core.Path.{refl}
use Rattle.errors.specs.Meaning.{refusal_of}
use Rattle.interpreter_leaves.proofs.Frame.refused.Goals as goal

pub returns : goal.returns
unfolding refusal_of
returns c = refl

-- `fitting` meets its contract: a count above the buffer length is a 25.
use mathlib.Core.Path.{sym, ◌∙◌}
use Rattle.errors.specs.Meaning.{refusal_of}
use Rattle.interpreter_validate.proofs.fitting.Goals as goal

pub returns : goal.returns
unfolding refusal_of
returns c = rw (sym c.at_most.ensures ∙ c.if-at_most.false)

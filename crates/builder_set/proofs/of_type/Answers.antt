-- The refusal's number is its reason's; it has no offset and no value.
use Rattle.errors.specs.Meaning.{refusal_of}
use Rattle.builder_set.proofs.of_type.Goals as goal

pub returns : goal.returns
unfolding refusal_of
returns c = rw c.of.ensures

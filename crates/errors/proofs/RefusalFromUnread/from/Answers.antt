-- No place, and the value 0.
use Rattle.errors.specs.Meaning.{refusal_of}
use Rattle.errors.proofs.RefusalFromUnread.from.Goals as goal

pub returns : goal.returns
unfolding refusal_of
returns c = rw c.of.ensures

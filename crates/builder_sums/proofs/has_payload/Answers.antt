-- There is such a path if their count is not 0.
use Rattle.builder_sums.proofs.Chosen.{payload_is}
use Rattle.builder_sums.proofs.has_payload.Goals as goal

pub returns : goal.returns
returns c = λ p. payload_is c.count.ensures.0 p

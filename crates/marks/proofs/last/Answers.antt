-- The walk begins at the last slot of the mark's place.
use Rattle.marks.proofs.Walks.{first, chain_first, prior_last}
use Rattle.marks.proofs.last.Goals as goal

pub reach-requires : goal.reach-requires
reach-requires c = chain_first c.args.mark c.requires

pub returns : goal.returns
returns c = λ t. prior_last c.ranges.mark.fits (first c.args.mark t) (c.reach.ensures (chain_first c.args.mark t))

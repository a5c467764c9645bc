-- The walk goes on at the slot's link.
use Rattle.marks.proofs.Walks.{chain_link, prior_link}
use Rattle.marks.proofs.before.Goals as goal

pub reach-requires : goal.reach-requires
reach-requires c = chain_link c.ranges.mark.fits c.requires.0 c.requires.1

pub returns : goal.returns
returns c = λ a.
    prior_link c.ranges.mark.fits c.requires.0 a (c.reach.ensures (chain_link c.ranges.mark.fits c.requires.0 a))

-- The chosen paths are counted; of none there is no sum, else `put_sum` writes the sum of all of them.
use Rattle.builder_sums.proofs.Sums.{sum_none, sum_all}
use Rattle.builder_sums.proofs.sum_refs.Goals as goal

pub returns-then-k-eq0-clause-builds : goal.returns-then-k-eq0-clause-builds
returns-then-k-eq0-clause-builds c = λ p. sum_none _ c.args.only _ c.count-k.ensures.0 c.if-k-eq0.true p

pub returns-clause-builds : goal.returns-clause-builds
returns-clause-builds c = λ p. sum_all _ c.args.only _ _ c.count-k.ensures.0 c.put_sum.ensures.builds p

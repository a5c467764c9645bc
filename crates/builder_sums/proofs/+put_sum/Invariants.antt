use Rattle.builder_sums.proofs.+put_sum.Given as goal

abbrev pub decreases-put_sum : goal.decreases-put_sum
decreases-put_sum l = l.k

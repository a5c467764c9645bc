-- Each call makes one node less.
use Rattle.builder_structs.proofs.+sum.Given as goal

abbrev pub decreases-sum : goal.decreases-sum
decreases-sum l = l.k

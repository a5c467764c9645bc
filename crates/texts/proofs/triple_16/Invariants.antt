-- Where `all` holds, the bytes behind those from `at` to k go with them.
use Rattle.std.proofs.Common.{◌≡◌, true}
use Rattle.texts.specs.Triples.{Tripled}
use Rattle.texts.proofs.triple_16.Given as goal

abbrev pub invariant-loop-k : goal.invariant-loop-k
invariant-loop-k l = l.all ≡ true → Tripled l.s l.at l.k

-- Where `all` holds, the bytes from `at` to k are clear.
use Rattle.std.proofs.Common.{◌≡◌, true}
use Rattle.texts.specs.Clear.{Clear}
use Rattle.texts.proofs.clear.Given as goal

abbrev pub invariant-loop-k : goal.invariant-loop-k
invariant-loop-k g l = l.all ≡ true → Clear l.s l.at l.k

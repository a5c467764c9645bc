-- The bytes before k are written.
use Rattle.std.proofs.Common.{◌≡◌, take}
use Rattle.wire.specs.Poke.{poke}
use Rattle.wire.proofs.put_from.Given as goal

abbrev pub invariant-loop-k : goal.invariant-loop-k
invariant-loop-k l = l.out ≡ poke l.initial.out l.at (take l.k l.rest)

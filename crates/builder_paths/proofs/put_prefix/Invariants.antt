-- `put_prefix` meets its contract. The invariant: the prefix of as many arrays as there were turns has been written.
use mathlib.Core.Path.{◌≡◌}
use Prim.Native.Nat.{◌*◌}
use Rattle.wire.specs.Poke.{Wrote}
use Rattle.builder_paths.specs.Joined.{prefix_of}
use Rattle.builder_paths.proofs.put_prefix.Given as goal

abbrev pub invariant-loop : goal.invariant-loop
invariant-loop l = Wrote l.initial.out 0 (prefix_of l.counter) l.out l.p × (l.p ≡ 8 * l.counter)

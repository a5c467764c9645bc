-- The loop's invariant: the path that is sought is number j of the chosen ones that are left.
use Prim.Native.Nat.{◌-◌}
use Rattle.blocks.specs.Bytes.{le2}
use Rattle.builder_sums.proofs.Chosen.{Seeking}
use Rattle.builder_sums.proofs.PathChoice.nth.Given as goal

abbrev pub invariant-loop : goal.invariant-loop
invariant-loop l = Seeking l.s l.self.only l.self.paths l.i (le2 l.s l.self.paths - l.counter) l.q l.j

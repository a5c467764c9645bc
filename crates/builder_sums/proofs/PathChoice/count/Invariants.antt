-- The loop's invariant: the chosen paths are those that were counted and those among the paths that are left.
use Prim.Native.Nat.{◌-◌}
use Rattle.blocks.specs.Bytes.{le2}
use Rattle.builder_sums.proofs.Chosen.{Counting}
use Rattle.builder_sums.proofs.PathChoice.count.Given as goal

abbrev pub invariant-loop : goal.invariant-loop
invariant-loop l = Counting l.s l.self.only l.self.paths (le2 l.s l.self.paths - l.counter) l.q l.m

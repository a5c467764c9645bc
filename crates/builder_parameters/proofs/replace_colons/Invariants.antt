-- `replace_colons`: one pass over the bytes. The loop's invariant: whatever writes what is left, with `::` read as `.`, makes the whole write.
use mathlib.Core.List.{List}
use Prim.Native.Nat.{ℕ, ◌+◌, ◌≤◌}
use lib.ListN.{length}
use Rattle.builder.specs.Names.{replace_colons}
use Rattle.wire.specs.Poke.{Wrote}
use Rattle.builder_parameters.proofs.replace_colons.Given as goal

abbrev pub invariant-loop-first : goal.invariant-loop-first
invariant-loop-first l =
    (l.p + length l.rest ≤ length l.name) ×
    ((zs : List ℕ) (r : ℕ) → Wrote l.out l.p (replace_colons l.rest) zs r → Wrote l.initial.out 0 (replace_colons l.name) zs r)

abbrev pub decreases-loop-first : goal.decreases-loop-first
decreases-loop-first l = length l.rest

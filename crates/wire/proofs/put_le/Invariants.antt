-- Whatever writes the bytes that are left makes the whole write.
use Rattle.std.proofs.Common.{ℕ, ◌≡◌, ◌+◌, ◌-◌, List, length}
use Rattle.blocks.specs.Bytes.{bytes}
use Rattle.wire.specs.Poke.{Wrote}
use Rattle.wire.proofs.put_le.Given as goal

abbrev pub invariant-loop-i : goal.invariant-loop-i
invariant-loop-i l =
    (length l.out ≡ length l.initial.out) ×
    ((zs : List ℕ) (r : ℕ) → Wrote l.out (l.at + l.i) (bytes (l.k - l.i) l.rest) zs r → Wrote l.initial.out l.at (bytes l.k l.v) zs r)

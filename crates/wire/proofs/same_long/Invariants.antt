-- The names are alike from i on.
use Rattle.std.proofs.Common.{◌+◌, ◌≤◌, length}
use Rattle.wire.proofs.Names.{AlikeFrom}
use Rattle.wire.proofs.same_long.Given as goal

abbrev pub invariant-loop-i : goal.invariant-loop-i
invariant-loop-i l = record { within : l.i + 8 ≤ length l.a; alike : AlikeFrom l.a l.b l.i }

abbrev pub decreases-loop-i : goal.decreases-loop-i
decreases-loop-i l = l.i

-- A part of a part of the buffer. Assumes nothing.
use mathlib.Core.Path.{◌≡◌}
use mathlib.Core.List.{List}
use Prim.Native.Nat.{ℕ, ◌+◌, ◌≤◌}
use lib.ListN.{length, take, drop}
use lib.Seq.{take-add, drop_at, length-take-le}

-- a part of a part
pub drop_part : (u k : ℕ) (xs : List ℕ) → u ≤ length xs → drop u (take (u + k) xs) ≡ take k (drop u xs)
drop_part u k xs h = rw (take-add u k xs) (drop_at (take u xs) (take k (drop u xs)) u (length-take-le u xs h))

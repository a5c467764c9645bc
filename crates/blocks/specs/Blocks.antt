-- Blocks that stand one behind the other and begin with a name each, by their bytes alone. No part of the definition: the
-- contracts of what searches them cite it.
use Rattle.std.specs.Prelude.{ℕ, zero, suc, ◌+◌, ◌≤◌, ◌<◌, ◌≡◌, false, List, length}
use Rattle.blocks.specs.Bytes.{le2, le4, name_at}
use Rattle.blocks.specs.Name.{Name, same}

-- the name at an offset lies inside the bytes
abbrev pub NameIn : List ℕ → ℕ → Type 0
NameIn s at = at + 2 + le2 s at ≤ length s

-- the offset of block k of those from an offset on
unfoldable pub block_at : List ℕ → ℕ → ℕ → ℕ
block_at s first zero = first
block_at s first (suc k) = block_at s first k + 4 + le4 s (block_at s first k)

-- the names with which n of them begin lie inside the bytes
unfoldable pub Stand : List ℕ → ℕ → ℕ → Type 0
Stand s first n = (k : ℕ) → k < n → NameIn s (block_at s first k + 6)

-- k blocks from an offset on, none of which begins with the name; q is the offset behind them
pub data Passed (s : List ℕ) (n : Name) : ℕ → ℕ → ℕ → Type 0 where
  none : {at : ℕ} → Passed s n at 0 at
  one : {at k q : ℕ} → same n (name_at s (at + 6)) ≡ false → Passed s n (at + 4 + le4 s at) k q → Passed s n at (suc k) q

-- The place of a block in the list with which an outermost block begins.
use Rattle.std.specs.Prelude.{ℕ, ◌<◌, ◌≡◌, List}
use Rattle.blocks.specs.Bytes.{le2}
use Rattle.blocks.specs.Blocks.{block_at}

-- the block at an offset has a place in that list
abbrev pub Placed : List ℕ → ℕ → ℕ → Type 0
Placed s i o = (i < le2 s 6) × (o ≡ block_at s 8 i)

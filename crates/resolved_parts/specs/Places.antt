-- Where the first parts of a block stand.
use Rattle.std.specs.Prelude.{ℕ, ◌+◌, cond, List, eqb, get_or}
use Rattle.blocks.specs.Bytes.{le2, le4}

-- behind the name that the block at an offset begins with
abbrev pub name_end : List ℕ → ℕ → ℕ
name_end s at = at + 6 + 2 + le2 s (at + 6)

-- the alignment of a type, behind its size
unfoldable pub alignment_at : List ℕ → ℕ → ℕ
alignment_at s at = cond (eqb (get_or s (name_end s at) 0) 0) (name_end s at + 1 + 8) (name_end s at + 1)

-- behind what every type begins with
unfoldable pub head_end : List ℕ → ℕ → ℕ
head_end s at = alignment_at s at + 8 + 4 + le4 s (alignment_at s at + 8)

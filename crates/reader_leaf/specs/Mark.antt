-- The marks of the names with which blocks begin.
use Rattle.std.specs.Prelude.{ℕ, ◌+◌, List}
use Rattle.blocks.specs.Bytes.{name_at}
use Rattle.blocks.specs.Blocks.{block_at}
use Rattle.name_marks.specs.Mark.{mark_of}

-- the mark of the name with which block k begins
unfoldable pub mark_in : List ℕ → ℕ → ℕ → ℕ → ℕ
mark_in s apart first k = mark_of apart (name_at s (block_at s first k + 6))

-- What evaluating remembers of the root's values, in the working words behind the sixteen of the open calls: word 16 has how
-- many names were asked for, up to 4, and from then on how many entries are in the index besides, which stands from word 17 on.
use Rattle.std.specs.Prelude.{ℕ, ◌+◌, ◌-◌, ◌≤◌, ◌<◌, ◌≡◌, List, length, get_or, take, drop}
use Rattle.blocks.specs.Bytes.{le2}
use Rattle.marks.specs.Table.{Linked}
use Rattle.interpreter_values.specs.Entries.{entry_mark, Offsets}

-- the index of the first m entries, in the words from word 17 on: a table of the marks of their names, and behind it their offsets
pub record Indexed (s : List ℕ) (block m : ℕ) (ws : List ℕ) : Type 0 where
  pub room : 1151 ≤ length ws
  pub within : m ≤ le2 s (block + 6)
  pub linked : Linked (take 639 ws) (entry_mark s (block + 6 + 2)) m
  pub offsets : Offsets s (block + 6 + 2) m (drop 639 ws)

-- the words of a context whose values are those of the block: room for the open calls, and the index, where there is room for it and an
-- entry is in it
pub record Remembered (s : List ℕ) (block : ℕ) (ws : List ℕ) : Type 0 where
  pub room : 16 ≤ length ws
  pub index : 1168 ≤ length ws → 4 < get_or ws 16 0 → Indexed s block (get_or ws 16 0 - 4) (drop 17 ws)

-- the first m words are the same
abbrev pub Same : ℕ → List ℕ → List ℕ → Type 0
Same m ws us = (i : ℕ) → i < m → get_or us i 0 ≡ get_or ws i 0

-- what a call leaves of the words: the first m are kept, and what is remembered is so still
pub record Kept (s : List ℕ) (block m : ℕ) (ws us : List ℕ) : Type 0 where
  pub same : Same m ws us
  pub remembered : Remembered s block us

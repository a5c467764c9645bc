-- The entries of a block of values, by their bytes: each is a name and the 8 bytes of its number.
use Rattle.std.specs.Prelude.{ℕ, zero, suc, ◌+◌, ◌≤◌, ◌<◌, ◌≡◌, true, false, List, get_or, Some}
use Rattle.blocks.specs.Bytes.{le2, name_at}
use Rattle.blocks.specs.Name.{Name, same}
use Rattle.name_marks.specs.Mark.{sum_mark_of}
use Rattle.accepted.specs.Accepted.{Entries, Item}
use Rattle.lookup.specs.Found.{first_value}
use Rattle.interpreter_values.specs.declared.Span.{Span}
use Rattle.interpreter_values.specs.declared.Sought.{Sought}
use Rattle.interpreter_values.specs.declared.Sought.TheVariants.{At, Among}

-- the offset of entry k of those from an offset on
unfoldable pub entry_at : List ℕ → ℕ → ℕ → ℕ
entry_at s first zero = first
entry_at s first (suc k) = entry_at s first k + 2 + le2 s (entry_at s first k) + 8

-- the mark of its name
unfoldable pub entry_mark : List ℕ → ℕ → ℕ → ℕ
entry_mark s first k = sum_mark_of (name_at s (entry_at s first k))

-- the first n words are the offsets of the entries
abbrev pub Offsets : List ℕ → ℕ → ℕ → List ℕ → Type 0
Offsets s first n ws = (k : ℕ) → k < n → get_or ws k 0 ≡ entry_at s first k

-- of n entries the one at place k is the first that has the name m; k is n where none has it
pub record First (s : List ℕ) (m : Name) (first n k : ℕ) : Type 0 where
  pub within : k ≤ n
  pub named : k < n → same m (name_at s (entry_at s first k)) ≡ true
  pub before : (i : ℕ) → i < k → same m (name_at s (entry_at s first i)) ≡ false

-- the entries of the block at these places, the first of which stands at the offset
pub record Spans (s : List ℕ) (block : ℕ) (p : Span) : Type 0 where
  pub within : p.from ≤ p.to
  pub most : p.to ≤ le2 s (block + 6)
  pub here : p.at ≡ entry_at s (block + 6 + 2) p.from

-- what is known of the first value of a name: its offset, or entries of which the first of the name is the block's
pub data Leaves (s : List ℕ) (block : ℕ) (m : Name) : Sought → Type 0 where
  at : {o : ℕ} → Some o ≡ first_value s m (le2 s (block + 6)) (block + 6 + 2) → Leaves s block m (At o)
  among : {o n : ℕ} → Entries s Item.values n o → first_value s m (le2 s (block + 6)) (block + 6 + 2) ≡ first_value s m n o → Leaves s block m (Among o n)

-- What the code's results say in the definition's terms: the tree that was read is forgotten. The readers that the code has in one.
use Rattle.std.specs.Prelude.{ℕ, ◌+◌, ◌≤◌, ◌≡◌, Bool, true, false, List, Result, Ok, Err, IfOk}
use Rattle.errors.specs.Refusal.{Outcome, done, refused, unread}
use Rattle.errors.specs.Meaning.{number_of}
use Rattle.errors.specs.declared.Unread.{Unread}
use Rattle.blocks.specs.Bytes.{le2}
use Rattle.blocks.specs.Tree.{number}
use Rattle.blocks.specs.Read.{Step, Earlier, read_text, read_key, read_number, read_value}
use Rattle.reader_leaf.specs.declared.Head.{Head}

-- what was read, or the refusal
abbrev pub read_of : {A : Type 0} → Result A Unread → Outcome A
read_of (Ok a) = done a
read_of (Err u) = refused (unread (number_of u.reason) u.offset)

-- what a flag announces: a number or a text
abbrev pub announced : Bool → List ℕ → ℕ → ℕ → ℕ → Step
announced true = read_number
announced false = read_text

-- an entry that begins with a name: name and number, or a name alone
unfoldable pub read_entry : Bool → List ℕ → ℕ → ℕ → Earlier → ℕ → Step
read_entry true = read_value
read_entry false = read_key

-- the offset behind what was read
unfoldable pub forget : Step → Outcome ℕ
forget (done x) = done x.1
forget (refused r) = refused r

-- kind and end of a block
unfoldable pub head_of : Outcome (ℕ × ℕ) → Outcome Head
head_of (done h) = done (record { kind = h.0; end = h.1 })
head_of (refused r) = refused r

unfoldable pub count_of : Step → Outcome ℕ
count_of (done x) = done (number x.0)
count_of (refused r) = refused r

-- a text that was read: its bytes stand behind its length
abbrev pub TextIn : Result ℕ Unread → List ℕ → ℕ → ℕ → Type 0
TextIn r s at end = IfOk r (λ n. (n ≡ at + 2 + le2 s at) × (n ≤ end))

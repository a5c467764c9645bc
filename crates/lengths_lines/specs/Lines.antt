-- What the code's answers say in the terms of the program's definition.
use Rattle.std.specs.Prelude.{ℕ, ◌≤◌, ◌≡◌, List, ◌++◌, length}
use Rattle.errors.specs.Refusal.{done}
use Rattle.blocks.specs.Tree.{Tree}
use Rattle.blocks.specs.Read.{read_layout, read_run}
use Rattle.wire.specs.Poke.{Wrote}
use Rattle.lengths_lines.specs.declared.Printed.{Printed}
use Rattle.lengths_lines.specs.declared.Printed.TheVariants as printed

-- the cursor behind what was printed
abbrev pub bytes_of : Printed → ℕ
bytes_of (printed.Line r) = r
bytes_of (printed.Last r) = r

-- what was written at the cursor at of xs, with ys left: the line before whatever lines follow, or the last line
pub data Answered (lines : List ℕ → List ℕ) (xs : List ℕ) (at : ℕ) (ys : List ℕ) : Printed → Type 0 where
  line : {bs : List ℕ} {r : ℕ} → Wrote xs at bs ys r → ((more : List ℕ) → lines more ≡ bs ++ more) → Answered lines xs at ys (printed.Line r)
  last : {bs : List ℕ} {r : ℕ} → Wrote xs at bs ys r → ((more : List ℕ) → lines more ≡ bs) → Answered lines xs at ys (printed.Last r)

-- a layout that reading accepts
pub record IsLayout (s : List ℕ) : Type 0 where
  pub small : length s ≤ 65536
  pub read : (t : Tree) × (read_layout s ≡ done t)

-- a run block that reading accepts
pub record AcceptedRun (s : List ℕ) : Type 0 where
  pub tree : Tree
  pub read : read_run s ≡ done tree

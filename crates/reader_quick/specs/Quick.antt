-- The answers of the quick reader.
use Rattle.std.specs.Prelude.{ℕ, ◌+◌, ◌≤◌, ◌<◌, ◌≡◌, List, Option, IfSome}
use Rattle.errors.specs.Refusal.{done}
use Rattle.blocks.specs.Bytes.{le2, le4}
use Rattle.blocks.specs.declared.Part.{Part}
use Rattle.blocks.specs.Read.{Step, Earlier, read_text, read_optional, read_parts, read_block}
use Rattle.ir_nodes.specs.Codes.{Digits}
use Rattle.reader_leaf.specs.Answer.{forget}

-- the offset behind what was read; or nothing is said
abbrev pub Reads : Option ℕ → Step → Type 0
Reads r x = IfSome r (λ n. forget x ≡ done n)

-- the block at `at` ends at `stop`, by its length
pub record Sized (s : List ℕ) (at end stop : ℕ) : Type 0 where
  pub head : at + 6 ≤ end
  pub least : 2 ≤ le4 s at
  pub is : stop ≡ at + 4 + le4 s at
  pub inside : stop ≤ end

-- the head of a node that ends at `stop`, and its metadata: `next` is the offset behind them
pub record Begun (s : List ℕ) (room at stop next : ℕ) : Type 0 where
  pub inside : at + 14 ≤ stop
  pub least : 128 ≤ le2 s (at + 4)
  pub most : le2 s (at + 4) ≤ 144
  pub allowed : 0 < room
  pub read : (start : ℕ) → forget (read_optional (read_text s start stop) 1 s start stop (at + 14)) ≡ done next

-- the parts of a row's digits from an offset on, up to the end of their node
abbrev pub Body : ℕ → List ℕ → ℕ → ℕ → ℕ → Type 0
Body room s row at stop = (ps : List Part) → Digits row ps → (e : Earlier) (start : ℕ) → forget (read_parts (read_block room s) s e start stop ps at) ≡ done stop

-- a count at an offset, at most the limit, before the end of a block
pub record Counted (s : List ℕ) (limit at end n : ℕ) : Type 0 where
  pub inside : at + 2 ≤ end
  pub is : n ≡ le2 s at
  pub most : n ≤ limit

-- What reading accepted, by the place where it begins: a block, the parts of a block, the entries of a list. A walk over
-- accepted bytes asks for one of these, and says its answer of the tree that each holds.
use Rattle.std.specs.Prelude.{ℕ, ◌≤◌, ◌≡◌, List, [], length}
use Rattle.errors.specs.Refusal.{done}
use Rattle.blocks.specs.declared.Part.{Part}
use Rattle.blocks.specs.declared.Part.TheVariants.{Text, Number, Block, Size, OptNumber, OptText, OptBlock, Blocks, Ascending, Distinct, Names, Paths, Values}
pub use Rattle.blocks.specs.Bytes.{name_at}
use Rattle.blocks.specs.Tree.{Tree}
use Rattle.blocks.specs.Read.{Step, Earlier, read_key, read_value, read_entries, read_parts, read_block}

-- a block of a kind from lo to hi, at an offset
pub record Accepted (s : List ℕ) (lo hi at : ℕ) : Type 0 where
  pub room : ℕ
  pub earlier : Earlier
  pub end : ℕ
  pub got : Tree × ℕ
  pub fits : end ≤ length s
  pub read : read_block room s earlier lo hi at end ≡ done got

abbrev pub tree : {s : List ℕ} {lo hi at : ℕ} → Accepted s lo hi at → Tree
tree a = a.got.0

-- the last parts of a block, which begin at an offset
pub record Parts (s : List ℕ) (ps : List Part) (at : ℕ) : Type 0 where
  pub room : ℕ
  pub earlier : Earlier
  pub start : ℕ
  pub end : ℕ
  pub got : Tree × ℕ
  pub fits : end ≤ length s
  pub read : read_parts (read_block room s) s earlier start end ps at ≡ done got

-- what a list is of: blocks of kinds from lo to hi; names; names with a number each
pub data Item : Type 0 where
  blocks : ℕ → ℕ → Item
  names : Item
  values : Item

abbrev pub read_item : Item → ℕ → List ℕ → ℕ → ℕ → Earlier → ℕ → Step
read_item (Item.blocks lo hi) room s start end e at = read_block room s e lo hi at end
read_item Item.names room s start end e at = read_key s start end e at
read_item Item.values room s start end e at = read_value s start end e at

-- n entries, one behind the other
pub record Entries (s : List ℕ) (i : Item) (n at : ℕ) : Type 0 where
  pub room : ℕ
  pub earlier : Earlier
  pub start : ℕ
  pub end : ℕ
  pub got : Tree × ℕ
  pub fits : end ≤ length s
  pub read : read_entries (read_item i room s start end) earlier n at ≡ done got

abbrev pub Listed : List ℕ → ℕ → ℕ → ℕ → ℕ → Type 0
Listed s lo hi n at = Entries s (Item.blocks lo hi) n at

-- an optional part, the flag that says that it is there, and the part that then stands behind the flag
pub data Optional : Part → ℕ → Part → Type 0 where
  size : Optional Size 0 Number
  number : Optional OptNumber 1 Number
  text : Optional OptText 1 Text
  block : {lo hi : ℕ} → Optional (OptBlock lo hi) 1 (Block lo hi)

-- a part that is a count and a list, what the list is of, the limit of the count, and what is asked of its first entry
pub data Counted : Part → Item → ℕ → Earlier → Type 0 where
  any : {lo hi limit : ℕ} → Counted (Blocks lo hi limit) (Item.blocks lo hi) limit Earlier.any
  ascending : {lo hi limit : ℕ} → Counted (Ascending lo hi limit) (Item.blocks lo hi) limit (Earlier.ascending [] 0)
  distinct : {lo hi limit : ℕ} → Counted (Distinct lo hi limit) (Item.blocks lo hi) limit (Earlier.distinct [])
  names : {limit : ℕ} → Counted (Names limit) Item.names limit Earlier.any
  paths : {limit : ℕ} → Counted (Paths limit) Item.names limit (Earlier.ascending [] 0)
  values : {limit : ℕ} → Counted (Values limit) Item.values limit (Earlier.ascending [] 0)

-- The first block of a name, among some that stand one behind the other.
use Rattle.std.specs.Prelude.{ℕ, ◌+◌, ◌<◌, ◌≡◌, true, List, Option, Some, None}
use Rattle.blocks.specs.Bytes.{name_at}
use Rattle.blocks.specs.Name.{Name, same}
use Rattle.blocks.specs.Blocks.{Passed}
use Rattle.wire.specs.declared.Position.{Position}

-- the block behind those of another name; or all have another name
pub data BlockNamed (s : List ℕ) (n : Name) (from count : ℕ) : Option Position → Type 0 where
  at : {i o : ℕ} → i < count → Passed s n from i o → same n (name_at s (o + 6)) ≡ true → BlockNamed s n from count (Some (record { place = i; at = o }))
  missing : {q : ℕ} → Passed s n from count q → BlockNamed s n from count None

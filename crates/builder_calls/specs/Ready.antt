-- What building a call stands on.
use Rattle.std.specs.Prelude.{ℕ, ◌+◌, ◌^◌, ◌<◌, ◌≡◌, List}
use Rattle.errors.specs.Refusal.{done}
use Rattle.blocks.specs.Bytes.{le2}
use Rattle.blocks.specs.Tree.{Tree}
use Rattle.blocks.specs.Read.{read_set}
use Rattle.accepted.specs.Accepted.{Accepted}
use Rattle.builder_registry.specs.Words.{Standing}

-- the registry, an accepted set, a type in it of this kind, and a cursor
pub record Ready (s ws : List ℕ) (n kind type at : ℕ) : Type 0 where
  pub standing : Standing s ws n
  pub set : (t : Tree) × (read_set s ≡ done t)
  pub type_at : Accepted s 1 7 type
  pub kind_is : le2 s (type + 4) ≡ kind
  pub cursor : at < 2 ^ 56

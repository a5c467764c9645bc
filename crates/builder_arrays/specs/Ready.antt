-- What building an array stands on.
use Rattle.std.specs.Prelude.{ℕ, ◌+◌, ◌*◌, ◌^◌, ◌≤◌, ◌<◌, ◌≡◌, List, length}
use Rattle.blocks.specs.Bytes.{le2, le4}
use Rattle.accepted.specs.Accepted.{Accepted}
use Rattle.builder_registry.specs.Words.{Standing}

-- the registry, an accepted array, and a cursor
pub record Ready (s ws : List ℕ) (n array at : ℕ) : Type 0 where
  pub standing : Standing s ws n
  pub type : Accepted s 1 7 array
  pub kind : le2 s (array + 4) ≡ 5
  pub cursor : at + 1024 * (4 + le4 s array) < 2 ^ 58

-- the same for an owner, inside so many arrays
pub record ReadyInside (s ws : List ℕ) (n : ℕ) (owner : List ℕ) (depth array at : ℕ) : Type 0 where
  pub ready : Ready s ws n array at
  pub owned : length owner ≤ 255
  pub deep : depth + le4 s array ≤ 65536

-- What building an expression stands on.
use Rattle.std.specs.Prelude.{ℕ, ◌+◌, ◌*◌, ◌^◌, ◌≤◌, ◌<◌, List, length}
use Rattle.blocks.specs.Bytes.{le4}
use Rattle.accepted.specs.Accepted.{Accepted}
use Rattle.builder_registry.specs.Words.{Standing}

-- the registry, an owner's name, an accepted expression inside so many arrays, and a cursor
pub record Ready (s ws : List ℕ) (n : ℕ) (owner : List ℕ) (depth expr at : ℕ) : Type 0 where
  pub standing : Standing s ws n
  pub owned : length owner ≤ 255
  pub deep : depth ≤ 65536
  pub expression : Accepted s 64 91 expr
  pub cursor : at + 1024 * (4 + le4 s expr) < 2 ^ 58

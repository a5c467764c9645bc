-- What writing a type's parameters stands on.
use Rattle.std.specs.Prelude.{ℕ, ◌+◌, ◌^◌, ◌≤◌, ◌<◌, Bool, List, length}
use Rattle.accepted.specs.Accepted.{Accepted}
use Rattle.marks.specs.Table.{Linked}
use Rattle.builder_registry.specs.Words.{Standing}
use Rattle.builder_parameters.specs.Listed.{marks_of, Jagged}

-- the registry, an accepted type, and a cursor
pub record Ready (s ws : List ℕ) (n type at : ℕ) : Type 0 where
  pub standing : Standing s ws n
  pub type_at : Accepted s 1 7 type
  pub cursor : at < 2 ^ 57

-- the same with an empty table for its entries, and what is known of the type's jagged arrays
pub record ReadyTable (s ws table : List ℕ) (n type : ℕ) (jagged : Bool) (at : ℕ) : Type 0 where
  pub ready : Ready s ws n type at
  pub jagged_is : Jagged s type jagged
  pub empty : Linked table (marks_of s ws) 0
  pub room : 127 + n ≤ length table

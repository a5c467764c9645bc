-- The marks of entries' names (crate marks), and what goes with them from one entry to the next.
use Rattle.std.specs.Prelude.{ℕ, ◌<◌, ◌≡◌, List}
use Rattle.marks.specs.Mark.{mark_of}
use Rattle.builder_registry.specs.Words.{held}
use Rattle.builder_registry.specs.declared.NameMark.{NameMark}

-- where an owner's offset is known, its mark is
pub record OwnerMarked (s : List ℕ) (k : NameMark) : Type 0 where
  pub is : k.owner < 65536 → k.start ≡ mark_of 0 (held s k.owner)

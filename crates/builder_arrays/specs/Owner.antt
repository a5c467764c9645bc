-- The owner of an array that is a root, where its references have one.
use Rattle.std.specs.Prelude.{ℕ, ◌+◌, ◌≤◌, ◌<◌, cond, List, [], ◌∷◌, length}
use Rattle.blocks.specs.Bytes.{le2}
use Rattle.blocks.specs.Name.{Name}
use Rattle.accepted.specs.Accepted.{Accepted}
use Rattle.resolved.specs.Resolved.{Owner}
use Rattle.builder.specs.Nodes.{has}

-- the first owner's name
abbrev pub first_owner : List Owner → Name
first_owner [] = []
first_owner (o ∷ os) = o.name

-- the key, or else the type's name, or else the first owner
abbrev pub owner_under : Name → Name → List Owner → Name
owner_under key name os = cond (has key os) key (cond (has name os) name (first_owner os))

-- references that have an owner
pub record SomeOwner (s : List ℕ) (references : ℕ) : Type 0 where
  pub owners : Accepted s 32 32 references
  pub some_owner : 0 < le2 s (references + 6)
  pub size : length s ≤ 65536

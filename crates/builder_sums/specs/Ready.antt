-- What a sum of references stands on.
use Rattle.std.specs.Prelude.{ℕ, ◌^◌, ◌≤◌, ◌<◌, Bool, true, false, List, [], ◌∷◌, length}
use Rattle.blocks.specs.Name.{Name}
use Rattle.builder.specs.Nodes.{payload_paths}
use Rattle.resolved_parts.specs.Types.{PathsAt}
use Rattle.builder_registry.specs.Words.{Standing}

-- all paths, or only those that end in `.payload_size`
abbrev pub chosen : Bool → List Name → List Name
chosen true ps = payload_paths ps
chosen false ps = ps

-- whether there is a name at all
abbrev pub some_name : List Name → Bool
some_name [] = false
some_name (n ∷ ns) = true

-- the registry, an owner's name, its accepted paths, and a cursor
pub record Ready (s ws : List ℕ) (n : ℕ) (owner : List ℕ) (paths at : ℕ) : Type 0 where
  pub standing : Standing s ws n
  pub owned : length owner ≤ 255
  pub list : PathsAt s paths
  pub cursor : at < 2 ^ 57

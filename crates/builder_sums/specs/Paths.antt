-- An owner's paths as they stand in the set, those of them that a sum takes, and the sum in the order in which it is written.
use Rattle.std.specs.Prelude.{ℕ, zero, suc, ◌+◌, ◌≤◌, Bool, true, false, List, [], ◌∷◌, length}
use Rattle.std.proofs.Math.Option.{some}
use Rattle.errors.specs.Refusal.{MissingParameter}
use Rattle.blocks.specs.Bytes.{le2, name_at}
use Rattle.blocks.specs.Name.{Name, ascii}
use Rattle.ir.specs.Ir.{IrNode, default_alignment, unplaced}
use Rattle.builder.specs.Names.{ends_with}
use Rattle.builder.specs.Registry.{Build, ◌>>=◌, give, require, need, reads, short, lookup_name}
use Rattle.builder.specs.Nodes.{ref_text}
use Rattle.resolved_parts.specs.Types.{PathsAt}
use Rattle.builder_registry.specs.Words.{Standing}
use Rattle.builder_sums.specs.Ready.{chosen}

-- n names, one behind the other
unfoldable pub names_at : List ℕ → ℕ → ℕ → List Name
names_at s zero at = []
names_at s (suc n) at = name_at s at ∷ names_at s n (at + 2 + le2 s at)

-- whether a path is chosen
abbrev pub taken : Bool → Name → Bool
taken true n = ends_with (ascii ".payload_size") n
taken false n = true

-- the chosen paths of the list whose count stands at q
abbrev pub picks : List ℕ → Bool → ℕ → List Name
picks s only q = chosen only (names_at s (le2 s q) (q + 2))

-- the node of one path, as `build_field_ref_nodes` makes it
unfoldable pub build_ref : Name → Name → Build IrNode
build_ref owner path = do
  found ← reads (lookup_name owner path)
  parameter ← need found MissingParameter
  _ ← require (short (ref_text owner path)) 17
  give (IrNode.FieldRef unplaced (record { alignment = default_alignment; size_expr = some (ref_text owner path) }) path (some parameter))

-- accepted paths
pub record Reading (s : List ℕ) (q : ℕ) : Type 0 where
  pub list : PathsAt s q

-- what a sum stands on, wherever it is written
pub record Summing (s ws : List ℕ) (n : ℕ) (owner : List ℕ) (paths : ℕ) : Type 0 where
  pub standing : Standing s ws n
  pub owned : length owner ≤ 255
  pub list : PathsAt s paths

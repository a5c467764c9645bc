-- What building the fields of a struct stands on, and what it leaves.
use Rattle.std.specs.Prelude.{ℕ, ◌+◌, ◌*◌, ◌^◌, ◌≤◌, ◌<◌, ◌≡◌, List, Result}
use Rattle.errors.specs.Refusal.{Outcome, done}
use Rattle.errors.specs.declared.Reason.{Reason}
use Rattle.answers.specs.Answers.{Answers}
use Rattle.blocks.specs.Bytes.{le2}
use Rattle.blocks.specs.Tree.{Tree}
use Rattle.blocks.specs.Read.{read_set}
use Rattle.blocks.specs.Write.{write}
use Rattle.accepted.specs.Accepted.{Accepted, Listed}
use Rattle.ir.specs.Ir.{IrNode}
use Rattle.ir.specs.Layout.{node_tree}
use Rattle.wire.specs.Poke.{Wrote}
use Rattle.resolved_parts.specs.Types.{Named, PathsAt}
use Rattle.builder_registry.specs.Words.{Standing, Indexed}
use Rattle.builder_structs.specs.declared.Rest.{Rest}
use Rattle.builder_structs.specs.declared.Run.{Run}
use Rattle.builder_structs.specs.Next.{State, state_at}

-- the registry, an accepted set, a type in it, and a cursor
pub record ReadyType (s ws : List ℕ) (n type at : ℕ) : Type 0 where
  pub standing : Standing s ws n
  pub set : (t : Tree) × (read_set s ≡ done t)
  pub type_at : Accepted s 1 7 type
  pub cursor : at + 100 < 2 ^ 56

-- a type that stands in an AlignUp node: an enum, a size-discriminated union or a type reference
pub record ReadyInner (s ws : List ℕ) (n type at : ℕ) : Type 0 where
  pub standing : Standing s ws n
  pub set : (t : Tree) × (read_set s ≡ done t)
  pub type_at : Accepted s 1 7 type
  pub from_enum : 4 ≤ le2 s (type + 4)
  pub no_array : le2 s (type + 4) ≡ 5 → ⊥
  pub cursor : at < 2 ^ 56

-- a field's name and its type
pub record ReadyNamed (s ws : List ℕ) (n name type at : ℕ) : Type 0 where
  pub base : ReadyType s ws n type at
  pub named : Named s name

-- an array under a field's name
pub record ReadyArray (s ws : List ℕ) (n name type at : ℕ) : Type 0 where
  pub field : ReadyNamed s ws n name type at
  pub kind_is : le2 s (type + 4) ≡ 5

-- a field, and paths of the struct's references for it
pub record ReadyPaths (s ws : List ℕ) (n name type paths at : ℕ) : Type 0 where
  pub field : ReadyNamed s ws n name type at
  pub list : PathsAt s paths

-- a field, and the struct's references
pub record ReadyField (s ws : List ℕ) (n references name type at : ℕ) : Type 0 where
  pub field : ReadyNamed s ws n name type at
  pub refs : Accepted s 32 32 references

-- an enum as a field
pub record ReadyEnum (s ws : List ℕ) (n references name type at : ℕ) : Type 0 where
  pub field : ReadyField s ws n references name type at
  pub kind_is : le2 s (type + 4) ≡ 4

-- the struct's references, and the fields that are left
pub record ReadyNext (s ws : List ℕ) (references : ℕ) (from : Rest) (at : ℕ) : Type 0 where
  pub standing : Standing s ws from.count
  pub set : (t : Tree) × (read_set s ≡ done t)
  pub refs : Accepted s 32 32 references
  pub list : Listed s 33 33 from.left from.field
  pub cursor : at + 100 < 2 ^ 56

-- the same, with room for k nodes, one at least
pub record ReadySum (s ws : List ℕ) (references : ℕ) (from : Rest) (k at : ℕ) : Type 0 where
  pub standing : Standing s ws from.count
  pub set : (t : Tree) × (read_set s ≡ done t)
  pub refs : Accepted s 32 32 references
  pub list : Listed s 33 33 from.left from.field
  pub some : 0 < k
  pub room : at + 2 ^ 29 * k < 2 ^ 56

-- the node's bytes in the output ys up to the next cursor, the entries in the words us with their index, and the fields that are
-- left
pub record RanIn (s xs : List ℕ) (at : ℕ) (us ys : List ℕ) (r : Run) (y : State × IrNode) : Type 0 where
  pub list : Listed s 33 33 r.rest.left r.rest.field
  pub state : y.0 ≡ state_at s us r.rest list
  pub index : Indexed s us r.rest.count
  pub wrote : Wrote xs at (write (node_tree y.1)) ys r.at

-- the next node and the state behind it, or the refusal
abbrev pub Ran : (s xs : List ℕ) (at : ℕ) (us ys : List ℕ) → Result Run Reason → Outcome (State × IrNode) → Type 0
Ran s xs at us ys = Answers (RanIn s xs at us ys)

-- where something was built: the cursor, the registry's count, and accepted fields behind
pub record Goes (s : List ℕ) (at room : ℕ) (r : Run) : Type 0 where
  pub low : at ≤ r.at
  pub high : r.at ≤ at + room
  pub count : r.rest.count ≤ 512
  pub list : Listed s 33 33 r.rest.left r.rest.field

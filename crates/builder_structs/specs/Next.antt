-- The nodes of a struct one by one: each field makes one, or two where there is padding before it.
use Rattle.std.specs.Prelude as std
use Rattle.std.specs.Prelude.{ℕ, suc, ◌+◌, ◌-◌, ◌^◌, Bool, true, false, ◌&&◌, not, cond, List, [], ◌∷◌, ltb, Some, None}
use Rattle.std.proofs.Math.Option.{Option, some, none}
use Rattle.errors.specs.Refusal.{Outcome, done, refused, plain, MissingDynamicRefs}
use Rattle.errors.specs.Refusal.{◌>>=◌ as ◌and_then◌}
use Rattle.blocks.specs.Tree.{Tree, view}
use Rattle.accepted.specs.Accepted.{Listed}
use Rattle.resolved.specs.Resolved.{Owner, Size, ResolvedType, ResolvedField, head, kind_of, fields}
use Rattle.resolved.specs.Set.{thing_of, fields_in}
use Rattle.ir.specs.Ir.{IrNode}
use Rattle.builder.specs.Registry.{Registry, need}
use Rattle.builder.specs.Nodes.{const_or_zero, build_field}
use Rattle.builder_registry.specs.Words.{entries_of}
use Rattle.builder_structs.specs.declared.Rest.{Rest}

-- the fields of a list of blocks 33
abbrev pub fields_of : Tree → List ResolvedField
fields_of t = fields (fields_in (view thing_of t))

-- how much padding stands before a field: 0 where there is none
abbrev pub pad_size : ℕ → Option ℕ → ℕ
pad_size so_far none = 0
pad_size so_far (some o) = o - so_far

-- an end of the prefix, unless it is 2^64 or more
abbrev pub const_end : ℕ → Option ℕ
const_end n = cond (ltb n (2 ^ 64)) (some n) none

-- the end of the prefix behind a field: only a constant field with an offset moves it
unfoldable pub prefix_end : ℕ → Option ℕ → Size → Option ℕ
prefix_end so_far none s = some so_far
prefix_end so_far (some o) (Size.Const v) = const_end (o + v)
prefix_end so_far (some o) Size.Variable = some so_far

-- the same as the code has it
abbrev pub end_of : Option ℕ → std.Option ℕ
end_of none = None
end_of (some n) = Some n

-- the registry, the fields that are left, the end of the prefix, and whether the first field's padding is made
pub record State : Type 0 where
  pub registry : Registry
  pub left : List ResolvedField
  pub end : ℕ
  pub half : Bool

-- a state, by its parts
abbrev pub state_of : Registry → List ResolvedField → ℕ → Bool → State
state_of g fs e h = record { registry = g; left = fs; end = e; half = h }

-- the same as the code has it: the entries in the words ws, and the fields from where the next one stands
abbrev pub state_at : (s ws : List ℕ) (x : Rest) → Listed s 33 33 x.left x.field → State
state_at s ws x l = state_of (entries_of s ws x.count) (fields_of l.got.0) x.end x.half

-- the node of a field, once its padding is made
unfoldable pub field_node : List ResolvedType → List Owner → ResolvedField → List ResolvedField → ℕ → Registry → Outcome (State × IrNode)
field_node types refs f fs e g =
    ◌and_then◌ (need (prefix_end e f.offset (head f.field_type).size) 16 g) (λ x.
    ◌and_then◌ (build_field types refs f.name (head f.field_type).size (head f.field_type) (kind_of f.field_type) x.1) (λ y.
    done (state_of y.1 fs x.0 false, y.0)))

-- the next node and the state behind it: the padding before the first field, or the field; 11 where no field is left
unfoldable pub next_of : List ResolvedType → List Owner → List ResolvedField → ℕ → Bool → Registry → Outcome (State × IrNode)
next_of types refs [] e h g = refused (plain MissingDynamicRefs)
next_of types refs (f ∷ fs) e h g =
    cond (not h && ltb 0 (pad_size e f.offset))
    (done (state_of g (f ∷ fs) e true, const_or_zero (pad_size e f.offset) 1))
    (field_node types refs f fs e g)

-- the same of a state
abbrev pub next : List ResolvedType → List Owner → State → Outcome (State × IrNode)
next types refs s = next_of types refs s.left s.end s.half s.registry

-- How many nodes fields make: two where there is padding. Where the end of the prefix is 2^64 or more, building is refused
-- at that field or before it: what is behind it does not count.
abbrev pub nodes_of : ℕ → Option ℕ → ℕ → ℕ
nodes_of e o k = cond (ltb 0 (pad_size e o)) (suc (suc k)) (suc k)

-- the nodes of a field, and of those behind it
unfoldable pub count_of : ℕ → List ResolvedField → ℕ
count_of e [] = 0
count_of e (f ∷ fs) = nodes_of e f.offset (elim (prefix_end e f.offset (head f.field_type).size) [ none ↦ 0 | some n ↦ count_of n fs ])

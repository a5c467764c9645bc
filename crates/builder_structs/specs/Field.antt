-- A field's node and what follows it: its type's own references enter, and it is aligned.
use Rattle.std.specs.Prelude.{ℕ, List, Result, Ok}
use Rattle.std.proofs.Math.Option.{some, none}
use Rattle.errors.specs.declared.Reason.{Reason}
use Rattle.blocks.specs.Name.{Name}
use Rattle.resolved.specs.Resolved.{Head, ResolvedType, ResolvedTypeKind, target_of}
use Rattle.ir.specs.Ir.{IrNode}
use Rattle.builder.specs.Registry.{Registry, Build, ◌>>=◌, give, extend_with}
use Rattle.builder.specs.Nodes.{align_node, payload_paths, sum_refs, build_typeref_node, build_variable}
use Rattle.builder_nodes.specs.declared.Built.{Built}
use Rattle.builder_nodes.specs.Built.{Builds}

-- a node, then the references of its type
unfoldable pub with_own : Head → Build IrNode → Build IrNode
with_own h node = do
  n ← node
  _ ← extend_with h.dynamic_params
  give n

-- a node, aligned
unfoldable pub with_align : ℕ → Build IrNode → Build IrNode
with_align a node = do
  n ← node
  give (align_node n a)

-- the node inside the AlignUp node of a field: only a type reference enters none of its own references
unfoldable pub inner : List ResolvedType → Head → ResolvedTypeKind → Build IrNode
inner types h k = elim (target_of k) [ none ↦ with_own h (build_variable types h k) | some target ↦ build_typeref_node types h target ]

-- the sum of a field's paths, where the field enters its own references
abbrev pub sum_of : Name → Head → List Name → Build IrNode
sum_of n h paths = with_own h (sum_refs n paths)

-- the sum of the paths of a payload
abbrev pub payload_of : Name → Head → List Name → Build IrNode
payload_of n h paths = with_align h.alignment (sum_refs n (payload_paths paths))

-- Of whatever node was built, r is that node with the references of its type: the entries were in the words ws, and are
-- in us.
abbrev pub EntersOwn : (s ws : List ℕ) (node : Built) (h : Head) (us : List ℕ) (r : Result Built Reason) → Type 0
EntersOwn s ws node h us r =
    (xs ys : List ℕ) (at : ℕ) (m : Build IrNode) (g : Registry) → Builds s xs at ws ys (Ok node) (m g) → Builds s xs at us ys r (with_own h m g)

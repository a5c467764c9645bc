-- The root node of a type, by its kind.
use Rattle.std.specs.Prelude.{Some, None, Result, Ok, Err}
use mathlib.Core.Path.{◌≡◌, refl, sym, ◌∙◌, ap, subst}
use mathlib.Core.List.{List}
use mathlib.Core.Option.{Option, none}
use Prim.Native.Nat.{ℕ, ◌+◌, ◌*◌, ◌^◌, ◌≤◌}
use native.Mathlib.Omega.{arith}
use lib.ListN.{length}
use Rattle.errors.specs.Refusal.{done}
use Rattle.errors.specs.declared.Reason.{Reason}
use Rattle.errors.specs.declared.Reason.TheVariants as reason
use Rattle.answers.proofs.Laws.{refuses, makes}
use Rattle.blocks.specs.Bytes.{le2, le4}
use Rattle.blocks.specs.Tree.{Tree}
use Rattle.blocks.specs.Read.{read_set}
use Rattle.blocks.specs.Write.{write}
use Rattle.blocks.specs.Name.{Name}
use Rattle.expr.specs.Expr.{ExprKind}
use Rattle.resolved.specs.Resolved.{Size, Head, ResolvedType, ResolvedTypeKind, Fields, Variants, head, kind_of, target_of}
use Rattle.resolved.specs.Set.{type_of, types_of}
use Rattle.ir.specs.Ir.{IrNode, aligned, unplaced}
use Rattle.ir.specs.Layout.{node_tree}
use Rattle.accepted.specs.Accepted.{Accepted, tree}
use Rattle.resolved_parts.specs.declared.TypeHead.{TypeHead}
use Rattle.resolved_parts.specs.Types.{HeadAt, sized}
use Rattle.resolved_parts.proofs.Laws.{inside, long, primitive}
use Rattle.resolved_parts.proofs.Each.{array_at}
use Rattle.wire.specs.Poke.{Wrote}
use Rattle.builder.specs.Registry.{Registry, Build, give, refuse}
use Rattle.builder.specs.Nodes.{unless_target, build_typeref_node, build_variable, build_variable_struct, node_from_resolved}
use Rattle.builder.specs.Nodes.{build_union_node, build_enum_node, build_array_node, build_size_discriminated_union_node}
use Rattle.builder_registry.specs.Words.{Indexed, entries_of}
use Rattle.builder_nodes.specs.declared.Built.{Built}
use Rattle.builder_nodes.specs.Built.{Builds, Within}
use Rattle.builder_nodes.proofs.Laws.{widened}
use Rattle.builder_arrays.specs.Ready.{Ready as ArrayReady}
use Rattle.builder_arrays.proofs.Steps.{not_target}
use Rattle.builder_structs.proofs.Field.{a_struct, a_union, an_enum, a_sized, a_target}
use Rattle.builder_type.specs.Built.{Ready}

-- ---- what each builder stands on

-- a type is at most as long as the set
pub short_type : {s : List ℕ} {kind : ℕ} → Accepted s 1 7 kind → length s ≤ 65536 → kind + 6 ≤ length s × (le4 s kind ≤ 65536)
short_type a z =
    let i = inside a in
    let l = long a in
    (omega arith, omega arith)

-- what an array stands on
pub array_ready : {s ws : List ℕ} {n k kind at : ℕ} → Ready s ws n kind at → k ≡ le2 s (kind + 4) → k ≡ 5 → ArrayReady s ws n kind at
array_ready a e f =
    let z = (short_type a.type_at a.standing.size).1 in
    let w = a.cursor in
    record { standing = a.standing; type = a.type_at; kind = sym e ∙ f; cursor = omega arith }

-- ---- room

-- an array is short, as the set is
pub array_wide : {s ws : List ℕ} {n kind at : ℕ} {r : Built} → Ready s ws n kind at → Within at (1024 * (4 + le4 s kind)) r → Within at (2 ^ 41) r
array_wide a w = let z = (short_type a.type_at a.standing.size).1 in widened (omega arith) w

-- ---- the definition, by kind

module _ (ts : List ResolvedType) (t : ResolvedType) where
  -- the root of a type reference is a call
  call_root : {target : Name} → kind_of t ≡ ResolvedTypeKind.TypeRef target → node_from_resolved ts t ≡ build_typeref_node ts (head t) target
  unfolding node_from_resolved
  call_root e = ap (λ (k : ResolvedTypeKind). unless_target ts (head t) k (target_of k)) e

  -- the root of any other type of constant size is a constant
  const_root : {v : ℕ} (g : Registry) → target_of (kind_of t) ≡ none → (head t).size ≡ Size.Const v → node_from_resolved ts t g ≡ done (IrNode.Const unplaced (aligned (head t).alignment) v, g)
  unfolding node_from_resolved give
  const_root g e f =
      ap (λ (o : Option Name). unless_target ts (head t) (kind_of t) o g) e ∙ const_sized (head t) (kind_of t) f
    where
      const_sized : {v : ℕ} (h : Head) (k : ResolvedTypeKind) → h.size ≡ Size.Const v → unless_target ts h k none g ≡ done (IrNode.Const unplaced (aligned h.alignment) v, g)
      const_sized h k f = rw f refl

  -- the root of one of variable size is by its kind
  variable_root : {k : ResolvedTypeKind} → kind_of t ≡ k → target_of k ≡ none → (head t).size ≡ Size.Variable → node_from_resolved ts t ≡ build_variable ts (head t) k
  unfolding node_from_resolved
  variable_root e f g =
      ap (λ (k : ResolvedTypeKind). unless_target ts (head t) k (target_of k)) e ∙ rw (f, g) refl

-- a type is its head and its kind
whole_type : (t : ResolvedType) → ResolvedType.resolved (head t) (kind_of t) ≡ t
whole_type (ResolvedType.resolved h k) = refl

-- ---- what the code has built

-- the answers of node_from_resolved
abbrev pub Root : (s : List ℕ) (kind : ℕ) (xs : List ℕ) (at : ℕ) (us ys : List ℕ) (r : Result Built Reason) (g : Registry) → Type 0
Root s kind xs at us ys r g = (t : Tree) (a : Accepted s 1 7 kind) → read_set s ≡ done t → Builds s xs at us ys r (node_from_resolved (types_of t) (type_of (tree a)) g)

module _ {s : List ℕ} {k kind : ℕ} {xs : List ℕ} {at : ℕ} {us ys : List ℕ} (g : Registry) (e : k ≡ le2 s (kind + 4)) where
  -- a type reference
  pub call_built : {r : Result Built Reason} → k ≡ 7 →
      ((t : Tree) (a : Accepted s 1 7 kind) (target : Name) → read_set s ≡ done t → kind_of (type_of (tree a)) ≡ ResolvedTypeKind.TypeRef target →
      Builds s xs at us ys r (build_typeref_node (types_of t) (head (type_of (tree a))) target g)) → Root s kind xs at us ys r g
  call_built {r} f b t a d =
      let i = (a_target (sym e ∙ f) a).1 in
      subst (Builds s xs at us ys r) (sym (ap (λ (m : Build IrNode). m g) (call_root (types_of t) (type_of (tree a)) i))) (b t a _ d i)

  module _ {h : TypeHead} (w : (a : Accepted s 1 7 kind) → HeadAt a h) where
    -- of variable size: what is built for the kind is the root
    variable_built : {r : Result Built Reason} (t : Tree) (a : Accepted s 1 7 kind) {q : ResolvedTypeKind} → h.size ≡ None → kind_of (type_of (tree a)) ≡ q → target_of q ≡ none →
        Builds s xs at us ys r (build_variable (types_of t) (head (type_of (tree a))) q g) → Builds s xs at us ys r (node_from_resolved (types_of t) (type_of (tree a)) g)
    variable_built {r} t a v i n b =
        let z : (head (type_of (tree a))).size ≡ Size.Variable = (w a).size ∙ ap sized v in
        subst (Builds s xs at us ys r) (sym (ap (λ (m : Build IrNode). m g) (variable_root (types_of t) (type_of (tree a)) i n z))) b

    module _ (v : h.size ≡ None) where
      -- a struct of variable size
      pub struct_built : {r : Result Built Reason} → k ≡ 2 →
          ((t : Tree) (a : Accepted s 1 7 kind) (fs : Fields) → read_set s ≡ done t → kind_of (type_of (tree a)) ≡ ResolvedTypeKind.Struct fs →
          Builds s xs at us ys r (build_variable_struct (types_of t) (head (type_of (tree a))) fs g)) → Root s kind xs at us ys r g
      unfolding build_variable
      struct_built f b t a d =
          let i = (a_struct (sym e ∙ f) a).1 in
          variable_built t a v i refl (b t a _ d i)

      -- a union of variable size
      pub union_built : {r : Result Built Reason} → k ≡ 3 →
          ((a : Accepted s 1 7 kind) (fs : Fields) → kind_of (type_of (tree a)) ≡ ResolvedTypeKind.Union fs →
          Builds s xs at us ys r (build_union_node (head (type_of (tree a))) fs g)) → Root s kind xs at us ys r g
      unfolding build_variable
      union_built f b t a d =
          let i = (a_union (sym e ∙ f) a).1 in
          variable_built t a v i refl (b a _ i)

      -- an enum of variable size
      pub enum_built : {r : Result Built Reason} → k ≡ 4 →
          ((a : Accepted s 1 7 kind) (x : ExprKind) (vs : Variants) → kind_of (type_of (tree a)) ≡ ResolvedTypeKind.Enum x vs →
          Builds s xs at us ys r (build_enum_node (head (type_of (tree a))) x vs g)) → Root s kind xs at us ys r g
      unfolding build_variable
      enum_built f b t a d =
          let i = (an_enum (sym e ∙ f) a).2 in
          variable_built t a v i refl (b a _ _ i)

      -- an array of variable size
      pub array_built : {r : Result Built Reason} → k ≡ 5 → ((a : Accepted s 1 7 kind) → Builds s xs at us ys r (build_array_node (type_of (tree a)) g)) → Root s kind xs at us ys r g
      unfolding build_variable
      array_built {r} f b t a d =
          let i = (array_at (sym e ∙ f) refl refl refl a).is in
          let j = ap (ResolvedType.resolved (head (type_of (tree a)))) (sym i) ∙ whole_type (type_of (tree a)) in
          variable_built t a v i refl (subst (λ (z : ResolvedType). Builds s xs at us ys r (build_array_node z g)) (sym j) (b a))

      -- a size-discriminated union of variable size
      pub sized_built : {r : Result Built Reason} → k ≡ 6 →
          ((a : Accepted s 1 7 kind) (vs : Variants) → kind_of (type_of (tree a)) ≡ ResolvedTypeKind.SizeDiscriminatedUnion vs →
          Builds s xs at us ys r (build_size_discriminated_union_node (head (type_of (tree a))) vs g)) → Root s kind xs at us ys r g
      unfolding build_variable
      sized_built f b t a d =
          let i = (a_sized (sym e ∙ f) a).1 in
          variable_built t a v i refl (b a _ i)

      -- a primitive type of variable size
      pub primitive_built : k ≡ 1 → Root s kind xs at us ys (Err reason.UnsupportedSize) g
      unfolding build_variable refuse
      primitive_built f t a d = variable_built t a v (primitive a (sym e ∙ f)) refl (refuses refl)

    -- of constant size, and no type reference
    pub const_built : {n v u : ℕ} → h.size ≡ Some v → (k ≡ 7 → ⊥) → entries_of s us n ≡ g → Indexed s us n →
        Wrote xs at (write (node_tree (IrNode.Const unplaced (aligned h.alignment) v))) ys u → Root s kind xs at us ys (Ok (record { at = u; count = n })) g
    const_built {v} c f x i o t a d =
        let z : (head (type_of (tree a))).size ≡ Size.Const v = (w a).size ∙ ap sized c in
        makes _ (const_root (types_of t) (type_of (tree a)) g (not_target a (λ q. f (e ∙ q))) z ∙ ap (λ (l : ℕ). done (IrNode.Const unplaced (aligned l) v, g)) (w a).alignment)
        (record { entries = x; index = i; wrote = o })

-- Nodes of fields: what is built, the references that enter behind it, the AlignUp node around it.
use Rattle.std.specs.Prelude.{Option, Some, None, Result, Ok, Err}
use mathlib.Core.Path.{◌≡◌, refl, sym, ◌∙◌, ap, subst}
use mathlib.Core.Bool.{Bool, true, false}
use mathlib.Core.List.{List, [], ◌∷◌, ◌++◌}
use Prim.Native.Nat.{ℕ, ◌+◌, ◌-◌, ◌≤◌, ◌<◌}
use native.Mathlib.Omega.{arith}
use lib.Dec.{eqb}
use lib.ListN.{length}
use borrow.Author.Tests.{eqb-true, eqb-false}
use Rattle.errors.specs.Refusal.{Outcome, done}
use Rattle.errors.specs.declared.Reason.{Reason}
use Rattle.errors.specs.declared.Reason.TheVariants as reason
use Rattle.answers.specs.Answers.{AnswersIn}
use Rattle.answers.proofs.Laws.{refuses}
use Rattle.blocks.specs.Bytes.{le2, bytes}
use Rattle.blocks.specs.Name.{Name}
use Rattle.blocks.specs.Tree.{Tree, num}
use Rattle.blocks.specs.Read.{read_set}
use Rattle.blocks.specs.Write.{write}
use Rattle.accepted.specs.Accepted.{Accepted, tree, name_at}
use Rattle.expr.specs.Expr.{ExprKind}
use Rattle.resolved.specs.Resolved.{Owner, Size, Head, ResolvedType, ResolvedTypeKind, Fields, Variants, head, kind_of, get}
use Rattle.resolved.specs.Set.{type_of, types_of}
use Rattle.ir.specs.Ir.{IrNode}
use Rattle.ir.specs.Layout.{node_tree}
use Rattle.builder.specs.Names.{or_else}
use Rattle.builder.specs.Registry.{Registry, Build, ◌>>=◌, give, extend_with}
use Rattle.builder.specs.Nodes.{align_node, const_or_zero, sum_refs, payload_paths, build_enum_node, build_size_discriminated_union_node}
use Rattle.builder.specs.Nodes.{build_array_node_with_prefix, build_typeref_node, build_field_enum, build_field_refs, build_variable_field, build_field, build_variable}
use Rattle.builder.proofs.Steps.{need_some, need_none}
use Rattle.wire.specs.Poke.{Wrote}
use Rattle.resolved_parts.specs.declared.TypeHead.{TypeHead}
use Rattle.resolved_parts.specs.Types.{HeadAt, PathsAt, PathsFound, owners_of, texts_of, sized}
use Rattle.resolved_parts.proofs.Laws.{inside, long, kind_of_lem, primitive}
use Rattle.resolved_parts.proofs.Owners.{found_paths, found_none}
use Rattle.resolved_parts.proofs.Each.{array_at, enum_at, fields_at, sized_at, target_at}
use Rattle.builder_registry.specs.Words.{Kept, Indexed, entries_of}
use Rattle.builder_paths.specs.Joined.{prefix_of}
use Rattle.builder_nodes.specs.declared.Built.{Built}
use Rattle.builder_nodes.specs.Built.{Builds, Within, node_start}
use Rattle.builder_nodes.proofs.Laws.{align_closed, builds_index, step_passes, step_goes}
use Rattle.builder_sums.specs.Ready.{some_name}
use Rattle.builder_arrays.proofs.Steps.{between}
use Rattle.builder_structs.specs.Field.{with_own, with_align, inner, sum_of, payload_of, EntersOwn}

-- ---- what follows a field's node

-- what follows a node that was refused is refused
own_passes : {s xs ws y₁ us ys : List ℕ} {at : ℕ} {e : Reason} (h : Head) (m : Build IrNode) (g : Registry) → Builds s xs at ws y₁ (Err e) (m g) →
    Builds s xs at us ys (Err e) (with_own h m g)
unfolding with_own
own_passes h m g b = step_passes m _ g b

-- behind a node that was built the references of its type are refused
pub own_stops : {s ws us : List ℕ} {node : Built} {e : Reason} (h : Head) → Kept s us (Err e) (extend_with h.dynamic_params (entries_of s ws node.count)) →
    EntersOwn s ws node h us (Err e)
unfolding with_own give
own_stops {s} {us} {e} h k xs ys at m g b =
    step_goes m _ g b (λ x n.
    step_passes (extend_with h.dynamic_params) _ x.1 (subst (λ (l : Registry). Kept s us (Err e) (extend_with h.dynamic_params l)) n.entries k))

-- or they enter
pub own_enters : {s ws us : List ℕ} {node : Built} {n : ℕ} (h : Head) → Kept s us (Ok n) (extend_with h.dynamic_params (entries_of s ws node.count)) →
    EntersOwn s ws node h us (Ok (record { at = node.at; count = n }))
unfolding with_own give
own_enters {s} {us} {n} h k xs ys at m g b =
    step_goes m _ g b (λ x v.
    step_goes (extend_with h.dynamic_params) _ x.1 (subst (λ (l : Registry). Kept s us (Ok n) (extend_with h.dynamic_params l)) v.entries k) (λ y q.
    AnswersIn.made (x.0, y.1) (record { entries = q.entries; index = q.index; wrote = v.wrote })))

-- an AlignUp node is refused where the node in it is
aligned_passes : {s xs x₁ us vs x₂ ys : List ℕ} {at p : ℕ} {e : Reason} (a : ℕ) (m : Build IrNode) (g : Registry) → Builds s x₁ p us x₂ (Err e) (m g) →
    Builds s xs at vs ys (Err e) (with_align a m g)
unfolding with_align
aligned_passes a m g b = step_passes m _ g b

-- around a node that was built the length of the AlignUp node is written
pub aligned_closes : {s us xs x₁ ys zs : List ℕ} {at p q : ℕ} {node : Built} (a : ℕ) (m : Build IrNode) (g : Registry) → Wrote xs at (node_start 131 a ++ write (num 8 a)) x₁ p →
    Builds s x₁ p us ys (Ok node) (m g) → Wrote ys at (bytes 4 (node.at - at - 4)) zs q → Builds s xs at us zs (Ok node) (with_align a m g)
unfolding with_align give
aligned_closes a m g w b c =
    step_goes m _ g b (λ x n. AnswersIn.made (align_node x.0 a, x.1)
    (record { entries = n.entries; index = n.index; wrote = align_closed a x.0 w n.wrote c }))

-- a node with the references of its type ends where it ended
pub own_within : {at room : ℕ} {node r : Built} → Within at room node → (r.at ≡ node.at) × (r.count ≤ 512) → Within at room r
own_within w e = record { low = omega (arith, w.low, e.0); high = omega (arith, w.high, e.0); count = e.1 }

-- the beginning of an AlignUp node of a type
abbrev pub Opened : List ℕ → ℕ → TypeHead → List ℕ → ℕ → Type 0
Opened xs at h x₁ p = Wrote xs at (node_start 131 h.alignment ++ write (num 8 h.alignment)) x₁ p

module _ {s xs x₁ x₂ ys : List ℕ} {at p q kind : ℕ} {t : TypeHead} {node : Built} (g : Registry)
    (hd : (a : Accepted s 1 7 kind) → HeadAt a t) (w : Opened xs at t x₁ p) (c : Wrote x₂ at (bytes 4 (node.at - at - 4)) ys q) where
  -- the closed node, by the alignment of the type
  aligned_at : {us : List ℕ} (a : Accepted s 1 7 kind) (m : Build IrNode) → Builds s x₁ p us x₂ (Ok node) (m g) →
      Builds s xs at us ys (Ok node) (with_align (head (type_of (tree a))).alignment m g)
  aligned_at {us} a m b = subst (λ (z : ℕ). Builds s xs at us ys (Ok node) (with_align z m g)) (sym (hd a).alignment) (aligned_closes t.alignment m g w b c)

-- ---- a type's own references

-- as the definition has them, by the head that was read
pub own_entered : {s us : List ℕ} {kind : ℕ} {h : TypeHead} {r : Result ℕ Reason} (g : Registry) → ((a : Accepted s 1 7 kind) → HeadAt a h) →
    ((a : Accepted s 32 32 h.references) → Kept s us r (extend_with (owners_of (tree a)) g)) →
    (a : Accepted s 1 7 kind) → Kept s us r (extend_with (head (type_of (tree a))).dynamic_params g)
own_entered {s} {us} {r} g hd k a = subst (λ (os : List Owner). Kept s us r (extend_with os g)) (sym (hd a).owners) (k (hd a).references)

-- ---- what the code leaves of a field: its name stands at `name`, its type at `kind`, and the entries were g

-- the references of its type behind its node
abbrev OwnLeft : (s ws : List ℕ) (node : Built) (kind : ℕ) (us : List ℕ) (r : Result Built Reason) → Type 0
OwnLeft s ws node kind us r = (a : Accepted s 1 7 kind) → EntersOwn s ws node (head (type_of (tree a))) us r

-- the node inside its AlignUp node
abbrev InnerLeft : (s xs : List ℕ) (at : ℕ) (us ys : List ℕ) (r : Result Built Reason) (kind : ℕ) (g : Registry) → Type 0
InnerLeft s xs at us ys r kind g =
    (t : Tree) (a : Accepted s 1 7 kind) → read_set s ≡ done t → Builds s xs at us ys r (inner (types_of t) (head (type_of (tree a))) (kind_of (type_of (tree a))) g)

-- that node, aligned
abbrev AlignedLeft : (s xs : List ℕ) (at : ℕ) (us ys : List ℕ) (r : Result Built Reason) (kind : ℕ) (g : Registry) → Type 0
AlignedLeft s xs at us ys r kind g =
    (t : Tree) (a : Accepted s 1 7 kind) → read_set s ≡ done t →
    Builds s xs at us ys r (with_align (head (type_of (tree a))).alignment (inner (types_of t) (head (type_of (tree a))) (kind_of (type_of (tree a)))) g)

-- a field of variable size
abbrev VariableLeft : (s xs : List ℕ) (at : ℕ) (us ys : List ℕ) (r : Result Built Reason) (references name kind : ℕ) (g : Registry) → Type 0
VariableLeft s xs at us ys r references name kind g =
    (t : Tree) (b : Accepted s 32 32 references) (a : Accepted s 1 7 kind) → read_set s ≡ done t →
    Builds s xs at us ys r (build_variable_field (types_of t) (owners_of (tree b)) (name_at s name) (head (type_of (tree a))) (kind_of (type_of (tree a))) g)

-- a field
abbrev pub FieldLeft : (s xs : List ℕ) (at : ℕ) (us ys : List ℕ) (r : Result Built Reason) (references name kind : ℕ) (g : Registry) → Type 0
FieldLeft s xs at us ys r references name kind g =
    (t : Tree) (b : Accepted s 32 32 references) (a : Accepted s 1 7 kind) → read_set s ≡ done t →
    Builds s xs at us ys r
    (build_field (types_of t) (owners_of (tree b)) (name_at s name) (head (type_of (tree a))).size (head (type_of (tree a))) (kind_of (type_of (tree a))) g)

-- ---- sums of paths

module _ {s ws x₁ x₂ : List ℕ} {p paths kind : ℕ} {o : List ℕ} (name : ℕ) (g : Registry) (eo : o ≡ name_at s name) where
  -- the sum of a field's paths was refused
  pub sum_stops : {us ys : List ℕ} {e : Reason} → ((q : PathsAt s paths) → Builds s x₁ p ws x₂ (Err e) (sum_refs o (texts_of q.list.got.0) g)) →
      (q : PathsAt s paths) (a : Accepted s 1 7 kind) → Builds s x₁ p us ys (Err e) (sum_of (name_at s name) (head (type_of (tree a))) (texts_of q.list.got.0) g)
  sum_stops {us} {ys} {e} b q a =
      subst (λ (z : Name). Builds s x₁ p us ys (Err e) (sum_of z (head (type_of (tree a))) (texts_of q.list.got.0) g)) eo
      (own_passes (head (type_of (tree a))) (sum_refs o (texts_of q.list.got.0)) g (b q))

  -- the sum of a payload's paths was refused
  pub payload_stops : {xs ys : List ℕ} {at : ℕ} {e : Reason} →
      ((q : PathsAt s paths) → Builds s x₁ p ws x₂ (Err e) (sum_refs o (payload_paths (texts_of q.list.got.0)) g)) →
      (q : PathsAt s paths) (a : Accepted s 1 7 kind) → Builds s xs at ws ys (Err e) (payload_of (name_at s name) (head (type_of (tree a))) (texts_of q.list.got.0) g)
  payload_stops {xs} {ys} {at} {e} b q a =
      subst (λ (z : Name). Builds s xs at ws ys (Err e) (payload_of z (head (type_of (tree a))) (texts_of q.list.got.0) g)) eo
      (aligned_passes _ (sum_refs o (payload_paths (texts_of q.list.got.0))) g (b q))

  -- it was built, and aligned
  pub payload_built : {xs ys : List ℕ} {at c : ℕ} {t : TypeHead} {node : Built} →
      ((q : PathsAt s paths) → Builds s x₁ p ws x₂ (Ok node) (sum_refs o (payload_paths (texts_of q.list.got.0)) g)) →
      ((a : Accepted s 1 7 kind) → HeadAt a t) → Opened xs at t x₁ p → Wrote x₂ at (bytes 4 (node.at - at - 4)) ys c →
      (q : PathsAt s paths) (a : Accepted s 1 7 kind) → Builds s xs at ws ys (Ok node) (payload_of (name_at s name) (head (type_of (tree a))) (texts_of q.list.got.0) g)
  payload_built {xs} {ys} {at} {node} b hd w c q a =
      subst (λ (z : Name). Builds s xs at ws ys (Ok node) (payload_of z (head (type_of (tree a))) (texts_of q.list.got.0) g)) eo
      (aligned_at g hd w c a (sum_refs o (payload_paths (texts_of q.list.got.0))) (b q))

-- ---- the kinds of types

module _ {s : List ℕ} {kind : ℕ} where
  -- a type of kind 2 is a struct
  pub a_struct : le2 s (kind + 4) ≡ 2 → (a : Accepted s 1 7 kind) → (fs : Fields) × (kind_of (type_of (tree a)) ≡ ResolvedTypeKind.Struct fs)
  a_struct ek a = (_, (fields_at {r = record { count = _; first = _ }} refl refl refl (omega arith) (omega arith) a).struct ek)

  -- a type of kind 3 is a union
  pub a_union : le2 s (kind + 4) ≡ 3 → (a : Accepted s 1 7 kind) → (fs : Fields) × (kind_of (type_of (tree a)) ≡ ResolvedTypeKind.Union fs)
  a_union ek a = (_, (fields_at {r = record { count = _; first = _ }} refl refl refl (omega arith) (omega arith) a).union ek)

  -- a type of kind 4 is an enum
  pub an_enum : le2 s (kind + 4) ≡ 4 → (a : Accepted s 1 7 kind) → (e : ExprKind) × (vs : Variants) × (kind_of (type_of (tree a)) ≡ ResolvedTypeKind.Enum e vs)
  an_enum ek a = (_, _, (enum_at {r = record { count = _; first = _ }} ek refl refl refl refl a).is)

  -- a type of kind 6 is a size-discriminated union
  pub a_sized : le2 s (kind + 4) ≡ 6 → (a : Accepted s 1 7 kind) → (vs : Variants) × (kind_of (type_of (tree a)) ≡ ResolvedTypeKind.SizeDiscriminatedUnion vs)
  a_sized ek a = (_, (sized_at {r = record { count = _; first = _ }} refl refl refl ek a).is)

  -- a type of kind 7 is a type reference
  pub a_target : le2 s (kind + 4) ≡ 7 → (a : Accepted s 1 7 kind) → (target : Name) × (kind_of (type_of (tree a)) ≡ ResolvedTypeKind.TypeRef target)
  a_target ek a = (_, (target_at refl ek a).is)

-- ---- the node inside an AlignUp node

-- what the switch of an enum leaves
abbrev EnumLeft : (s xs : List ℕ) (at : ℕ) (us ys : List ℕ) (r : Result Built Reason) (kind : ℕ) (g : Registry) → Type 0
EnumLeft s xs at us ys r kind g =
    (a : Accepted s 1 7 kind) (e : ExprKind) (vs : Variants) → kind_of (type_of (tree a)) ≡ ResolvedTypeKind.Enum e vs →
    Builds s xs at us ys r (build_enum_node (head (type_of (tree a))) e vs g)

-- what the switch of a size-discriminated union leaves
abbrev SizedLeft : (s xs : List ℕ) (at : ℕ) (us ys : List ℕ) (r : Result Built Reason) (kind : ℕ) (g : Registry) → Type 0
SizedLeft s xs at us ys r kind g =
    (a : Accepted s 1 7 kind) (vs : Variants) → kind_of (type_of (tree a)) ≡ ResolvedTypeKind.SizeDiscriminatedUnion vs →
    Builds s xs at us ys r (build_size_discriminated_union_node (head (type_of (tree a))) vs g)

module _ {s xs us ys : List ℕ} {at kind : ℕ} (g : Registry) where
  -- by the kind of the type
  inner_at : {r : Result Built Reason} (t : Tree) (a : Accepted s 1 7 kind) {z : ResolvedTypeKind} → kind_of (type_of (tree a)) ≡ z →
      Builds s xs at us ys r (inner (types_of t) (head (type_of (tree a))) z g) → Builds s xs at us ys r (inner (types_of t) (head (type_of (tree a))) (kind_of (type_of (tree a))) g)
  inner_at {r} t a i b = subst (λ (z : ResolvedTypeKind). Builds s xs at us ys r (inner (types_of t) (head (type_of (tree a))) z g)) (sym i) b

  module _ (ek : le2 s (kind + 4) ≡ 4) where
    -- the switch of an enum was refused
    pub enum_stops : {ws zs : List ℕ} {e : Reason} → EnumLeft s xs at ws zs (Err e) kind g → InnerLeft s xs at us ys (Err e) kind g
    unfolding inner build_variable
    enum_stops b t a q =
        let i = (an_enum ek a).2 in
        inner_at t a i (own_passes (head (type_of (tree a))) (build_enum_node (head (type_of (tree a))) _ _) g (b a _ _ i))

    -- it was built, and what enters behind it
    pub enum_inner : {ws : List ℕ} {node : Built} {r : Result Built Reason} → EnumLeft s xs at ws ys (Ok node) kind g → OwnLeft s ws node kind us r → InnerLeft s xs at us ys r kind g
    unfolding inner build_variable
    enum_inner b k t a q =
        let i = (an_enum ek a).2 in
        inner_at t a i (k a xs ys at (build_enum_node (head (type_of (tree a))) _ _) g (b a _ _ i))

    -- the index behind it
    pub enum_index : {node : Built} → EnumLeft s xs at us ys (Ok node) kind g → Accepted s 1 7 kind → Indexed s us node.count
    enum_index b a = builds_index (b a _ _ (an_enum ek a).2)

  module _ (ek : le2 s (kind + 4) ≡ 6) where
    -- the switch of a size-discriminated union was refused
    pub sized_stops : {ws zs : List ℕ} {e : Reason} → SizedLeft s xs at ws zs (Err e) kind g → InnerLeft s xs at us ys (Err e) kind g
    unfolding inner build_variable
    sized_stops b t a q =
        let i = (a_sized ek a).1 in
        inner_at t a i (own_passes (head (type_of (tree a))) (build_size_discriminated_union_node (head (type_of (tree a))) _) g (b a _ i))

    -- it was built, and what enters behind it
    pub sized_inner : {ws : List ℕ} {node : Built} {r : Result Built Reason} → SizedLeft s xs at ws ys (Ok node) kind g → OwnLeft s ws node kind us r → InnerLeft s xs at us ys r kind g
    unfolding inner build_variable
    sized_inner b k t a q =
        let i = (a_sized ek a).1 in
        inner_at t a i (k a xs ys at (build_size_discriminated_union_node (head (type_of (tree a))) _) g (b a _ i))

    -- the index behind it
    pub sized_index : {node : Built} → SizedLeft s xs at us ys (Ok node) kind g → Accepted s 1 7 kind → Indexed s us node.count
    sized_index b a = builds_index (b a _ (a_sized ek a).1)

  -- the call of a type reference, which enters none of its own references
  pub call_inner : {r : Result Built Reason} → le2 s (kind + 4) ≡ 7 →
      ((t : Tree) (a : Accepted s 1 7 kind) (target : Name) → read_set s ≡ done t → kind_of (type_of (tree a)) ≡ ResolvedTypeKind.TypeRef target →
      Builds s xs at us ys r (build_typeref_node (types_of t) (head (type_of (tree a))) target g)) → InnerLeft s xs at us ys r kind g
  unfolding inner
  call_inner ek b t a q =
      let i = (a_target ek a).1 in
      inner_at t a i (b t a _ q i)

module _ {s xs x₁ x₂ us ys : List ℕ} {at p kind : ℕ} (g : Registry) where
  -- that node was refused
  pub inner_stops : {e : Reason} → InnerLeft s x₁ p us x₂ (Err e) kind g → AlignedLeft s xs at us ys (Err e) kind g
  inner_stops b t a q = aligned_passes _ (inner (types_of t) (head (type_of (tree a))) (kind_of (type_of (tree a)))) g (b t a q)

  -- it was built, and aligned
  pub inner_aligned : {q : ℕ} {h : TypeHead} {node : Built} → ((a : Accepted s 1 7 kind) → HeadAt a h) → Opened xs at h x₁ p → Wrote x₂ at (bytes 4 (node.at - at - 4)) ys q →
      InnerLeft s x₁ p us x₂ (Ok node) kind g → AlignedLeft s xs at us ys (Ok node) kind g
  inner_aligned hd w c b t a q = aligned_at g hd w c a (inner (types_of t) (head (type_of (tree a))) (kind_of (type_of (tree a)))) (b t a q)

module _ (types : List ResolvedType) (n : Name) (h : Head) (g : Registry) where
  -- an enum without a payload is that node, aligned
  enum_aligned : (e : ExprKind) (vs : Variants) → build_field_enum [] n h e vs g ≡ with_align h.alignment (inner types h (ResolvedTypeKind.Enum e vs)) g
  unfolding build_field_enum inner build_variable with_own with_align
  enum_aligned e vs = between (build_enum_node h e vs) (extend_with h.dynamic_params) (λ m. give (align_node m h.alignment)) g

  -- so is a size-discriminated union
  sized_aligned : (refs : List Owner) (vs : Variants) →
      build_variable_field types refs n h (ResolvedTypeKind.SizeDiscriminatedUnion vs) g ≡ with_align h.alignment (inner types h (ResolvedTypeKind.SizeDiscriminatedUnion vs)) g
  unfolding build_variable_field inner build_variable with_own with_align
  sized_aligned refs vs = between (build_size_discriminated_union_node h vs) (extend_with h.dynamic_params) (λ m. give (align_node m h.alignment)) g

  -- and a type reference
  call_aligned : (refs : List Owner) (target : Name) →
      build_variable_field types refs n h (ResolvedTypeKind.TypeRef target) g ≡ with_align h.alignment (inner types h (ResolvedTypeKind.TypeRef target)) g
  unfolding build_variable_field inner with_align
  call_aligned refs target = refl

-- ---- the struct's references for a field

-- the paths that were found are accepted
pub paths_found : {s : List ℕ} {references q : ℕ} {o : Name} → ((b : Accepted s 32 32 references) → PathsFound s o (owners_of (tree b)) (Some q)) →
    Accepted s 32 32 references → PathsAt s q
paths_found k b = (found_paths (k b)).0

-- what is found among a struct's references
abbrev Found : (s : List ℕ) (references : ℕ) (o : Name) (f : Option ℕ) → Type 0
Found s references o f = (b : Accepted s 32 32 references) → PathsFound s o (owners_of (tree b)) f

-- the same by the name at an offset
refs_named : {s : List ℕ} {references : ℕ} (name : ℕ) {o : List ℕ} {f : Option ℕ} → o ≡ name_at s name → Found s references o f → Found s references (name_at s name) f
refs_named {s} name {f} eo k b = subst (λ (z : Name). PathsFound s z (owners_of (tree b)) f) eo (k b)

-- with a path that ends in `.payload_size` an enum is the sum of such paths
some_payload : (n : Name) (g : Registry) (ps : List Name) (h : Head) (e : ExprKind) (vs : Variants) → some_name ps ≡ true →
    build_field_enum ps n h e vs g ≡ (sum_refs n ps >>= (λ m. give (align_node m h.alignment))) g
unfolding build_field_enum
some_payload n g [] h e vs y = absurd (cc)
some_payload n g (p ∷ ps) h e vs y = refl

-- without one it is a switch
no_payload : (n : Name) (g : Registry) (ps : List Name) (h : Head) (e : ExprKind) (vs : Variants) → some_name ps ≡ false → build_field_enum ps n h e vs g ≡ build_field_enum [] n h e vs g
unfolding build_field_enum
no_payload n g [] h e vs y = refl
no_payload n g (p ∷ ps) h e vs y = absurd (cc)

module _ {s : List ℕ} (kind name : ℕ) (g : Registry) where
  -- the struct has no references for the field
  pub refs_missing : {xs us ys : List ℕ} {at references : ℕ} {o : List ℕ} → o ≡ name_at s name → Found s references o None → (b : Accepted s 32 32 references) (a : Accepted s 1 7 kind) →
      Builds s xs at us ys (Err reason.MissingDynamicRefs) (build_field_refs (owners_of (tree b)) (name_at s name) (head (type_of (tree a))) g)
  unfolding build_field_refs
  refs_missing eo k b a = refuses (need_none 11 _ g (found_none (refs_named name eo k b)))

  -- it has: the sum of their paths
  pub refs_found : {xs us ys : List ℕ} {at references q : ℕ} {o : List ℕ} {r : Result Built Reason} → o ≡ name_at s name → Found s references o (Some q) →
      ((p : PathsAt s q) (a : Accepted s 1 7 kind) → Builds s xs at us ys r (sum_of (name_at s name) (head (type_of (tree a))) (texts_of p.list.got.0) g)) →
      (b : Accepted s 32 32 references) (a : Accepted s 1 7 kind) → Builds s xs at us ys r (build_field_refs (owners_of (tree b)) (name_at s name) (head (type_of (tree a))) g)
  unfolding build_field_refs with_own
  refs_found {xs} {us} {ys} {at} {r} eo k h b a = let w = found_paths (refs_named name eo k b) in subst (Builds s xs at us ys r) (sym (need_some 11 _ g w.1)) (h w.0 a)

  -- ---- enums

  module _ (ek : le2 s (kind + 4) ≡ 4) where
    -- the field's node, by the paths that end in `.payload_size`
    enum_is : (types : List ResolvedType) (refs : List Owner) (a : Accepted s 1 7 kind) (ps : List Name) → or_else [] (get (name_at s name) refs) ≡ ps →
        {e : ExprKind} {vs : Variants} → kind_of (type_of (tree a)) ≡ ResolvedTypeKind.Enum e vs →
        build_variable_field types refs (name_at s name) (head (type_of (tree a))) (kind_of (type_of (tree a))) g ≡ build_field_enum (payload_paths ps) (name_at s name) (head (type_of (tree a))) e vs g
    unfolding build_variable_field
    enum_is types refs a ps eps {e} {vs} i =
        ap (λ (z : ResolvedTypeKind). build_variable_field types refs (name_at s name) (head (type_of (tree a))) z g) i
        ∙ ap (λ (z : List Name). build_field_enum (payload_paths z) (name_at s name) (head (type_of (tree a))) e vs g) eps

    -- that switch is the node inside, aligned
    switch_is : (types : List ResolvedType) (a : Accepted s 1 7 kind) {e : ExprKind} {vs : Variants} → kind_of (type_of (tree a)) ≡ ResolvedTypeKind.Enum e vs →
        build_field_enum [] (name_at s name) (head (type_of (tree a))) e vs g ≡ with_align (head (type_of (tree a))).alignment (inner types (head (type_of (tree a))) (kind_of (type_of (tree a)))) g
    switch_is types a i =
        enum_aligned types (name_at s name) (head (type_of (tree a))) g _ _
        ∙ ap (λ (z : ResolvedTypeKind). with_align (head (type_of (tree a))).alignment (inner types (head (type_of (tree a))) z) g) (sym i)

    module _ {xs us ys : List ℕ} {at references q : ℕ} {o : List ℕ} {v : Bool} {r : Result Built Reason} (eo : o ≡ name_at s name) (k : Found s references o (Some q)) where
      -- an enum, where a path of the struct's references for it ends in `.payload_size`
      pub enum_payload : ((p : PathsAt s q) → v ≡ some_name (payload_paths (texts_of p.list.got.0))) → v ≡ true →
          ((p : PathsAt s q) (a : Accepted s 1 7 kind) → Builds s xs at us ys r (payload_of (name_at s name) (head (type_of (tree a))) (texts_of p.list.got.0) g)) →
          VariableLeft s xs at us ys r references name kind g
      unfolding with_align
      enum_payload has y h t b a d =
          let w = found_paths (refs_named name eo k b) in
          let T : List Name = texts_of w.0.list.got.0 in
          let i = (an_enum ek a).2 in
          subst (Builds s xs at us ys r)
          (sym (enum_is (types_of t) (owners_of (tree b)) a T (ap (or_else []) w.1) i ∙ some_payload (name_at s name) g (payload_paths T) (head (type_of (tree a))) _ _ (sym (has w.0) ∙ y))) (h w.0 a)

      -- an enum, where no path does
      pub enum_plain : ((p : PathsAt s q) → v ≡ some_name (payload_paths (texts_of p.list.got.0))) → v ≡ false →
          AlignedLeft s xs at us ys r kind g → VariableLeft s xs at us ys r references name kind g
      enum_plain has y h t b a d =
          let w = found_paths (refs_named name eo k b) in
          let T : List Name = texts_of w.0.list.got.0 in
          let i = (an_enum ek a).2 in
          subst (Builds s xs at us ys r)
          (sym (enum_is (types_of t) (owners_of (tree b)) a T (ap (or_else []) w.1) i ∙ no_payload (name_at s name) g (payload_paths T) (head (type_of (tree a))) _ _ (sym (has w.0) ∙ y)
          ∙ switch_is (types_of t) a i)) (h t a d)

    -- an enum for which the struct has no references
    pub enum_missing : {xs us ys : List ℕ} {at references : ℕ} {o : List ℕ} {r : Result Built Reason} → o ≡ name_at s name → Found s references o None →
        AlignedLeft s xs at us ys r kind g → VariableLeft s xs at us ys r references name kind g
    unfolding payload_paths
    enum_missing {xs} {us} {ys} {at} {r} eo k h t b a d =
        let i = (an_enum ek a).2 in
        subst (Builds s xs at us ys r)
        (sym (enum_is (types_of t) (owners_of (tree b)) a [] (ap (or_else []) (found_none (refs_named name eo k b))) i ∙ switch_is (types_of t) a i)) (h t a d)

-- ---- arrays

-- what the definition says of a field that is an array
array_of : (types : List ResolvedType) (refs : List Owner) (n : Name) (g : Registry) (t : ResolvedType) {x : ResolvedType} {e : ExprKind} {j : Bool} → kind_of t ≡ ResolvedTypeKind.Array x e j →
    build_variable_field types refs n (head t) (kind_of t) g ≡ with_own (head t) (build_array_node_with_prefix n [] t) g
unfolding build_variable_field with_own
array_of types refs n g (ResolvedType.resolved h k) {x} {e} {j} i =
    subst (λ (y : ResolvedTypeKind). build_variable_field types refs n h y g ≡ with_own h (build_array_node_with_prefix n [] (ResolvedType.resolved h y)) g) (sym i) refl

-- what an array under an owner leaves
abbrev ArrayLeft : (s xs : List ℕ) (at : ℕ) (us ys : List ℕ) (r : Result Built Reason) (owner : Name) (kind : ℕ) (g : Registry) → Type 0
ArrayLeft s xs at us ys r owner kind g =
    (a : Accepted s 1 7 kind) → Builds s xs at us ys r (build_array_node_with_prefix owner (prefix_of 0) (type_of (tree a)) g)

-- the same under the name at an offset
array_named : {s xs us ys : List ℕ} {at kind : ℕ} {o : List ℕ} {r : Result Built Reason} (name : ℕ) (g : Registry) → o ≡ name_at s name → ArrayLeft s xs at us ys r o kind g →
    (a : Accepted s 1 7 kind) → Builds s xs at us ys r (build_array_node_with_prefix (name_at s name) [] (type_of (tree a)) g)
unfolding prefix_of
array_named {s} {xs} {us} {ys} {at} {r} name g eo b a = subst (λ (z : Name). Builds s xs at us ys r (build_array_node_with_prefix z [] (type_of (tree a)) g)) eo (b a)

-- what a field that is an array leaves
abbrev ArrayFieldLeft : (s xs : List ℕ) (at : ℕ) (us ys : List ℕ) (r : Result Built Reason) (name kind : ℕ) (g : Registry) → Type 0
ArrayFieldLeft s xs at us ys r name kind g =
    (t : Tree) (refs : List Owner) (a : Accepted s 1 7 kind) → read_set s ≡ done t →
    Builds s xs at us ys r (build_variable_field (types_of t) refs (name_at s name) (head (type_of (tree a))) (kind_of (type_of (tree a))) g)

module _ {s xs us ys : List ℕ} {at kind : ℕ} {o : List ℕ} (name : ℕ) (g : Registry) (ek : le2 s (kind + 4) ≡ 5) (eo : o ≡ name_at s name) where
  -- its node was refused
  pub array_stops : {ws zs : List ℕ} {e : Reason} → ArrayLeft s xs at ws zs (Err e) o kind g → ArrayFieldLeft s xs at us ys (Err e) name kind g
  array_stops {e} b t refs a q =
      subst (Builds s xs at us ys (Err e)) (sym (array_of (types_of t) refs (name_at s name) g (type_of (tree a)) (array_at ek refl refl refl a).is))
      (own_passes (head (type_of (tree a))) (build_array_node_with_prefix (name_at s name) [] (type_of (tree a))) g (array_named name g eo b a))

  -- it was built, and what enters behind it
  pub array_built : {ws : List ℕ} {node : Built} {r : Result Built Reason} → ArrayLeft s xs at ws ys (Ok node) o kind g → OwnLeft s ws node kind us r →
      ArrayFieldLeft s xs at us ys r name kind g
  array_built {r} b k t refs a q =
      subst (Builds s xs at us ys r) (sym (array_of (types_of t) refs (name_at s name) g (type_of (tree a)) (array_at ek refl refl refl a).is))
      (k a xs ys at (build_array_node_with_prefix (name_at s name) [] (type_of (tree a))) g (array_named name g eo b a))

-- ---- by the kind, and by the size

-- a type's kind stands inside the set
pub kind_inside : {s : List ℕ} {kind : ℕ} → Accepted s 1 7 kind → kind + 4 + 2 ≤ length s
kind_inside a = omega (arith, inside a, long a)

module _ {s xs us ys : List ℕ} {at references kind k : ℕ} {r : Result Built Reason} (name : ℕ) (g : Registry) (ek : k ≡ le2 s (kind + 4)) where
  -- what was built is the field's node, by the kind of its type
  by_kind : (t : Tree) (b : Accepted s 32 32 references) (a : Accepted s 1 7 kind) (z : ResolvedTypeKind) {m : Outcome (IrNode × Registry)} → kind_of (type_of (tree a)) ≡ z →
      build_variable_field (types_of t) (owners_of (tree b)) (name_at s name) (head (type_of (tree a))) z g ≡ m → Builds s xs at us ys r m →
      Builds s xs at us ys r (build_variable_field (types_of t) (owners_of (tree b)) (name_at s name) (head (type_of (tree a))) (kind_of (type_of (tree a))) g)
  by_kind t b a z i e h =
      subst (Builds s xs at us ys r)
      (sym (ap (λ (z : ResolvedTypeKind). build_variable_field (types_of t) (owners_of (tree b)) (name_at s name) (head (type_of (tree a))) z g) i ∙ e)) h

  -- a primitive type, a struct or a union is the sum of the struct's references for it
  pub refs_kind : k < 4 →
      ((b : Accepted s 32 32 references) (a : Accepted s 1 7 kind) → Builds s xs at us ys r (build_field_refs (owners_of (tree b)) (name_at s name) (head (type_of (tree a))) g)) →
      VariableLeft s xs at us ys r references name kind g
  unfolding build_variable_field
  refs_kind l h t b a d = go (eqb k 1) refl (eqb k 2) refl
    where
      go : (x : Bool) → eqb k 1 ≡ x → (y : Bool) → eqb k 2 ≡ y →
          Builds s xs at us ys r (build_variable_field (types_of t) (owners_of (tree b)) (name_at s name) (head (type_of (tree a))) (kind_of (type_of (tree a))) g)
      go true e y f = by_kind t b a _ (primitive a (sym ek ∙ eqb-true k 1 e)) refl (h b a)
      go false e true f = let w = eqb-true k 2 f in by_kind t b a _ (a_struct (sym ek ∙ w) a).1 refl (h b a)
      go false e false f =
          let u = eqb-false k 1 e in
          let v = eqb-false k 2 f in
          let w : le2 s (kind + 4) ≡ 3 = omega (arith, (kind_of_lem a).0) in
          by_kind t b a _ (a_union w a).1 refl (h b a)

  -- a size-discriminated union or a type reference is the node inside, aligned
  pub aligned_kind : 4 ≤ k → (k ≡ 4 → ⊥) → (k ≡ 5 → ⊥) → AlignedLeft s xs at us ys r kind g → VariableLeft s xs at us ys r references name kind g
  aligned_kind l n₄ n₅ h t b a d = go (eqb k 6) refl
    where
      inside_is : {z : ResolvedTypeKind} → kind_of (type_of (tree a)) ≡ z →
          with_align (head (type_of (tree a))).alignment (inner (types_of t) (head (type_of (tree a))) z) g ≡
          with_align (head (type_of (tree a))).alignment (inner (types_of t) (head (type_of (tree a))) (kind_of (type_of (tree a)))) g
      inside_is i = ap (λ (z : ResolvedTypeKind). with_align (head (type_of (tree a))).alignment (inner (types_of t) (head (type_of (tree a))) z) g) (sym i)

      go : (x : Bool) → eqb k 6 ≡ x →
          Builds s xs at us ys r (build_variable_field (types_of t) (owners_of (tree b)) (name_at s name) (head (type_of (tree a))) (kind_of (type_of (tree a))) g)
      go true e =
          let i = (a_sized (sym ek ∙ eqb-true k 6 e) a).1 in
          by_kind t b a _ i (sized_aligned (types_of t) (name_at s name) (head (type_of (tree a))) g (owners_of (tree b)) _ ∙ inside_is i) (h t a d)
      go false e =
          let n₆ = eqb-false k 6 e in
          let w : le2 s (kind + 4) ≡ 7 = omega (arith, (kind_of_lem a).1) in
          let i = (a_target w a).1 in
          by_kind t b a _ i (call_aligned (types_of t) (name_at s name) (head (type_of (tree a))) g (owners_of (tree b)) _ ∙ inside_is i) (h t a d)

module _ {s : List ℕ} {kind : ℕ} {h : TypeHead} (references name : ℕ) (g : Registry) (hd : (a : Accepted s 1 7 kind) → HeadAt a h) where
  -- the field's node, by its size
  size_is : (types : List ResolvedType) (refs : List Owner) (a : Accepted s 1 7 kind) (v : Option ℕ) → h.size ≡ v →
      build_field types refs (name_at s name) (head (type_of (tree a))).size (head (type_of (tree a))) (kind_of (type_of (tree a))) g ≡
      build_field types refs (name_at s name) (sized v) (head (type_of (tree a))) (kind_of (type_of (tree a))) g
  size_is types refs a v e = ap (λ (z : Size). build_field types refs (name_at s name) z (head (type_of (tree a))) (kind_of (type_of (tree a))) g) ((hd a).size ∙ ap sized e)

  -- a field of variable size
  pub field_variable : {xs us ys : List ℕ} {at : ℕ} {r : Result Built Reason} → h.size ≡ None →
      (VariableLeft s xs at us ys r references name kind g) →
      FieldLeft s xs at us ys r references name kind g
  unfolding build_field
  field_variable {xs} {us} {ys} {at} {r} v k t b a d = subst (Builds s xs at us ys r) (sym (size_is (types_of t) (owners_of (tree b)) a None v)) (k t b a d)

  module _ {us : List ℕ} {size : ℕ} (v : h.size ≡ Some size) where
    -- the references of a constant field were refused
    pub field_stops : {xs ys : List ℕ} {at : ℕ} {e : Reason} → ((a : Accepted s 1 7 kind) → Kept s us (Err e) (extend_with (head (type_of (tree a))).dynamic_params g)) →
        FieldLeft s xs at us ys (Err e) references name kind g
    unfolding build_field
    field_stops {xs} {ys} {at} {e} k t b a d =
        subst (Builds s xs at us ys (Err e)) (sym (size_is (types_of t) (owners_of (tree b)) a (Some size) v))
        (step_passes (extend_with (head (type_of (tree a))).dynamic_params) _ g (k a))

    -- they enter, and the field is a constant
    pub field_done : {xs ys : List ℕ} {at u n : ℕ} → ((a : Accepted s 1 7 kind) → Kept s us (Ok n) (extend_with (head (type_of (tree a))).dynamic_params g)) → Wrote xs at (write (node_tree (const_or_zero size h.alignment))) ys u →
        FieldLeft s xs at us ys (Ok (record { at = u; count = n })) references name kind g
    unfolding build_field give
    field_done {xs} {ys} {at} {u} {n} k w t b a d =
        let w' = subst (λ (m : ℕ). Wrote xs at (write (node_tree (const_or_zero size m))) ys u) (sym (hd a).alignment) w in
        subst (Builds s xs at us ys (Ok (record { at = u; count = n }))) (sym (size_is (types_of t) (owners_of (tree b)) a (Some size) v))
        (step_goes (extend_with (head (type_of (tree a))).dynamic_params) _ g (k a) (λ x m. AnswersIn.made _ (record { entries = m.entries; index = m.index; wrote = w' })))

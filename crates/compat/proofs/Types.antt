-- A type and what it has grown to are built to a node and its extension, from one registry to one registry.
use mathlib.Core.Path.{◌≡◌, refl, sym, ◌∙◌, ap}
use mathlib.Core.Bool.{Bool, true, false, ◌&&◌}
use mathlib.Core.List.{List, [], ◌∷◌}
use mathlib.Core.Option.{Option, some, none}
use Prim.Native.Nat.{ℕ, suc}
use Rattle.blocks.specs.Name.{Name}
use Rattle.expr.specs.Expr.{ExprKind}
use Rattle.resolved.proofs.Lookup.{some_one}
use Rattle.resolved.specs.Resolved.{Owner, Size, Head, ResolvedType, ResolvedTypeKind, Fields, Variants}
use Rattle.resolved.specs.Resolved.{head, kind_of, fields, variants, get, get_type_info, target_of, jagged_of}
use Rattle.ir.specs.Ir.{IrNode}
use Rattle.builder.specs.Names.{or_else}
use Rattle.builder.specs.Registry.{Build}
use Rattle.builder.specs.Nodes.{is_variable, build_typeref_node, sum_over_array, build_element, build_elements}
use Rattle.builder.specs.Nodes.{build_array_node_with_prefix, build_array_kind, build_array_node}
use Rattle.builder.specs.Nodes.{enum_alternatives, union_alternatives, sized_alternatives}
use Rattle.builder.specs.Nodes.{build_enum_node, build_union_node, build_size_discriminated_union_node}
use Rattle.builder.specs.Nodes.{payload_paths, build_field_enum, build_field_refs, build_variable_field, build_field, build_fields}
use Rattle.builder.specs.Nodes.{build_variable_struct, build_variable, node_from_resolved}
use Rattle.compat.specs.Types.{TypeGrown, KindGrown, FieldsGrown, VariantsGrown, TypesGrown}
use Rattle.compat.specs.Nodes.{NodeExtended}
use Rattle.compat.proofs.Keeps.{Keeps, gives, refuses, needs, requires, binds, first}
use Rattle.compat.proofs.Nodes.{same_arguments, Added, Extends, NodesExtended, align_extends, const_or_zero_extends}
use Rattle.compat.proofs.Nodes.{combine_extends, sum_extends, expr_extends, switch_extends, padding_extends}

-- ---- what growing keeps

-- its head
head_kept : {t t' : ResolvedType} → TypeGrown t t' → head t ≡ head t'
head_kept (TypeGrown.resolved h g) = refl

-- the name that a type reference has, and whether the type is a jagged array
pub kind_kept : {v : Bool} {k k' : ResolvedTypeKind} → KindGrown v k k' → (target_of k ≡ target_of k') × (jagged_of k ≡ jagged_of k')
kind_kept (KindGrown.Primitive v) = (refl, refl)
kind_kept (KindGrown.Struct v g) = (refl, refl)
kind_kept (KindGrown.Union g) = (refl, refl)
kind_kept (KindGrown.Enum e g) = (refl, refl)
kind_kept (KindGrown.Array v e j g) = (refl, refl)
kind_kept (KindGrown.SizeDiscriminatedUnion g) = (refl, refl)
kind_kept (KindGrown.TypeRef v n) = (refl, refl)

-- The alternatives of a union, enum or sized union stay, since of a nested type they show its head alone; more may stand
-- behind them.
union_added : {v : Bool} {fs fs' : Fields} (i : ℕ) → FieldsGrown v fs fs'
    → Added (union_alternatives i (fields fs)) (union_alternatives i (fields fs'))
unfolding union_alternatives fields
union_added i (FieldsGrown.no_field v) = Added.last _
union_added i (FieldsGrown.added_fields fs) = Added.last _
union_added i (FieldsGrown.field n o (TypeGrown.resolved h k) g) = Added.more _ (union_added (suc i) g)

-- the alternatives of an enum
enum_added : {v : Bool} {vs vs' : Variants} → VariantsGrown v vs vs'
    → Added (enum_alternatives (variants vs)) (enum_alternatives (variants vs'))
unfolding enum_alternatives variants
enum_added (VariantsGrown.no_variant v) = Added.last _
enum_added (VariantsGrown.added_variants vs) = Added.last _
enum_added (VariantsGrown.variant n x (TypeGrown.resolved h k) g) = Added.more _ (enum_added g)

-- those of a sized union
sized_added : {v : Bool} {vs vs' : Variants} → VariantsGrown v vs vs'
    → Added (sized_alternatives (variants vs)) (sized_alternatives (variants vs'))
unfolding sized_alternatives variants
sized_added (VariantsGrown.no_variant v) = Added.last _
sized_added (VariantsGrown.added_variants vs) = Added.last _
sized_added (VariantsGrown.variant n x (TypeGrown.resolved h k) g) = Added.more _ (sized_added g)

module _ {Known : Name → Type 0} where
  -- ---- arrays

  -- a sum over an array, with an extended count
  sum_over_array_extends : (h : Head) (owner : Name) {v : Bool} {k k' : ResolvedTypeKind} {c c' : IrNode}
      → NodeExtended Known c c' → KindGrown v k k'
      → Extends Known (sum_over_array h owner c k) (sum_over_array h owner c' k')
  unfolding sum_over_array
  sum_over_array_extends h owner x g =
      rw (kind_kept g).0
      (first _ (λ target.
      gives _ _ (align_extends h.alignment (NodeExtended.SumOverArray _ _ _ target owner x))))

  module _ {inside inside' : Build IrNode} (inner : Extends Known inside inside') where
    -- the node of an array's element
    element_extends : (s : Size) (a : ℕ) {v : Bool} {k k' : ResolvedTypeKind} → KindGrown v k k'
        → Extends Known (build_element inside s a k) (build_element inside' s a k')
    unfolding build_element
    element_extends (Size.Const v) a g = gives _ _ (NodeExtended.Const _ _ _ v)
    element_extends Size.Variable a g = rw (kind_kept g).1 (first _ (λ _. inner))

    -- an array's count and elements
    elements_extend : (h : Head) (owner : Name) (b : Bool) (eh : Head) {v : Bool} {k k' : ResolvedTypeKind} {c c' : IrNode}
        → NodeExtended Known c c' → KindGrown v k k'
        → Extends Known (build_elements inside h owner c b eh k) (build_elements inside' h owner c' b eh k')
    unfolding build_elements
    elements_extend h owner true eh x g = sum_over_array_extends h owner x g
    elements_extend h owner false eh x g =
        first _ (λ _.
        binds (element_extends eh.size eh.alignment g) (λ n n' y.
        gives _ _ (align_extends h.alignment (NodeExtended.Binary _ _ _ _ x y))))

    -- the same, from the element's type
    inner_extends : (h : Head) (owner : Name) (j : Bool) {t t' : ResolvedType} {c c' : IrNode}
        → NodeExtended Known c c' → TypeGrown t t'
        → Extends Known
        (build_elements inside h owner c (j && is_variable (head t).size) (head t) (kind_of t))
        (build_elements inside' h owner c' (j && is_variable (head t').size) (head t') (kind_of t'))
    inner_extends h owner j x (TypeGrown.resolved eh g) = elements_extend h owner (j && is_variable eh.size) eh x g

  mutual
    unfolding build_array_node_with_prefix build_array_kind

    -- the node of an array
    array_extends : {t t' : ResolvedType} → TypeGrown t t' → (owner prefix : Name)
        → Extends Known (build_array_node_with_prefix owner prefix t) (build_array_node_with_prefix owner prefix t')
    array_extends (TypeGrown.resolved h g) owner prefix = array_kind_extends g owner prefix h

    -- the same by the type's kind: only an array has such a node
    array_kind_extends : {v : Bool} {k k' : ResolvedTypeKind} → KindGrown v k k' → (owner prefix : Name) (h : Head)
        → Extends Known (build_array_kind owner prefix h k) (build_array_kind owner prefix h k')
    array_kind_extends (KindGrown.Primitive v) owner prefix h = refuses _ _
    array_kind_extends (KindGrown.Struct v g) owner prefix h = refuses _ _
    array_kind_extends (KindGrown.Union g) owner prefix h = refuses _ _
    array_kind_extends (KindGrown.Enum e g) owner prefix h = refuses _ _
    array_kind_extends (KindGrown.Array v e j g) owner prefix h =
        binds (expr_extends owner prefix e) (λ c c' x.
        inner_extends (array_extends g owner _) h owner j x g)
    array_kind_extends (KindGrown.SizeDiscriminatedUnion g) owner prefix h = refuses _ _
    array_kind_extends (KindGrown.TypeRef v n) owner prefix h = refuses _ _

  -- an array that is a root
  array_root_extends : {t t' : ResolvedType} → TypeGrown t t' → Extends Known (build_array_node t) (build_array_node t')
  unfolding build_array_node
  array_root_extends (TypeGrown.resolved h g) = first _ (λ owner. array_extends (TypeGrown.resolved h g) owner [])

  -- ---- switches

  -- a union
  union_extends : (h : Head) {v : Bool} {fs fs' : Fields} → FieldsGrown v fs fs'
      → Extends Known (build_union_node h fs) (build_union_node h fs')
  unfolding build_union_node
  union_extends h g = first _ (λ _. first _ (λ tag. switch_extends h tag (union_added 0 g)))

  -- an enum
  enum_extends : (h : Head) (e : ExprKind) {v : Bool} {vs vs' : Variants} → VariantsGrown v vs vs'
      → Extends Known (build_enum_node h e vs) (build_enum_node h e vs')
  unfolding build_enum_node
  enum_extends h e g = first _ (λ _. first _ (λ tag. switch_extends h tag (enum_added g)))

  -- a sized union
  sized_extends : (h : Head) {v : Bool} {vs vs' : Variants} → VariantsGrown v vs vs'
      → Extends Known (build_size_discriminated_union_node h vs) (build_size_discriminated_union_node h vs')
  unfolding build_size_discriminated_union_node
  sized_extends h g =
      first _ (λ _.
      binds (requires _ _ _) (λ _ _ _.
      first _ (λ tag. switch_extends h tag (sized_added g))))

  -- ---- fields that look up no type

  -- a field by its references
  field_refs_extend : (refs : List Owner) (n : Name) (h : Head)
      → Extends Known (build_field_refs refs n h) (build_field_refs refs n h)
  unfolding build_field_refs
  field_refs_extend refs n h = first _ (λ paths. binds (sum_extends n paths) (λ m m' x. first _ (λ _. gives _ _ x)))

  -- a field that is an enum: the sum of its own paths, or its switch
  field_enum_extends : (paths : List Name) (n : Name) (h : Head) (e : ExprKind) {v : Bool} {vs vs' : Variants}
      → VariantsGrown v vs vs' → Extends Known (build_field_enum paths n h e vs) (build_field_enum paths n h e vs')
  unfolding build_field_enum
  field_enum_extends [] n h e g =
      binds (enum_extends h e g) (λ m m' x.
      first _ (λ _. gives _ _ (align_extends h.alignment x)))
  field_enum_extends (p ∷ ps) n h e g =
      binds (sum_extends n (p ∷ ps)) (λ m m' x.
      gives _ _ (align_extends h.alignment x))

-- ---- nodes in a set of types; a name that the old set has is known

module _ (Known : Name → Type 0) (old new : List ResolvedType) (grown : TypesGrown old new)
    (known : (n : Name) (t : ResolvedType) → get_type_info n old ≡ some t → Known n) where
  -- the target of a call has the same references in both sets
  target_found : (n : Name) (t t' : ResolvedType) → get_type_info n old ≡ some t → get_type_info n new ≡ some t'
      → (head t ≡ head t') × Known n
  target_found n t t' e e' =
      let g = grown n t e in
      let i : g.type ≡ t' = some_one (sym g.found ∙ e') in
      (head_kept g.grown ∙ ap head i, known n t e)

  -- a type reference
  typeref_extends : (h : Head) (target : Name)
      → Extends Known (build_typeref_node old h target) (build_typeref_node new h target)
  unfolding build_typeref_node
  typeref_extends h target =
      binds (needs (get_type_info target old) (get_type_info target new) _ (target_found target)) (λ t t' x.
      rw x.0
      (first _ (λ xs.
      gives _ _ (NodeExtended.CallNested _ _ _ target x.1 (same_arguments xs)))))

  -- a field of variable size, by its kind
  variable_field_extends : (refs : List Owner) (n : Name) (h : Head) {v : Bool} {k k' : ResolvedTypeKind} → KindGrown v k k'
      → Extends Known (build_variable_field old refs n h k) (build_variable_field new refs n h k')
  unfolding build_variable_field
  variable_field_extends refs n h (KindGrown.Primitive v) = field_refs_extend refs n h
  variable_field_extends refs n h (KindGrown.Struct v g) = field_refs_extend refs n h
  variable_field_extends refs n h (KindGrown.Union g) = field_refs_extend refs n h
  variable_field_extends refs n h (KindGrown.Enum e g) = field_enum_extends (payload_paths (or_else [] (get n refs))) n h e g
  variable_field_extends refs n h (KindGrown.Array v e j g) =
      binds (array_extends (TypeGrown.resolved h (KindGrown.Array _ e j g)) n []) (λ m m' x.
      first _ (λ _. gives _ _ x))
  variable_field_extends refs n h (KindGrown.SizeDiscriminatedUnion g) =
      binds (sized_extends h g) (λ m m' x.
      first _ (λ _. gives _ _ (align_extends h.alignment x)))
  variable_field_extends refs n h (KindGrown.TypeRef v target) =
      binds (typeref_extends h target) (λ m m' x.
      gives _ _ (align_extends h.alignment x))

  -- a field
  field_extends : (refs : List Owner) (n : Name) (s : Size) (h : Head) {v : Bool} {k k' : ResolvedTypeKind} → KindGrown v k k'
      → Extends Known (build_field old refs n s h k) (build_field new refs n s h k')
  unfolding build_field
  field_extends refs n (Size.Const v) h g = first _ (λ _. gives _ _ (const_or_zero_extends v h.alignment))
  field_extends refs n Size.Variable h g = variable_field_extends refs n h g

  -- a struct gets no field
  fields_extend : (refs : List Owner) (end : ℕ) {fs fs' : Fields} → FieldsGrown false fs fs'
      → Keeps (NodesExtended Known) (build_fields old refs end (fields fs)) (build_fields new refs end (fields fs'))
  unfolding build_fields fields
  fields_extend refs end (FieldsGrown.no_field v) = gives _ _ NodesExtended.no_node
  fields_extend refs end (FieldsGrown.field n o (TypeGrown.resolved h k) g) =
      first _ (λ next.
      binds (field_extends refs n h.size h k) (λ m m' x.
      binds (fields_extend refs next g) (λ ns ns' xs.
      gives _ _ (padding_extends end o (NodesExtended.node x xs)))))

  -- a struct, field by field
  struct_extends : (h : Head) {fs fs' : Fields} → FieldsGrown false fs fs'
      → Extends Known (build_variable_struct old h fs) (build_variable_struct new h fs')
  unfolding build_variable_struct
  struct_extends h g =
      binds (fields_extend h.dynamic_params 0 g) (λ ns ns' xs.
      binds (combine_extends xs) (λ m m' x.
      gives _ _ (align_extends h.alignment x)))

  -- a type of variable size, by its kind
  variable_extends : (h : Head) {v : Bool} {k k' : ResolvedTypeKind} → KindGrown v k k'
      → Extends Known (build_variable old h k) (build_variable new h k')
  unfolding build_variable
  variable_extends h (KindGrown.Primitive v) = refuses _ _
  variable_extends h (KindGrown.Struct v g) = struct_extends h g
  variable_extends h (KindGrown.Union g) = union_extends h g
  variable_extends h (KindGrown.Enum e g) = enum_extends h e g
  variable_extends h (KindGrown.Array v e j g) = array_root_extends (TypeGrown.resolved h (KindGrown.Array _ e j g))
  variable_extends h (KindGrown.SizeDiscriminatedUnion g) = sized_extends h g
  variable_extends h (KindGrown.TypeRef v target) = typeref_extends h target

  -- by the kind's target and the size
  kind_extends : (h : Head) {v : Bool} {k k' : ResolvedTypeKind} → KindGrown v k k'
      → (o : Option Name) (s : Size) → target_of k ≡ o → target_of k' ≡ o → h.size ≡ s
      → Extends Known (node_from_resolved old (ResolvedType.resolved h k)) (node_from_resolved new (ResolvedType.resolved h k'))
  unfolding node_from_resolved
  kind_extends h g (some target) s e e' i = rw (e, e') (typeref_extends h target)
  kind_extends h g none (Size.Const v) e e' i = rw (e, e', i) (gives _ _ (NodeExtended.Const _ _ _ v))
  kind_extends h g none Size.Variable e e' i = rw (e, e', i) (variable_extends _ g)

  -- every type: its root and the root of what it has grown to
  pub root_extends : {t t' : ResolvedType} → TypeGrown t t'
      → Extends Known (node_from_resolved old t) (node_from_resolved new t')
  root_extends (TypeGrown.resolved {k} h g) = kind_extends h g (target_of k) h.size refl (sym (kind_kept g).0) refl

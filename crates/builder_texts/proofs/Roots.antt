-- Enums, unions, structs and any type, as they are built, write texts only: the rest of the builder's Nodes, and its BuildType.
use Prim.Native.Nat.{ℕ, suc, ◌+◌, ◌-◌, ◌^◌}
use mathlib.Core.Path.{refl}
use mathlib.Core.Bool.{Bool, true, false}
use mathlib.Core.List.{List, [], ◌∷◌, ◌++◌}
use mathlib.Core.Option.{Option, some, none}
use lib.Dec.{ltb}
use Rattle.blocks.specs.Name.{Name, ascii}
use Rattle.blocks.proofs.Compute.{compute}
use Rattle.blocks.proofs.Utf8.{text_well, well_join}
use Rattle.expr.specs.Expr.{ExprKind}
use Rattle.resolved.specs.Resolved.{Owner, Size, Head, ResolvedType, ResolvedTypeKind, Fields, Variants, fields, variants}
use Rattle.ir.specs.Ir.{IrParameter}
use Rattle.ir.specs.Layout.{parameter_tree, type_ir_tree}
use Rattle.builder.specs.Names.{ends_with, qualify_parent_path, join, or_else}
use Rattle.builder.specs.Registry.{Registry, add_synthetic}
use Rattle.builder.specs.Nodes.{field_refs, mark_all, lookup_qualified, first_of, tag_lookup, computed_tag, enum_tag_parameter, enum_alternatives, build_enum_node}
use Rattle.builder.specs.Nodes.{union_alternatives, build_union_node, sized_alternatives, not_empty, build_size_discriminated_union_node}
use Rattle.builder.specs.Nodes.{payload_paths, build_field_enum, build_field_refs, build_variable_field, build_field, padding, prefix_after, build_fields, build_variable_struct}
use Rattle.builder.specs.Nodes.{build_variable, sized, unless_target, node_from_resolved}
use Rattle.builder.specs.BuildType.{is_jagged_element_parameter, filter_jagged_element_parameters, build_type_ir}
use Rattle.builder_texts.specs.Texts.{IsText, Texts}
use Rattle.builder_texts.proofs.All.{All, Maybe, Any, all_append, either}
use Rattle.builder_texts.proofs.Names.{Well, empty_well}
use Rattle.builder_texts.proofs.Types.{OwnerTexts, HeadTexts, TypeTexts, KindTexts, FieldsTexts, VariantsTexts}
use Rattle.builder_texts.proofs.Keeps.{ParameterTexts, Fine, Keeps, gives, refuses, needs, says, changes, requires, binds}
use Rattle.builder_texts.proofs.Registry.{lookup_name_text, into_parameters_texts, extend_with_keeps, add_synthetic_keeps, mark_derived_fine}
use Rattle.builder_texts.proofs.Nodes.{NodeTexts, AlternativeText, entries_texts, parameter_tree_lem, align_texts, const_node_keeps, const_or_zero_texts, combine_keeps, sum_refs_keeps}
use Rattle.builder_texts.proofs.Nodes.{head_texts, typeref_keeps, target_text, array_keeps, array_root_keeps, paths_texts, switch_keeps}

-- ---- tags that are made

-- a parameter that is made for an owner: its name is the owner's and a suffix, under a key of its own
made_keeps : (owner key suffix description : Name) (d : Bool) → IsText owner → Well key → Well suffix → IsText description
    → Keeps IsText (add_synthetic owner key (record { name = owner ++ suffix; description = some description; derived = d }))
made_keeps owner key suffix description d t k s e =
    let w = text_well owner t in
    add_synthetic_keeps owner key _ w k (well_join owner suffix w s) (Maybe.some e)

-- that of a computed enum tag
computed_parameter : (owner : Name) → IsText owner → Keeps IsText
    (add_synthetic owner (ascii "__computed_tag")
    (record { name = owner ++ ascii ".computed_tag"; description = some (ascii "Computed enum tag expression"); derived = true }))
unfolding compute
computed_parameter owner t = made_keeps owner _ _ _ true t refl refl refl

-- that of a union's variant
variant_parameter : (owner : Name) → IsText owner → Keeps IsText
    (add_synthetic owner (ascii "__variant")
    (record { name = owner ++ ascii ".variant"; description = some (ascii "Active union variant selector"); derived = false }))
unfolding compute
variant_parameter owner t = made_keeps owner _ _ _ false t refl refl refl

-- that of a size-discriminated union's size
payload_parameter : (owner : Name) → IsText owner → Keeps IsText
    (add_synthetic owner (ascii "__payload_size")
    (record {
      name = owner ++ ascii ".payload_size";
      description = some (ascii "Runtime payload size (bytes) selecting size-discriminated variant");
      derived = false;
    }))
unfolding compute
payload_parameter owner t = made_keeps owner _ _ _ false t refl refl refl

-- ---- enums, unions, size-discriminated unions

-- `mark_expression_field_refs`
mark_all_fine : (owner : Name) (ps : List Name) (r : Registry) → Fine r → Fine (mark_all owner ps r)
unfolding mark_all
mark_all_fine owner [] r f = f
mark_all_fine owner (p ∷ ps) r f = mark_all_fine owner ps _ (mark_derived_fine owner p r f)

-- a tag that is found, or found under the parent's name
tag_lookup_text : (owner path : Name) (r : Registry) → Fine r → Maybe IsText (tag_lookup owner path r)
unfolding tag_lookup
tag_lookup_text owner path r f = go (lookup_name_text owner path r f) (qualify_parent_path owner path)
  where
    go : {o : Option Name} → Maybe IsText o → (q : Option Name) → Maybe IsText (first_of o (lookup_qualified owner q r))
    go (Maybe.some t) q = Maybe.some t
    go Maybe.none none = Maybe.none
    go Maybe.none (some p) = lookup_name_text owner p r f

-- a tag that is computed
computed_tag_keeps : (owner : Name) (e : ExprKind) → IsText owner → Keeps IsText (computed_tag owner e)
unfolding computed_tag
computed_tag_keeps owner e t = binds {P = Any} (changes _ (mark_all_fine owner (field_refs e)) tt) (λ _ _. computed_parameter owner t)

-- `enum_tag_parameter`
tag_keeps : (owner : Name) (e : ExprKind) → IsText owner → Keeps IsText (enum_tag_parameter owner e)
unfolding enum_tag_parameter
tag_keeps owner (ExprKind.Literal l) t = computed_tag_keeps owner _ t
tag_keeps owner (ExprKind.FieldRef path) t = binds (says (Maybe IsText) _ (tag_lookup_text owner (join path))) (λ found m. needs m _)
tag_keeps owner (ExprKind.Sizeof n) t = computed_tag_keeps owner _ t
tag_keeps owner (ExprKind.Alignof n) t = computed_tag_keeps owner _ t
tag_keeps owner (ExprKind.Binary k l r) t = computed_tag_keeps owner _ t
tag_keeps owner (ExprKind.Unary k x) t = computed_tag_keeps owner _ t

-- the alternatives of an enum have its variants' names
enum_names : {vs : Variants} → VariantsTexts vs → All AlternativeText (enum_alternatives (variants vs))
unfolding enum_alternatives variants
enum_names VariantsTexts.no_variant = All.none
enum_names (VariantsTexts.variant v n t vs) = All.more n (enum_names vs)

-- those of a union have its fields'
union_names : (i : ℕ) {fs : Fields} → FieldsTexts fs → All AlternativeText (union_alternatives i (fields fs))
unfolding union_alternatives fields
union_names i FieldsTexts.no_field = All.none
union_names i (FieldsTexts.field o n t fs) = All.more n (union_names (suc i) fs)

-- those of a size-discriminated union have its variants'
sized_names : {vs : Variants} → VariantsTexts vs → All AlternativeText (sized_alternatives (variants vs))
unfolding sized_alternatives variants
sized_names VariantsTexts.no_variant = All.none
sized_names (VariantsTexts.variant v n t vs) = All.more n (sized_names vs)

-- `build_enum_node`
enum_keeps : (h : Head) (e : ExprKind) {vs : Variants} → HeadTexts h → VariantsTexts vs → Keeps NodeTexts (build_enum_node h e vs)
unfolding build_enum_node
enum_keeps h e t vs =
    binds (extend_with_keeps t.refs) (λ _ _.
    binds (tag_keeps h.name e t.name) (λ tag g.
    switch_keeps h tag t g (enum_names vs)))

-- `build_union_node`
union_keeps : (h : Head) {fs : Fields} → HeadTexts h → FieldsTexts fs → Keeps NodeTexts (build_union_node h fs)
unfolding build_union_node
union_keeps h t fs =
    binds (extend_with_keeps t.refs) (λ _ _.
    binds (variant_parameter h.name t.name) (λ tag g.
    switch_keeps h tag t g (union_names 0 fs)))

-- `build_size_discriminated_union_node`
sized_union_keeps : (h : Head) {vs : Variants} → HeadTexts h → VariantsTexts vs → Keeps NodeTexts (build_size_discriminated_union_node h vs)
unfolding build_size_discriminated_union_node
sized_union_keeps h {vs} t g =
    binds (extend_with_keeps t.refs) (λ _ _.
    binds (requires (not_empty vs) _) (λ _ _.
    binds (payload_parameter h.name t.name) (λ tag p.
    switch_keeps h tag t p (sized_names g))))

-- ---- structs

-- the paths that end in `.payload_size`
payload_texts : {ps : List Name} → All IsText ps → All IsText (payload_paths ps)
unfolding payload_paths
payload_texts All.none = All.none
payload_texts (All.more {x} p ps) = either (All IsText) (ends_with (ascii ".payload_size") x) (All.more p (payload_texts ps)) (payload_texts ps)

-- the paths of an owner, or none
or_none : {o : Option (List Name)} → Maybe (All IsText) o → All IsText (or_else [] o)
or_none Maybe.none = All.none
or_none (Maybe.some ps) = ps

-- an enum as a field
field_enum_keeps : (n : Name) (h : Head) (e : ExprKind) {ps : List Name} {vs : Variants} → IsText n → HeadTexts h → VariantsTexts vs → All IsText ps
    → Keeps NodeTexts (build_field_enum ps n h e vs)
unfolding build_field_enum
field_enum_keeps n h e t g vs All.none =
    binds (enum_keeps h e g vs) (λ node x.
    binds (extend_with_keeps g.refs) (λ _ _.
    gives _ (align_texts node h.alignment x)))
field_enum_keeps n h e t g vs (All.more p ps) = binds (sum_refs_keeps n t (All.more p ps)) (λ sum x. gives _ (align_texts sum h.alignment x))

-- a field by the struct's references for it
field_refs_keep : {refs : List Owner} (n : Name) (h : Head) → All OwnerTexts refs → IsText n → HeadTexts h → Keeps NodeTexts (build_field_refs refs n h)
unfolding build_field_refs
field_refs_keep n h ts t g =
    binds (needs (paths_texts n ts) _) (λ paths ps.
    binds (sum_refs_keeps n t ps) (λ sum x.
    binds (extend_with_keeps g.refs) (λ _ _.
    gives sum x)))

-- the padding before a field
padding_texts : (end : ℕ) (o : Option ℕ) → All NodeTexts (padding end o)
unfolding padding
padding_texts end none = All.none
padding_texts end (some o) = either (All NodeTexts) (ltb end o) (All.more (const_or_zero_texts (o - end) 1) All.none) All.none

-- the end of the prefix is no text
prefix_keeps : (end : ℕ) (o : Option ℕ) (s : Size) → Keeps Any (prefix_after end o s)
unfolding prefix_after
prefix_keeps end none s = gives _ tt
prefix_keeps end (some o) (Size.Const v) = binds (requires (ltb (o + v) (2 ^ 64)) 16) (λ _ _. gives _ tt)
prefix_keeps end (some o) Size.Variable = gives _ tt

-- ---- parameters

-- `filter_jagged_element_parameters`
filter_texts : (t : ResolvedType) {ps : List IrParameter} → All ParameterTexts ps → All ParameterTexts (filter_jagged_element_parameters t ps)
unfolding filter_jagged_element_parameters
filter_texts t All.none = All.none
filter_texts t (All.more {x} p ps) = either (All ParameterTexts) (is_jagged_element_parameter t x.name) (filter_texts t ps) (All.more p (filter_texts t ps))

-- ---- in a set of types with texts as names

module _ {types : List ResolvedType} (known : All TypeTexts types) where
  -- a field of variable size, by its kind
  variable_field_keeps : {refs : List Owner} (n : Name) (h : Head) {k : ResolvedTypeKind} → All OwnerTexts refs → IsText n → HeadTexts h → KindTexts k
      → Keeps NodeTexts (build_variable_field types refs n h k)
  unfolding build_variable_field
  variable_field_keeps n h ts t g KindTexts.Primitive = field_refs_keep n h ts t g
  variable_field_keeps n h ts t g (KindTexts.Struct f) = field_refs_keep n h ts t g
  variable_field_keeps n h ts t g (KindTexts.Union f) = field_refs_keep n h ts t g
  variable_field_keeps n h ts t g (KindTexts.Enum {e} x v) = field_enum_keeps n h e t g v (payload_texts (or_none (paths_texts n ts)))
  variable_field_keeps n h ts t g (KindTexts.Array j a e) =
      binds (array_keeps (TypeTexts.resolved g (KindTexts.Array j a e)) n [] t empty_well) (λ node x.
      binds (extend_with_keeps g.refs) (λ _ _.
      gives node x))
  variable_field_keeps n h ts t g (KindTexts.SizeDiscriminatedUnion v) =
      binds (sized_union_keeps h g v) (λ node x.
      binds (extend_with_keeps g.refs) (λ _ _.
      gives _ (align_texts node h.alignment x)))
  variable_field_keeps n h ts t g (KindTexts.TypeRef {n = target} r) = binds (typeref_keeps h target known r) (λ node x. gives _ (align_texts node h.alignment x))

  -- a field
  field_keeps : {refs : List Owner} (n : Name) (s : Size) (h : Head) {k : ResolvedTypeKind} → All OwnerTexts refs → IsText n → HeadTexts h → KindTexts k
      → Keeps NodeTexts (build_field types refs n s h k)
  unfolding build_field
  field_keeps n (Size.Const v) h ts t g k = binds (extend_with_keeps g.refs) (λ _ _. gives _ (const_or_zero_texts v h.alignment))
  field_keeps n Size.Variable h ts t g k = variable_field_keeps n h ts t g k

  -- the fields of a struct
  fields_keep : (refs : List Owner) (end : ℕ) {fs : Fields} → All OwnerTexts refs → FieldsTexts fs → Keeps (All NodeTexts) (build_fields types refs end (fields fs))
  unfolding build_fields fields
  fields_keep refs end ts FieldsTexts.no_field = gives _ All.none
  fields_keep refs end ts (FieldsTexts.field {n} o t (TypeTexts.resolved {h} g k) fs) =
      binds (prefix_keeps end o h.size) (λ next _.
      binds (field_keeps n h.size h ts t g k) (λ node x.
      binds (fields_keep refs next ts fs) (λ nodes xs.
      gives _ (all_append (padding_texts end o) (All.more x xs)))))

  -- `build_variable_struct`
  struct_keeps : (h : Head) {fs : Fields} → HeadTexts h → FieldsTexts fs → Keeps NodeTexts (build_variable_struct types h fs)
  unfolding build_variable_struct
  struct_keeps h g fs =
      binds (fields_keep h.dynamic_params 0 g.refs fs) (λ nodes xs.
      binds (combine_keeps xs) (λ sum x.
      gives _ (align_texts sum h.alignment x)))

  -- ---- any type

  -- of variable size, by its kind
  variable_keeps : (h : Head) {k : ResolvedTypeKind} → HeadTexts h → KindTexts k → Keeps NodeTexts (build_variable types h k)
  unfolding build_variable
  variable_keeps h g KindTexts.Primitive = refuses _
  variable_keeps h g (KindTexts.Struct f) = struct_keeps h g f
  variable_keeps h g (KindTexts.Union f) = union_keeps h g f
  variable_keeps h g (KindTexts.Enum {e} x v) = enum_keeps h e g v
  variable_keeps h g (KindTexts.Array j a e) = array_root_keeps (TypeTexts.resolved g (KindTexts.Array j a e))
  variable_keeps h g (KindTexts.SizeDiscriminatedUnion v) = sized_union_keeps h g v
  variable_keeps h g (KindTexts.TypeRef {n = target} r) = typeref_keeps h target known r

  -- `node_from_resolved`
  root_keeps : {t : ResolvedType} → TypeTexts t → Keeps NodeTexts (node_from_resolved types t)
  unfolding node_from_resolved
  root_keeps (TypeTexts.resolved {h} {k} g x) = go (target_text x)
    where
      by_size : (s : Size) → Keeps NodeTexts (sized types s h k)
      by_size (Size.Const v) = const_node_keeps h
      by_size Size.Variable = variable_keeps h g x

      go : {o : Option Name} → Maybe IsText o → Keeps NodeTexts (unless_target types h k o)
      go (Maybe.some {a} r) = typeref_keeps h a known r
      go Maybe.none = by_size h.size

  -- `build_type`: what is written of a type
  pub type_keeps : {t : ResolvedType} → TypeTexts t → Keeps (λ x. Texts (type_ir_tree x)) (build_type_ir types t)
  unfolding build_type_ir
  type_keeps {t} h =
      let g = head_texts h in
      binds (extend_with_keeps g.refs) (λ _ _.
      binds (root_keeps h) (λ root x.
      binds (says (All ParameterTexts) _ into_parameters_texts) (λ parameters ps.
      gives _ (g.name, (tt, (x, ((tt, entries_texts parameter_tree parameter_tree_lem (filter_texts t ps)), tt)))))))

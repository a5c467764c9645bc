-- builder.rs, the nodes, in the Rust's order of functions where one does not need another.
use Rattle.std.specs.Prelude.{ℕ, suc, ◌+◌, ◌-◌, ◌^◌, Bool, true, false, ◌&&◌, cond, List, [], ◌∷◌, ◌++◌, ltb, eqb, length, get_or}
use Rattle.std.proofs.Math.Option.{Option, some, none}
use Rattle.errors.specs.Refusal.{UnsupportedSize, MissingDynamicRefs, MissingParameter, UnsupportedArrayElement, UnsupportedExpression, MissingType}
use Rattle.blocks.specs.Name.{Name, ascii, same}
use Rattle.blocks.specs.Grammar.{within}
use Rattle.expr.specs.Expr.{ExprKind, literal_to_u64}
use Rattle.resolved.specs.Resolved.{Owner, Size, Head, ResolvedType, ResolvedTypeKind, Fields, Variants, ResolvedField, ResolvedVariant, head, kind_of, fields, variants, get, get_type_info, target_of, jagged_of}
use Rattle.ir.specs.Ir.{IrArgument, BinaryOp, IrNode, SwitchCases, DefaultNode, aligned, default_alignment, default_metadata, unplaced}
use Rattle.ir.specs.Layout.{operations}
use Rattle.builder.specs.Names.{canonical_name, qualify_parent_path, rsplit_once, join, ends_with, extend_element_prefix, apply_path_prefix, or_else, is_some}
use Rattle.builder.specs.Registry.{Registry, Build, ◌>>=◌, give, refuse, require, need, reads, change, short, ensure, extend_with, lookup_name, owner_parameters, add_synthetic, mark_derived}

-- ---- small nodes

-- `align_node`
abbrev pub align_node : IrNode → ℕ → IrNode
align_node n a = IrNode.AlignUp unplaced (aligned a) a n

-- `const_or_zero`
abbrev pub const_or_zero : ℕ → ℕ → IrNode
const_or_zero v a = cond (eqb v 0) (IrNode.ZeroSize unplaced (aligned a)) (align_node (IrNode.Const unplaced (aligned a) v) a)

-- `const_node`
abbrev pub const_of : Size → ℕ → Build IrNode
const_of (Size.Const v) a = give (IrNode.Const unplaced (aligned a) v)
const_of Size.Variable a = refuse UnsupportedSize

abbrev pub const_node : Head → Build IrNode
const_node h = const_of h.size h.alignment

-- `combine_checked_add`: left-nested sums; 11 where there is nothing to add
unfoldable pub add_all : IrNode → List IrNode → IrNode
add_all n [] = n
add_all n (m ∷ ms) = add_all (IrNode.Binary unplaced default_metadata BinaryOp.AddChecked n m) ms

unfoldable pub combine_checked_add : List IrNode → Build IrNode
combine_checked_add [] = refuse MissingDynamicRefs
combine_checked_add (n ∷ ns) = give (add_all n ns)

-- `build_field_ref_nodes`; the size text is `owner:path`
abbrev pub ref_text : Name → Name → Name
ref_text owner path = owner ++ (ascii ":" ++ path)

unfoldable pub build_field_ref_nodes : Name → List Name → Build (List IrNode)
build_field_ref_nodes owner [] = give []
build_field_ref_nodes owner (path ∷ ps) = do
  found ← reads (lookup_name owner path)
  parameter ← need found MissingParameter
  _ ← require (short (ref_text owner path)) 17
  nodes ← build_field_ref_nodes owner ps
  give (IrNode.FieldRef unplaced (record { alignment = default_alignment; size_expr = some (ref_text owner path) }) path (some parameter) ∷ nodes)

-- `build_field_ref_nodes`, then `combine_checked_add`: the references of an owner, summed
unfoldable pub sum_refs : Name → List Name → Build IrNode
sum_refs owner paths = do
  nodes ← build_field_ref_nodes owner paths
  combine_checked_add nodes

-- ---- size expressions

-- "Expression kinds 68 to 72 and 74 to 78 become nodes, the rest are refused with 14"
unfoldable pub operation_of : ℕ → Option BinaryOp
operation_of k =
    cond (within 68 72 k) (some (get_or operations (k - 68) BinaryOp.AddChecked))
    (cond (within 74 78 k) (some (get_or operations (5 + (k - 74)) BinaryOp.AddChecked))
    none)

-- "for a field reference the path is compared with the thirteen bytes `__buffer_size`; that one takes no parameter"
abbrev pub buffer_size : Name
buffer_size = ascii "__buffer_size"

-- "a path that is looked up is measured once it is found"
unfoldable pub build_path : Name → Name → Build IrNode
build_path owner path = do
  found ← reads (lookup_name owner path)
  parameter ← need found MissingParameter
  _ ← require (short path) 17
  give (IrNode.FieldRef unplaced default_metadata path (some parameter))

-- `build_expr_ir`, `build_binary_expr_ir`
unfoldable pub build_expr_ir : Name → Name → ExprKind → Build IrNode
build_expr_ir owner prefix (ExprKind.Literal l) = do
  v ← need (literal_to_u64 l) UnsupportedExpression
  give (IrNode.Const unplaced default_metadata v)
build_expr_ir owner prefix (ExprKind.FieldRef path) =
    cond (same (join path) buffer_size)
    (give (IrNode.FieldRef unplaced default_metadata (join path) none))
    (build_path owner (apply_path_prefix prefix (join path)))
build_expr_ir owner prefix (ExprKind.Sizeof n) = refuse UnsupportedExpression
build_expr_ir owner prefix (ExprKind.Alignof n) = refuse UnsupportedExpression
build_expr_ir owner prefix (ExprKind.Binary k l r) = do
  op ← need (operation_of k) UnsupportedExpression
  left ← build_expr_ir owner prefix l
  right ← build_expr_ir owner prefix r
  give (IrNode.Binary unplaced default_metadata op left right)
build_expr_ir owner prefix (ExprKind.Unary k x) = refuse UnsupportedExpression

-- ---- type references

-- `collect_callee_arguments`: an argument for each path of the target's references, under its own canonical name; 17:
-- "at most 512 arguments in each call"
abbrev pub argument : Name → IrArgument
argument n = record { at = unplaced; name = n; value = n }

unfoldable pub collect_paths : Name → List Name → List IrArgument → Build (List IrArgument)
collect_paths owner [] xs = give xs
collect_paths owner (path ∷ ps) xs = do
  _ ← require (short (canonical_name owner path)) 17
  _ ← ensure owner path
  _ ← require (ltb (length xs) 512) 17
  collect_paths owner ps (xs ++ (argument (canonical_name owner path) ∷ []))

unfoldable pub collect_callee_arguments : List Owner → List IrArgument → Build (List IrArgument)
collect_callee_arguments [] xs = give xs
collect_callee_arguments (o ∷ os) xs = do
  ys ← collect_paths o.name o.paths xs
  collect_callee_arguments os ys

-- `build_typeref_node`, in a set of types
unfoldable pub build_typeref_node : List ResolvedType → Head → Name → Build IrNode
build_typeref_node types h target = do
  t ← need (get_type_info target types) MissingType
  xs ← collect_callee_arguments (head t).dynamic_params []
  give (IrNode.CallNested unplaced (aligned h.alignment) target xs)

-- ---- arrays

-- `build_array_node_with_prefix`, a jagged array of elements of variable size: only of a type reference, else 13
unfoldable pub sum_over_array : Head → Name → IrNode → ResolvedTypeKind → Build IrNode
sum_over_array h owner count k = do
  target ← need (target_of k) UnsupportedArrayElement
  give (align_node (IrNode.SumOverArray unplaced (aligned h.alignment) count target owner) h.alignment)

-- `build_array_node_with_prefix`, the element's node: a constant, or for a variable array what `inside` builds, else 13
unfoldable pub build_element : Build IrNode → Size → ℕ → ResolvedTypeKind → Build IrNode
build_element inside (Size.Const v) a k = give (IrNode.Const unplaced (aligned a) v)
build_element inside Size.Variable a k = do
  _ ← need (jagged_of k) UnsupportedArrayElement
  inside

-- `build_array_node_with_prefix`: count times element, aligned
abbrev pub product : Head → IrNode → IrNode → IrNode
product h count element = align_node (IrNode.Binary unplaced (aligned h.alignment) BinaryOp.MulChecked count element) h.alignment

abbrev pub is_variable : Size → Bool
is_variable (Size.Const v) = false
is_variable Size.Variable = true

-- "An array's element references enter before the element is built, except for a jagged array of variable elements."
unfoldable pub build_elements : Build IrNode → Head → Name → IrNode → Bool → Head → ResolvedTypeKind → Build IrNode
build_elements inside h owner count true eh ek = sum_over_array h owner count ek
build_elements inside h owner count false eh ek = do
  _ ← extend_with eh.dynamic_params
  element ← build_element inside eh.size eh.alignment ek
  give (product h count element)

-- `build_array_node_with_prefix`: "An array whose element is a variable array is built inside itself, with `element.` put
-- before paths."
unfoldable mutual
  pub build_array_node_with_prefix : Name → Name → ResolvedType → Build IrNode
  build_array_node_with_prefix owner prefix (ResolvedType.resolved h k) = build_array_kind owner prefix h k

  pub build_array_kind : Name → Name → Head → ResolvedTypeKind → Build IrNode
  build_array_kind owner prefix h ResolvedTypeKind.Primitive = refuse UnsupportedSize
  build_array_kind owner prefix h (ResolvedTypeKind.Struct fs) = refuse UnsupportedSize
  build_array_kind owner prefix h (ResolvedTypeKind.Union fs) = refuse UnsupportedSize
  build_array_kind owner prefix h (ResolvedTypeKind.Enum e vs) = refuse UnsupportedSize
  build_array_kind owner prefix h (ResolvedTypeKind.Array element size jagged) = do
    count ← build_expr_ir owner prefix size
    build_elements (build_array_node_with_prefix owner (extend_element_prefix prefix) element)
        h owner count (jagged && is_variable (head element).size) (head element) (kind_of element)
  build_array_kind owner prefix h (ResolvedTypeKind.SizeDiscriminatedUnion vs) = refuse UnsupportedSize
  build_array_kind owner prefix h (ResolvedTypeKind.TypeRef target) = refuse UnsupportedSize

-- `select_array_owner`: the part behind the last `::` of the type's name (else `array`), then the type's name, then the
-- first owner
abbrev pub field_key : Option (Name × Name) → Name
field_key none = ascii "array"
field_key (some p) = p.1

abbrev pub has : Name → List Owner → Bool
has n os = is_some (get n os)

unfoldable pub select_array_owner : Head → List Owner → Option Name
select_array_owner h [] = none
select_array_owner h (o ∷ os) =
    cond (has (field_key (rsplit_once h.name)) (o ∷ os)) (some (field_key (rsplit_once h.name)))
    (cond (has h.name (o ∷ os)) (some h.name)
    (some o.name))

-- `build_array_node`
unfoldable pub build_array_node : ResolvedType → Build IrNode
build_array_node t = do
  owner ← need (select_array_owner (head t) (head t).dynamic_params) MissingDynamicRefs
  build_array_node_with_prefix owner [] t

-- ---- enums, unions, size-discriminated unions: one switch over alternatives

-- what `build_enum_node`, `build_union_node` and `build_size_discriminated_union_node` take of a variant
pub record Alternative : Type 0 where
  pub tag : ℕ
  pub name : Name
  pub size : Size
  pub alignment : ℕ

-- the variant's node in each of the three: `const_or_zero`, or the sum of its references, else 11; refs: the references of the type
-- that has it
unfoldable pub build_alternative : List Owner → Name → Size → ℕ → Build IrNode
build_alternative refs n (Size.Const v) a = give (const_or_zero v a)
build_alternative refs n Size.Variable a = do
  paths ← need (get n refs) MissingDynamicRefs
  sum ← sum_refs n paths
  give (align_node sum a)

-- the cases in each of the three: a variant's node, then `owner_parameters` of its name
unfoldable pub build_cases : List Owner → List Alternative → Build SwitchCases
build_cases refs [] = give SwitchCases.no_case
build_cases refs (x ∷ xs) = do
  node ← build_alternative refs x.name x.size x.alignment
  parameters ← reads (owner_parameters x.name)
  cases ← build_cases refs xs
  give (SwitchCases.case x.tag node parameters cases)

-- the Switch in each of the three, with no default
unfoldable pub build_switch : Head → Name → List Alternative → Build IrNode
build_switch h tag xs = do
  cases ← build_cases h.dynamic_params xs
  give (IrNode.Switch unplaced (aligned h.alignment) tag cases DefaultNode.no_default)

-- `mark_expression_field_refs`: the references of an expression; comparisons (83 to 91) are not walked
unfoldable pub field_refs : ExprKind → List Name
field_refs (ExprKind.Literal l) = []
field_refs (ExprKind.FieldRef []) = []
field_refs (ExprKind.FieldRef (x ∷ xs)) = join (x ∷ xs) ∷ []
field_refs (ExprKind.Sizeof n) = []
field_refs (ExprKind.Alignof n) = []
field_refs (ExprKind.Binary k l r) = cond (within 68 78 k) (field_refs l ++ field_refs r) []
field_refs (ExprKind.Unary k x) = field_refs x

unfoldable pub mark_all : Name → List Name → Registry → Registry
mark_all owner [] r = r
mark_all owner (p ∷ ps) r = mark_all owner ps (mark_derived owner p r)

-- `enum_tag_parameter`: found, or found under the parent's name, or made
abbrev pub lookup_qualified : Name → Option Name → Registry → Option Name
lookup_qualified owner none r = none
lookup_qualified owner (some path) r = lookup_name owner path r

abbrev pub first_of : {A : Type 0} → Option A → Option A → Option A
first_of none b = b
first_of (some a) b = some a

unfoldable pub tag_lookup : Name → Name → Registry → Option Name
tag_lookup owner path r = first_of (lookup_name owner path r) (lookup_qualified owner (qualify_parent_path owner path) r)

unfoldable pub computed_tag : Name → ExprKind → Build Name
computed_tag owner e = do
  _ ← change (mark_all owner (field_refs e))
  add_synthetic owner (ascii "__computed_tag")
      (record { name = owner ++ ascii ".computed_tag"; description = some (ascii "Computed enum tag expression"); derived = true })

unfoldable pub enum_tag_parameter : Name → ExprKind → Build Name
enum_tag_parameter owner (ExprKind.Literal l) = computed_tag owner (ExprKind.Literal l)
enum_tag_parameter owner (ExprKind.FieldRef path) = do
  found ← reads (tag_lookup owner (join path))
  need found MissingParameter
enum_tag_parameter owner (ExprKind.Sizeof n) = computed_tag owner (ExprKind.Sizeof n)
enum_tag_parameter owner (ExprKind.Alignof n) = computed_tag owner (ExprKind.Alignof n)
enum_tag_parameter owner (ExprKind.Binary k l r) = computed_tag owner (ExprKind.Binary k l r)
enum_tag_parameter owner (ExprKind.Unary k x) = computed_tag owner (ExprKind.Unary k x)

-- "an enum or union enters its own [references] before"
-- `build_enum_node`
unfoldable pub enum_alternatives : List ResolvedVariant → List Alternative
enum_alternatives [] = []
enum_alternatives (v ∷ vs) =
    record { tag = v.number; name = v.name; size = (head v.variant_type).size; alignment = (head v.variant_type).alignment } ∷ enum_alternatives vs

unfoldable pub build_enum_node : Head → ExprKind → Variants → Build IrNode
build_enum_node h e vs = do
  _ ← extend_with h.dynamic_params
  tag ← enum_tag_parameter h.name e
  build_switch h tag (enum_alternatives (variants vs))

-- `build_union_node`: the tag of a variant is its place
unfoldable pub union_alternatives : ℕ → List ResolvedField → List Alternative
union_alternatives i [] = []
union_alternatives i (f ∷ fs) =
    record { tag = i; name = f.name; size = (head f.field_type).size; alignment = (head f.field_type).alignment } ∷ union_alternatives (suc i) fs

unfoldable pub build_union_node : Head → Fields → Build IrNode
build_union_node h fs = do
  _ ← extend_with h.dynamic_params
  tag ← add_synthetic h.name (ascii "__variant")
      (record { name = h.name ++ ascii ".variant"; description = some (ascii "Active union variant selector"); derived = false })
  build_switch h tag (union_alternatives 0 (fields fs))

-- `build_size_discriminated_union_node`: tag and size of a variant are its expected size
unfoldable pub sized_alternatives : List ResolvedVariant → List Alternative
sized_alternatives [] = []
sized_alternatives (v ∷ vs) =
    record { tag = v.number; name = v.name; size = Size.Const v.number; alignment = (head v.variant_type).alignment } ∷ sized_alternatives vs

abbrev pub not_empty : Variants → Bool
not_empty Variants.no_variant = false
not_empty (Variants.variant n v t vs) = true

unfoldable pub build_size_discriminated_union_node : Head → Variants → Build IrNode
build_size_discriminated_union_node h vs = do
  _ ← extend_with h.dynamic_params
  _ ← require (not_empty vs) UnsupportedSize
  tag ← add_synthetic h.name (ascii "__payload_size")
      (record {
        name = h.name ++ ascii ".payload_size";
        description = some (ascii "Runtime payload size (bytes) selecting size-discriminated variant");
        derived = false;
      })
  build_switch h tag (sized_alternatives (variants vs))

-- ---- structs

-- `build_variable_struct`: the paths that end in `.payload_size`
unfoldable pub payload_paths : List Name → List Name
payload_paths [] = []
payload_paths (p ∷ ps) = cond (ends_with (ascii ".payload_size") p) (p ∷ payload_paths ps) (payload_paths ps)

-- An enum as a field: where the struct's references for it have a path that ends in `.payload_size`, the sum of those.
-- "Payload-size enums and type references of variable size enter none that way."
unfoldable pub build_field_enum : List Name → Name → Head → ExprKind → Variants → Build IrNode
build_field_enum [] n h e vs = do
  node ← build_enum_node h e vs
  _ ← extend_with h.dynamic_params
  give (align_node node h.alignment)
build_field_enum (p ∷ ps) n h e vs = do
  sum ← sum_refs n (p ∷ ps)
  give (align_node sum h.alignment)

-- `build_variable_struct`, a field of variable size of the other kinds: the sum of the struct's references for it, else 11
unfoldable pub build_field_refs : List Owner → Name → Head → Build IrNode
build_field_refs refs n h = do
  paths ← need (get n refs) MissingDynamicRefs
  sum ← sum_refs n paths
  _ ← extend_with h.dynamic_params
  give sum

-- A field of variable size, with what it enters; refs: the struct's references. "In a struct, a field's own references
-- enter after its node."
unfoldable pub build_variable_field : List ResolvedType → List Owner → Name → Head → ResolvedTypeKind → Build IrNode
build_variable_field types refs n h ResolvedTypeKind.Primitive = build_field_refs refs n h
build_variable_field types refs n h (ResolvedTypeKind.Struct fs) = build_field_refs refs n h
build_variable_field types refs n h (ResolvedTypeKind.Union fs) = build_field_refs refs n h
build_variable_field types refs n h (ResolvedTypeKind.Enum e vs) = build_field_enum (payload_paths (or_else [] (get n refs))) n h e vs
build_variable_field types refs n h (ResolvedTypeKind.Array t e j) = do
  node ← build_array_node_with_prefix n [] (ResolvedType.resolved h (ResolvedTypeKind.Array t e j))
  _ ← extend_with h.dynamic_params
  give node
build_variable_field types refs n h (ResolvedTypeKind.SizeDiscriminatedUnion vs) = do
  node ← build_size_discriminated_union_node h vs
  _ ← extend_with h.dynamic_params
  give (align_node node h.alignment)
build_variable_field types refs n h (ResolvedTypeKind.TypeRef target) = do
  node ← build_typeref_node types h target
  give (align_node node h.alignment)

-- "as a constant field it is a constant"
unfoldable pub build_field : List ResolvedType → List Owner → Name → Size → Head → ResolvedTypeKind → Build IrNode
build_field types refs n (Size.Const v) h k = do
  _ ← extend_with h.dynamic_params
  give (const_or_zero v h.alignment)
build_field types refs n Size.Variable h k = build_variable_field types refs n h k

-- `build_variable_struct`: a constant for the padding between the prefix's end and a field's offset
unfoldable pub padding : ℕ → Option ℕ → List IrNode
padding prefix_end none = []
padding prefix_end (some o) = cond (ltb prefix_end o) (const_or_zero (o - prefix_end) 1 ∷ []) []

-- The end of the prefix behind a field: only a constant field with an offset moves it, back too. 16: "does offset + size
-- stay below 2^64?"
unfoldable pub prefix_after : ℕ → Option ℕ → Size → Build ℕ
prefix_after prefix_end none s = give prefix_end
prefix_after prefix_end (some o) (Size.Const v) = do
  _ ← require (ltb (o + v) (2 ^ 64)) 16
  give (o + v)
prefix_after prefix_end (some o) Size.Variable = give prefix_end

-- `build_variable_struct`, field by field
unfoldable pub build_fields : List ResolvedType → List Owner → ℕ → List ResolvedField → Build (List IrNode)
build_fields types refs prefix_end [] = give []
build_fields types refs prefix_end (f ∷ fs) = do
  next ← prefix_after prefix_end f.offset (head f.field_type).size
  node ← build_field types refs f.name (head f.field_type).size (head f.field_type) (kind_of f.field_type)
  nodes ← build_fields types refs next fs
  give (padding prefix_end f.offset ++ (node ∷ nodes))

-- `build_variable_struct`
unfoldable pub build_variable_struct : List ResolvedType → Head → Fields → Build IrNode
build_variable_struct types h fs = do
  nodes ← build_fields types h.dynamic_params 0 (fields fs)
  sum ← combine_checked_add nodes
  give (align_node sum h.alignment)

-- ---- any type

-- `node_from_resolved`, a type of variable size by its kind
unfoldable pub build_variable : List ResolvedType → Head → ResolvedTypeKind → Build IrNode
build_variable types h ResolvedTypeKind.Primitive = refuse UnsupportedSize
build_variable types h (ResolvedTypeKind.Struct fs) = build_variable_struct types h fs
build_variable types h (ResolvedTypeKind.Union fs) = build_union_node h fs
build_variable types h (ResolvedTypeKind.Enum e vs) = build_enum_node h e vs
build_variable types h (ResolvedTypeKind.Array t e j) = build_array_node (ResolvedType.resolved h (ResolvedTypeKind.Array t e j))
build_variable types h (ResolvedTypeKind.SizeDiscriminatedUnion vs) = build_size_discriminated_union_node h vs
build_variable types h (ResolvedTypeKind.TypeRef target) = build_typeref_node types h target

-- `node_from_resolved`: a type of constant size is a constant
abbrev pub sized : List ResolvedType → Size → Head → ResolvedTypeKind → Build IrNode
sized types (Size.Const v) h k = const_node h
sized types Size.Variable h k = build_variable types h k

-- `node_from_resolved`: "A type reference as root is a call even if its size is constant"
abbrev pub unless_target : List ResolvedType → Head → ResolvedTypeKind → Option Name → Build IrNode
unless_target types h k (some target) = build_typeref_node types h target
unless_target types h k none = sized types h.size h k

unfoldable pub node_from_resolved : List ResolvedType → ResolvedType → Build IrNode
node_from_resolved types t = unless_target types (head t) (kind_of t) (target_of (kind_of t))

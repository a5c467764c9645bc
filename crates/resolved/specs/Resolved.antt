-- resolved.rs, as data: `ResolvedType` and its parts, lookup by name. "The resolving itself is not ported."
use Rattle.std.specs.Prelude.{ℕ, Bool, cond, List, [], ◌∷◌}
use Rattle.std.proofs.Math.Option.{Option, some, none}
use Rattle.blocks.specs.Name.{Name, same}
use Rattle.expr.specs.Expr.{ExprKind}

-- "37 owner: name, count, path names"; an entry of `dynamic_params`
pub record Owner : Type 0 where
  pub name : Name
  pub paths : List Name

-- "flag 0 and a constant size, or flag 1 for variable"
pub data Size : Type 0 where
  Const : ℕ → Size
  Variable : Size

-- what every `ResolvedType` has beside its kind
pub record Head : Type 0 where
  pub name : Name
  pub size : Size
  pub alignment : ℕ
  pub dynamic_params : List Owner

-- The lists are lists of their own, each entry's fields written out.
mutual
  pub data ResolvedType : Type 0 where
    resolved : Head → ResolvedTypeKind → ResolvedType

  pub data ResolvedTypeKind : Type 0 where
    Primitive : ResolvedTypeKind
    Struct : Fields → ResolvedTypeKind
    Union : Fields → ResolvedTypeKind
    -- tag_expression, variants
    Enum : ExprKind → Variants → ResolvedTypeKind
    -- element_type, size_expression, jagged
    Array : ResolvedType → ExprKind → Bool → ResolvedTypeKind
    SizeDiscriminatedUnion : Variants → ResolvedTypeKind
    -- target_name
    TypeRef : Name → ResolvedTypeKind

  -- `ResolvedField`: name, offset, field_type
  pub data Fields : Type 0 where
    no_field : Fields
    field : Name → Option ℕ → ResolvedType → Fields → Fields

  -- `ResolvedEnumVariant`: name, tag_value, variant_type;
  -- `ResolvedSizeDiscriminatedVariant`: name, expected_size, variant_type
  pub data Variants : Type 0 where
    no_variant : Variants
    variant : Name → ℕ → ResolvedType → Variants → Variants

abbrev pub head : ResolvedType → Head
head (ResolvedType.resolved h k) = h

abbrev pub kind_of : ResolvedType → ResolvedTypeKind
kind_of (ResolvedType.resolved h k) = k

-- `matches!(kind, TypeRef { .. })`, and its target_name
abbrev pub target_of : ResolvedTypeKind → Option Name
target_of ResolvedTypeKind.Primitive = none
target_of (ResolvedTypeKind.Struct fs) = none
target_of (ResolvedTypeKind.Union fs) = none
target_of (ResolvedTypeKind.Enum e vs) = none
target_of (ResolvedTypeKind.Array t e j) = none
target_of (ResolvedTypeKind.SizeDiscriminatedUnion vs) = none
target_of (ResolvedTypeKind.TypeRef n) = some n

-- `matches!(kind, Array { .. })`, and its jagged
abbrev pub jagged_of : ResolvedTypeKind → Option Bool
jagged_of ResolvedTypeKind.Primitive = none
jagged_of (ResolvedTypeKind.Struct fs) = none
jagged_of (ResolvedTypeKind.Union fs) = none
jagged_of (ResolvedTypeKind.Enum e vs) = none
jagged_of (ResolvedTypeKind.Array t e j) = some j
jagged_of (ResolvedTypeKind.SizeDiscriminatedUnion vs) = none
jagged_of (ResolvedTypeKind.TypeRef n) = none

-- fields and variants as lists of records
pub record ResolvedField : Type 0 where
  pub name : Name
  pub offset : Option ℕ
  pub field_type : ResolvedType

unfoldable pub fields : Fields → List ResolvedField
fields Fields.no_field = []
fields (Fields.field n o t fs) = record { name = n; offset = o; field_type = t } ∷ fields fs

pub record ResolvedVariant : Type 0 where
  pub name : Name
  pub number : ℕ
  pub variant_type : ResolvedType

unfoldable pub variants : Variants → List ResolvedVariant
variants Variants.no_variant = []
variants (Variants.variant n v t vs) = record { name = n; number = v; variant_type = t } ∷ variants vs

-- `dynamic_params.get(name)`
unfoldable pub get : Name → List Owner → Option (List Name)
get n [] = none
get n (o ∷ os) = cond (same n o.name) (some o.paths) (get n os)

-- `get_type_info`: the type of a name in a set
unfoldable pub get_type_info : Name → List ResolvedType → Option ResolvedType
get_type_info n [] = none
get_type_info n (t ∷ ts) = cond (same n (head t).name) (some t) (get_type_info n ts)

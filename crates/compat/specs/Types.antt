-- For the proof of demand 3: a resolved type and what it may have become. Heads stay; a union, enum or sized union of
-- variable size may have entries added behind its last.
use Rattle.std.specs.Prelude.{ℕ, ◌≡◌, Bool, true, false, List}
use Rattle.std.proofs.Math.Option.{Option, some}
use Rattle.blocks.specs.Name.{Name}
use Rattle.expr.specs.Expr.{ExprKind}
use Rattle.resolved.specs.Resolved.{Head, ResolvedType, ResolvedTypeKind, Fields, Variants, get_type_info}
use Rattle.builder.specs.Nodes.{is_variable}

mutual
  pub data TypeGrown : ResolvedType → ResolvedType → Type 0 where
    resolved : {k k' : ResolvedTypeKind} (h : Head) → KindGrown (is_variable h.size) k k' → TypeGrown (ResolvedType.resolved h k) (ResolvedType.resolved h k')

  -- the flag: entries may be added
  pub data KindGrown : Bool → ResolvedTypeKind → ResolvedTypeKind → Type 0 where
    Primitive : (v : Bool) → KindGrown v ResolvedTypeKind.Primitive ResolvedTypeKind.Primitive
    Struct : {fs fs' : Fields} (v : Bool) → FieldsGrown false fs fs' → KindGrown v (ResolvedTypeKind.Struct fs) (ResolvedTypeKind.Struct fs')
    Union : {v : Bool} {fs fs' : Fields} → FieldsGrown v fs fs' → KindGrown v (ResolvedTypeKind.Union fs) (ResolvedTypeKind.Union fs')
    Enum : {v : Bool} {vs vs' : Variants} (e : ExprKind) → VariantsGrown v vs vs' → KindGrown v (ResolvedTypeKind.Enum e vs) (ResolvedTypeKind.Enum e vs')
    Array : {t t' : ResolvedType} (v : Bool) (e : ExprKind) (j : Bool) → TypeGrown t t' → KindGrown v (ResolvedTypeKind.Array t e j) (ResolvedTypeKind.Array t' e j)
    SizeDiscriminatedUnion : {v : Bool} {vs vs' : Variants} → VariantsGrown v vs vs' → KindGrown v (ResolvedTypeKind.SizeDiscriminatedUnion vs) (ResolvedTypeKind.SizeDiscriminatedUnion vs')
    TypeRef : (v : Bool) (n : Name) → KindGrown v (ResolvedTypeKind.TypeRef n) (ResolvedTypeKind.TypeRef n)

  pub data FieldsGrown : Bool → Fields → Fields → Type 0 where
    no_field : (v : Bool) → FieldsGrown v Fields.no_field Fields.no_field
    added_fields : (fs : Fields) → FieldsGrown true Fields.no_field fs
    field : {v : Bool} {t t' : ResolvedType} {fs fs' : Fields} (n : Name) (o : Option ℕ) → TypeGrown t t' → FieldsGrown v fs fs' → FieldsGrown v (Fields.field n o t fs) (Fields.field n o t' fs')

  pub data VariantsGrown : Bool → Variants → Variants → Type 0 where
    no_variant : (v : Bool) → VariantsGrown v Variants.no_variant Variants.no_variant
    added_variants : (vs : Variants) → VariantsGrown true Variants.no_variant vs
    variant : {v : Bool} {t t' : ResolvedType} {vs vs' : Variants} (n : Name) (x : ℕ) → TypeGrown t t' → VariantsGrown v vs vs' → VariantsGrown v (Variants.variant n x t vs) (Variants.variant n x t' vs')

-- a type of the old set, grown in the new one
pub record Grown (new : List ResolvedType) (n : Name) (t : ResolvedType) : Type 0 where
  pub type : ResolvedType
  pub found : get_type_info n new ≡ some type
  pub grown : TypeGrown t type

-- every name that the old set has, the new set has, grown
abbrev pub TypesGrown : List ResolvedType → List ResolvedType → Type 0
TypesGrown old new = (n : Name) (t : ResolvedType) → get_type_info n old ≡ some t → Grown new n t

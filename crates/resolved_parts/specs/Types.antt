-- What stands in the accepted types of a set, and where: the head of a type, the parts of each kind, a field, a variant, an
-- owner.
use Rattle.std.specs.Prelude.{ℕ, zero, suc, ◌+◌, ◌≤◌, ◌≡◌, cond, List, ◌∷◌, length, Option, Some, None, is_some}
use Rattle.std.proofs.Math.Option.{some, none}
use Rattle.std.proofs.Math.Option as math
use Rattle.blocks.specs.Bytes.{le2, le4}
use Rattle.blocks.specs.Name.{Name, same}
use Rattle.blocks.specs.Tree.{Tree, cons, body, part, text, entries, listed, view}
use Rattle.accepted.specs.Accepted.{Accepted, tree, name_at, Item, Entries, Listed}
use Rattle.expr.specs.Expr.{expr_of}
use Rattle.resolved.specs.Resolved.{Owner, Size, ResolvedTypeKind, head, kind_of, fields, variants, get}
use Rattle.resolved.specs.Set.{owner_of, thing_of, fields_in, variants_in, type_of}
use Rattle.resolved_parts.specs.Places.{name_end, alignment_at, head_end}
use Rattle.resolved_parts.specs.declared.TypeHead.{TypeHead}
use Rattle.resolved_parts.specs.declared.ArrayParts.{ArrayParts}
use Rattle.resolved_parts.specs.declared.EnumParts.{EnumParts}
use Rattle.resolved_parts.specs.declared.ListParts.{ListParts}
use Rattle.resolved_parts.specs.declared.FieldParts.{FieldParts}
use Rattle.resolved_parts.specs.declared.VariantParts.{VariantParts}

-- a name that lies inside the bytes
pub record Named (s : List ℕ) (at : ℕ) : Type 0 where
  pub inside : at + 2 + le2 s at ≤ length s
  pub short : le2 s at ≤ 255

-- the owners of a references block
abbrev pub owners_of : Tree → List Owner
owners_of t = listed owner_of (part 0 (body t))

-- the names of a list
abbrev pub texts_of : Tree → List Name
texts_of t = entries text t

-- the size that a constant size tells, or its absence
abbrev pub sized : Option ℕ → Size
sized None = Size.Variable
sized (Some v) = Size.Const v

-- the offset, as the definitions have it
abbrev pub offset_of : Option ℕ → math.Option ℕ
offset_of None = none
offset_of (Some v) = some v

-- what every type begins with
pub record HeadAt {s : List ℕ} {at : ℕ} (a : Accepted s 1 7 at) (r : TypeHead) : Type 0 where
  pub named : Named s (at + 6)
  pub name : (head (type_of (tree a))).name ≡ name_at s (at + 6)
  pub size : (head (type_of (tree a))).size ≡ sized r.size
  pub alignment : (head (type_of (tree a))).alignment ≡ r.alignment
  pub references : Accepted s 32 32 r.references
  pub owners : (head (type_of (tree a))).dynamic_params ≡ owners_of (tree references)
  pub references_at : r.references ≡ alignment_at s at + 8

-- an array's element and its size expression
pub record ArrayAt {s : List ℕ} {at : ℕ} (a : Accepted s 1 7 at) (r : ArrayParts) : Type 0 where
  pub element : Accepted s 1 7 r.element
  pub size : Accepted s 64 91 r.size
  pub room : 20 + le4 s r.element + le4 s r.size ≤ le4 s at
  pub is : kind_of (type_of (tree a)) ≡ ResolvedTypeKind.Array (type_of (tree element)) (expr_of (tree size)) r.jagged
  pub element_at : r.element ≡ head_end s at + 1
  pub size_at : r.size ≡ r.element + 4 + le4 s r.element

-- an enum's tag expression and its variants
pub record EnumAt {s : List ℕ} {at : ℕ} (a : Accepted s 1 7 at) (r : EnumParts) : Type 0 where
  pub tag : Accepted s 64 91 r.tag
  pub few : r.count ≤ 64
  pub list : Listed s 34 34 r.count r.first
  pub is : kind_of (type_of (tree a)) ≡ ResolvedTypeKind.Enum (expr_of (tree tag)) (variants_in (view thing_of list.got.0))
  pub tag_at : r.tag ≡ head_end s at
  pub first_at : r.first ≡ r.tag + 4 + le4 s r.tag + 2

-- the fields of a struct, the variants of a union, those of a size-discriminated union
pub record FieldsAt {s : List ℕ} {at : ℕ} (a : Accepted s 1 7 at) (r : ListParts) : Type 0 where
  pub few : r.count ≤ 64
  pub list : Listed s 33 33 r.count r.first
  pub struct : le2 s (at + 4) ≡ 2 → kind_of (type_of (tree a)) ≡ ResolvedTypeKind.Struct (fields_in (view thing_of list.got.0))
  pub union : le2 s (at + 4) ≡ 3 → kind_of (type_of (tree a)) ≡ ResolvedTypeKind.Union (fields_in (view thing_of list.got.0))
  pub first_at : r.first ≡ head_end s at + 2

pub record SizedAt {s : List ℕ} {at : ℕ} (a : Accepted s 1 7 at) (r : ListParts) : Type 0 where
  pub few : r.count ≤ 64
  pub list : Listed s 35 35 r.count r.first
  pub is : kind_of (type_of (tree a)) ≡ ResolvedTypeKind.SizeDiscriminatedUnion (variants_in (view thing_of list.got.0))
  pub first_at : r.first ≡ head_end s at + 2

-- a type reference's target name
pub record TargetAt {s : List ℕ} {at : ℕ} (a : Accepted s 1 7 at) (q : ℕ) : Type 0 where
  pub named : Named s q
  pub is : kind_of (type_of (tree a)) ≡ ResolvedTypeKind.TypeRef (name_at s q)
  pub name_place : q ≡ head_end s at

-- a field, before other fields u
pub record FieldAt {s : List ℕ} {at : ℕ} (a : Accepted s 33 33 at) (r : FieldParts) : Type 0 where
  pub named : Named s (at + 6)
  pub type : Accepted s 1 7 r.kind
  pub type_at : r.kind ≡ name_end s at + 1 + cond (is_some r.offset) 8 0
  pub is : (u : Tree) → fields (fields_in (view thing_of (cons (tree a) u))) ≡
      record { name = name_at s (at + 6); offset = offset_of r.offset; field_type = type_of (tree type) } ∷
      fields (fields_in (view thing_of u))

-- a variant of an enum (34) or of a size-discriminated union (35), before other variants u
pub record VariantAt {s : List ℕ} {k at : ℕ} (a : Accepted s k k at) (r : VariantParts) : Type 0 where
  pub named : Named s (at + 6)
  pub type : Accepted s 1 7 r.kind
  pub type_at : r.kind ≡ name_end s at + 8
  pub is : (u : Tree) → variants (variants_in (view thing_of (cons (tree a) u))) ≡
      record { name = name_at s (at + 6); number = r.number; variant_type = type_of (tree type) } ∷ variants (variants_in (view thing_of u))

-- a counted list of path names, whose count stands at q
pub record PathsAt (s : List ℕ) (q : ℕ) : Type 0 where
  pub inside : q + 2 ≤ length s
  pub few : le2 s q ≤ 64
  pub list : Entries s Item.names (le2 s q) (q + 2)

-- an owner
pub record OwnerAt {s : List ℕ} {at : ℕ} (a : Accepted s 37 37 at) (q : ℕ) : Type 0 where
  pub named : Named s (at + 6)
  pub paths : PathsAt s q
  pub is : owner_of (tree a) ≡ record { name = name_at s (at + 6); paths = texts_of paths.list.got.0 }
  pub paths_at : q ≡ name_end s at

-- where the paths of the first owner of a name stand, among some owners, one behind the other
unfoldable pub paths_from : List ℕ → Name → ℕ → ℕ → Option ℕ
paths_from s n zero at = None
paths_from s n (suc left) at = cond (same n (name_at s (at + 6))) (Some (name_end s at)) (paths_from s n left (at + 4 + le4 s at))

-- the same in a references block
abbrev pub paths_in : List ℕ → Name → ℕ → Option ℕ
paths_in s n references = paths_from s n (le2 s (references + 6)) (references + 6 + 2)

-- the paths of an owner, by its name
pub data PathsFound (s : List ℕ) (n : Name) (os : List Owner) : Option ℕ → Type 0 where
  at : {q : ℕ} (p : PathsAt s q) → get n os ≡ some (texts_of p.list.got.0) → PathsFound s n os (Some q)
  missing : get n os ≡ none → PathsFound s n os None

-- The types of a type set that was read: kinds 1 to 7, 32 to 37.
use Rattle.std.specs.Prelude.{ℕ, cond, List, [], eqb}
use Rattle.std.proofs.Math.Option.{Option}
use Rattle.blocks.specs.Name.{Name}
use Rattle.blocks.specs.Tree.{Tree, View, other, item, pair, first, rest, body, kind, number, text, part, flag, optional, listed, view, rest_view, item_or, part_or, part_view}
use Rattle.expr.specs.Expr.{expr_of}
use Rattle.resolved.specs.Resolved.{Owner, Size, Head, ResolvedType, ResolvedTypeKind, Fields, Variants}

-- "37 owner: name, count, path names"
abbrev pub owner_of : Tree → Owner
owner_of t = record { name = text (part 0 (body t)); paths = listed text (part 1 (body t)) }

-- "flag 0 and a constant size, or flag 1 for variable"
abbrev pub size_of : Tree → Size
size_of t = cond (flag (first t)) Size.Variable (Size.Const (number (rest t)))

-- "name; [..] size [..]; alignment; references"
abbrev pub head_of : Tree → Head
head_of t = record {
  name = text (part 0 t);
  size = size_of (part 1 t);
  alignment = number (part 2 t);
  dynamic_params = listed owner_of (part 0 (body (part 3 t)));
}

-- what a block of a type set stands for: a type (1 to 7), a field (33), a variant (34, 35)
pub data Thing : Type 0 where
  type : ResolvedType → Thing
  field : Name → Option ℕ → ResolvedType → Thing
  variant : Name → ℕ → ResolvedType → Thing
  nothing : Thing

abbrev pub no_type : ResolvedType
no_type = ResolvedType.resolved (record { name = []; size = Size.Variable; alignment = 0; dynamic_params = [] }) ResolvedTypeKind.Primitive

abbrev pub as_type : Thing → ResolvedType
as_type (Thing.type t) = t
as_type (Thing.field n o t) = no_type
as_type (Thing.variant n v t) = no_type
as_type Thing.nothing = no_type

abbrev pub with_field : Thing → Fields → Fields
with_field (Thing.type t) fs = fs
with_field (Thing.field n o t) fs = Fields.field n o t fs
with_field (Thing.variant n v t) fs = fs
with_field Thing.nothing fs = fs

abbrev pub with_variant : Thing → Variants → Variants
with_variant (Thing.type t) vs = vs
with_variant (Thing.field n o t) vs = vs
with_variant (Thing.variant n v t) vs = Variants.variant n v t vs
with_variant Thing.nothing vs = vs

unfoldable pub fields_in : View Thing → Fields
fields_in other = Fields.no_field
fields_in (item a) = Fields.no_field
fields_in (pair a b) = with_field (item_or Thing.nothing a) (fields_in b)

unfoldable pub variants_in : View Thing → Variants
variants_in other = Variants.no_variant
variants_in (item a) = Variants.no_variant
variants_in (pair a b) = with_variant (item_or Thing.nothing a) (variants_in b)

-- "Types 1 primitive, 2 struct, 3 union, 4 enum, 5 array, 6 size-discriminated union, 7 type reference"; "33 field [..] 34
-- enum variant [..] 35 sized variant"
pub data Form : Type 0 where
  primitive struct union enum array sized_union type_ref field variant unknown : Form

unfoldable pub form_of : ℕ → Form
form_of k =
    cond (eqb k 1) Form.primitive
    (cond (eqb k 2) Form.struct
    (cond (eqb k 3) Form.union
    (cond (eqb k 4) Form.enum
    (cond (eqb k 5) Form.array
    (cond (eqb k 6) Form.sized_union
    (cond (eqb k 7) Form.type_ref
    (cond (eqb k 33) Form.field
    (cond (eqb k 34) Form.variant
    (cond (eqb k 35) Form.variant
    Form.unknown)))))))))

abbrev pub made : Tree → ResolvedTypeKind → Thing
made t k = Thing.type (ResolvedType.resolved (head_of t) k)

-- t: the block's parts; v: what the blocks among them stand for
unfoldable pub make_thing : Form → Tree → View Thing → Thing
make_thing Form.primitive t v = made t ResolvedTypeKind.Primitive
make_thing Form.struct t v = made t (ResolvedTypeKind.Struct (fields_in (rest_view (part_view 4 v))))
make_thing Form.union t v = made t (ResolvedTypeKind.Union (fields_in (rest_view (part_view 4 v))))
make_thing Form.enum t v = made t (ResolvedTypeKind.Enum (expr_of (part 4 t)) (variants_in (rest_view (part_view 5 v))))
make_thing Form.array t v = made t (ResolvedTypeKind.Array (as_type (part_or Thing.nothing 5 v)) (expr_of (part 6 t)) (flag (part 4 t)))
make_thing Form.sized_union t v = made t (ResolvedTypeKind.SizeDiscriminatedUnion (variants_in (rest_view (part_view 4 v))))
make_thing Form.type_ref t v = made t (ResolvedTypeKind.TypeRef (text (part 4 t)))
make_thing Form.field t v = Thing.field (text (part 0 t)) (optional number (part 1 t)) (as_type (part_or Thing.nothing 2 v))
make_thing Form.variant t v = Thing.variant (text (part 0 t)) (number (part 1 t)) (as_type (part_or Thing.nothing 2 v))
make_thing Form.unknown t v = Thing.nothing

unfoldable pub thing_of : Tree → View Thing → Thing
thing_of b v = make_thing (form_of (kind b)) (body b) v

-- the type of a block 1 to 7
unfoldable pub type_of : Tree → ResolvedType
type_of t = as_type (item_or Thing.nothing (view thing_of t))

-- "36 type set: count, types"
unfoldable pub types_of : Tree → List ResolvedType
types_of t = listed type_of (part 0 (body t))

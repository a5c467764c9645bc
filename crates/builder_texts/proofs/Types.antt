-- The types of a tree of texts have texts as names: nothing is asked of the tree's shape, since a part that is not there is read as the empty text.
use Prim.Native.Nat.{ℕ, zero, suc}
use mathlib.Core.Path.{refl}
use mathlib.Core.Bool.{Bool}
use mathlib.Core.List.{List, []}
use mathlib.Core.Option.{Option}
use Rattle.blocks.specs.Name.{Name}
use Rattle.blocks.specs.Tree.{Tree, name, num, block, nil, cons, View, first, rest, body, text, part, entries, listed, view, first_view, rest_view, item_or, part_or, part_view, kind}
use Rattle.blocks.proofs.Compute.{compute}
use Rattle.expr.specs.Expr.{LiteralExpr, ExprKind, unknown, make_expr, expr_of}
use Rattle.expr.specs.Expr.{Form as ExprForm, form_of as expr_form_of}
use Rattle.resolved.specs.Resolved.{Owner, Head, ResolvedType, ResolvedTypeKind, Fields, Variants}
use Rattle.resolved.specs.Set.{owner_of, head_of, Thing, no_type, as_type, with_field, with_variant, fields_in, variants_in, Form, form_of, make_thing, thing_of, type_of, types_of}
use Rattle.builder_texts.specs.Texts.{IsText, Texts}
use Rattle.builder_texts.proofs.All.{All}

-- ---- what has texts as names

-- an expression
pub data ExprTexts : ExprKind → Type 0 where
  Literal : (l : LiteralExpr) → ExprTexts (ExprKind.Literal l)
  FieldRef : {ns : List Name} → All IsText ns → ExprTexts (ExprKind.FieldRef ns)
  Sizeof : {n : Name} → IsText n → ExprTexts (ExprKind.Sizeof n)
  Alignof : {n : Name} → IsText n → ExprTexts (ExprKind.Alignof n)
  Binary : (k : ℕ) {l r : ExprKind} → ExprTexts l → ExprTexts r → ExprTexts (ExprKind.Binary k l r)
  Unary : (k : ℕ) {x : ExprKind} → ExprTexts x → ExprTexts (ExprKind.Unary k x)

-- an owner and its paths
pub record OwnerTexts (o : Owner) : Type 0 where
  pub name : IsText o.name
  pub paths : All IsText o.paths

-- a type's head: its name, and its references
pub record HeadTexts (h : Head) : Type 0 where
  pub name : IsText h.name
  pub refs : All OwnerTexts h.dynamic_params

-- a type, its kind, fields and variants
mutual
  pub data TypeTexts : ResolvedType → Type 0 where
    resolved : {h : Head} {k : ResolvedTypeKind} → HeadTexts h → KindTexts k → TypeTexts (ResolvedType.resolved h k)

  pub data KindTexts : ResolvedTypeKind → Type 0 where
    Primitive : KindTexts ResolvedTypeKind.Primitive
    Struct : {fs : Fields} → FieldsTexts fs → KindTexts (ResolvedTypeKind.Struct fs)
    Union : {fs : Fields} → FieldsTexts fs → KindTexts (ResolvedTypeKind.Union fs)
    Enum : {e : ExprKind} {vs : Variants} → ExprTexts e → VariantsTexts vs → KindTexts (ResolvedTypeKind.Enum e vs)
    Array : {t : ResolvedType} {e : ExprKind} (j : Bool) → TypeTexts t → ExprTexts e → KindTexts (ResolvedTypeKind.Array t e j)
    SizeDiscriminatedUnion : {vs : Variants} → VariantsTexts vs → KindTexts (ResolvedTypeKind.SizeDiscriminatedUnion vs)
    TypeRef : {n : Name} → IsText n → KindTexts (ResolvedTypeKind.TypeRef n)

  pub data FieldsTexts : Fields → Type 0 where
    no_field : FieldsTexts Fields.no_field
    field : {n : Name} (o : Option ℕ) {t : ResolvedType} {fs : Fields} → IsText n → TypeTexts t → FieldsTexts fs → FieldsTexts (Fields.field n o t fs)

  pub data VariantsTexts : Variants → Type 0 where
    no_variant : VariantsTexts Variants.no_variant
    variant : {n : Name} (v : ℕ) {t : ResolvedType} {vs : Variants} → IsText n → TypeTexts t → VariantsTexts vs → VariantsTexts (Variants.variant n v t vs)

-- ---- the parts of a tree

-- the empty text
pub empty_text : IsText []
unfolding compute
empty_text = refl

-- a part read as a text
text_of : (t : Tree) → Texts t → IsText (text t)
text_of (name n) h = h
text_of (num w v) h = empty_text
text_of (block at k t) h = empty_text
text_of nil h = empty_text
text_of (cons a b) h = empty_text

-- the first part
first_of : (t : Tree) → Texts t → Texts (first t)
first_of (name n) h = tt
first_of (num w v) h = tt
first_of (block at k t) h = tt
first_of nil h = tt
first_of (cons a b) h = h.0

-- the others
rest_of : (t : Tree) → Texts t → Texts (rest t)
rest_of (name n) h = tt
rest_of (num w v) h = tt
rest_of (block at k t) h = tt
rest_of nil h = tt
rest_of (cons a b) h = h.1

-- a block's body
body_of : (t : Tree) → Texts t → Texts (body t)
body_of (name n) h = tt
body_of (num w v) h = tt
body_of (block at k t) h = h
body_of nil h = tt
body_of (cons a b) h = tt

-- the part with a number
part_of : (i : ℕ) (t : Tree) → Texts t → Texts (part i t)
unfolding part
part_of zero t h = first_of t h
part_of (suc i) t h = part_of i (rest t) (rest_of t h)

-- that part as a text
part_text : (i : ℕ) (t : Tree) → Texts t → IsText (text (part i t))
part_text i t h = text_of (part i t) (part_of i t h)

-- the entries of a list, each read by f
entries_of : {A : Type 0} {P : A → Type 0} (f : Tree → A) → ((t : Tree) → Texts t → P (f t)) → (t : Tree) → Texts t → All P (entries f t)
unfolding entries
entries_of f g (name n) h = All.none
entries_of f g (num w v) h = All.none
entries_of f g (block at k t) h = All.none
entries_of f g nil h = All.none
entries_of f g (cons a b) h = All.more (g a h.0) (entries_of f g b h.1)

-- the same behind the list's count
listed_of : {A : Type 0} {P : A → Type 0} (f : Tree → A) → ((t : Tree) → Texts t → P (f t)) → (t : Tree) → Texts t → All P (listed f t)
listed_of f g t h = entries_of f g (rest t) (rest_of t h)

-- ---- what the blocks of a tree stand for

-- P holds of what each block stands for
data InView {A : Type 0} (P : A → Type 0) : View A → Type 0 where
  other : InView P View.other
  item : {a : A} → P a → InView P (View.item a)
  pair : {a b : View A} → InView P a → InView P b → InView P (View.pair a b)

-- so it does where it holds of a block of texts if it holds of what its inner blocks stand for
view_of : {A : Type 0} {P : A → Type 0} (make : Tree → View A → A) → ((b : Tree) (v : View A) → Texts (body b) → InView P v → P (make b v)) → (t : Tree) → Texts t → InView P (view make t)
unfolding view
view_of make g (name n) h = InView.other
view_of make g (num w v) h = InView.other
view_of make g (block at k t) h = InView.item (g (block at k t) (view make t) h (view_of make g t h))
view_of make g nil h = InView.other
view_of make g (cons a b) h = InView.pair (view_of make g a h.0) (view_of make g b h.1)

module _ {A : Type 0} {P : A → Type 0} where
  -- of the first part
  first_view_lem : {v : View A} → InView P v → InView P (first_view v)
  first_view_lem InView.other = InView.other
  first_view_lem (InView.item p) = InView.other
  first_view_lem (InView.pair p q) = p

  -- of the others
  rest_view_lem : {v : View A} → InView P v → InView P (rest_view v)
  rest_view_lem InView.other = InView.other
  rest_view_lem (InView.item p) = InView.other
  rest_view_lem (InView.pair p q) = q

  -- of the part with a number
  part_view_lem : (i : ℕ) {v : View A} → InView P v → InView P (part_view i v)
  unfolding part_view
  part_view_lem zero h = first_view_lem h
  part_view_lem (suc i) h = part_view_lem i (rest_view_lem h)

  module _ (d : A) (p : P d) where
    -- of a block, or of d where there is none
    item_or_lem : {v : View A} → InView P v → P (item_or d v)
    item_or_lem InView.other = p
    item_or_lem (InView.item q) = q
    item_or_lem (InView.pair q r) = p

    -- of the part with a number
    part_or_lem : (i : ℕ) {v : View A} → InView P v → P (part_or d i v)
    unfolding part_or
    part_or_lem zero h = item_or_lem (first_view_lem h)
    part_or_lem (suc i) h = part_or_lem i (rest_view_lem h)

-- ---- expressions

-- an expression of no known kind is a reference of no path
unknown_texts : ExprTexts unknown
unknown_texts = ExprTexts.FieldRef All.none

-- by the form of its parts
make_expr_lem : (k : ℕ) (f : ExprForm) (t : Tree) {v : View ExprKind} → Texts t → InView ExprTexts v → ExprTexts (make_expr k f t v)
unfolding make_expr
make_expr_lem k ExprForm.literal t h i = ExprTexts.Literal _
make_expr_lem k ExprForm.field_ref t h i = ExprTexts.FieldRef (listed_of text text_of (part 0 t) (part_of 0 t h))
make_expr_lem k ExprForm.sizeof t h i = ExprTexts.Sizeof (part_text 0 t h)
make_expr_lem k ExprForm.alignof t h i = ExprTexts.Alignof (part_text 0 t h)
make_expr_lem k ExprForm.unary t h i = ExprTexts.Unary k (part_or_lem unknown unknown_texts 0 i)
make_expr_lem k ExprForm.binary t h i = ExprTexts.Binary k (part_or_lem unknown unknown_texts 0 i) (part_or_lem unknown unknown_texts 1 i)

-- an expression of a tree of texts has texts
expr_of_lem : (t : Tree) → Texts t → ExprTexts (expr_of t)
unfolding expr_of
expr_of_lem t h = item_or_lem unknown unknown_texts (view_of _ (λ b v g i. make_expr_lem (kind b) (expr_form_of (kind b)) (body b) g i) t h)

-- ---- types

-- what a block of a set stands for
data ThingTexts : Thing → Type 0 where
  type : {t : ResolvedType} → TypeTexts t → ThingTexts (Thing.type t)
  field : {n : Name} (o : Option ℕ) {t : ResolvedType} → IsText n → TypeTexts t → ThingTexts (Thing.field n o t)
  variant : {n : Name} (v : ℕ) {t : ResolvedType} → IsText n → TypeTexts t → ThingTexts (Thing.variant n v t)
  nothing : ThingTexts Thing.nothing

-- a type that is not there
no_type_lem : TypeTexts no_type
no_type_lem = TypeTexts.resolved (record { name = empty_text; refs = All.none }) KindTexts.Primitive

-- a thing as a type
as_type_lem : {x : Thing} → ThingTexts x → TypeTexts (as_type x)
as_type_lem (ThingTexts.type t) = t
as_type_lem (ThingTexts.field o n t) = no_type_lem
as_type_lem (ThingTexts.variant v n t) = no_type_lem
as_type_lem ThingTexts.nothing = no_type_lem

-- as one field more
with_field_lem : {x : Thing} {fs : Fields} → ThingTexts x → FieldsTexts fs → FieldsTexts (with_field x fs)
with_field_lem (ThingTexts.type t) h = h
with_field_lem (ThingTexts.field o n t) h = FieldsTexts.field o n t h
with_field_lem (ThingTexts.variant v n t) h = h
with_field_lem ThingTexts.nothing h = h

-- as one variant more
with_variant_lem : {x : Thing} {vs : Variants} → ThingTexts x → VariantsTexts vs → VariantsTexts (with_variant x vs)
with_variant_lem (ThingTexts.type t) h = h
with_variant_lem (ThingTexts.field o n t) h = h
with_variant_lem (ThingTexts.variant v n t) h = VariantsTexts.variant v n t h
with_variant_lem ThingTexts.nothing h = h

-- a list of fields
fields_in_lem : {v : View Thing} → InView ThingTexts v → FieldsTexts (fields_in v)
unfolding fields_in
fields_in_lem InView.other = FieldsTexts.no_field
fields_in_lem (InView.item p) = FieldsTexts.no_field
fields_in_lem (InView.pair p q) = with_field_lem (item_or_lem Thing.nothing ThingTexts.nothing p) (fields_in_lem q)

-- a list of variants
variants_in_lem : {v : View Thing} → InView ThingTexts v → VariantsTexts (variants_in v)
unfolding variants_in
variants_in_lem InView.other = VariantsTexts.no_variant
variants_in_lem (InView.item p) = VariantsTexts.no_variant
variants_in_lem (InView.pair p q) = with_variant_lem (item_or_lem Thing.nothing ThingTexts.nothing p) (variants_in_lem q)

-- an owner
owner_of_lem : (t : Tree) → Texts t → OwnerTexts (owner_of t)
owner_of_lem t h = let g = body_of t h in record { name = part_text 0 (body t) g; paths = listed_of text text_of (part 1 (body t)) (part_of 1 (body t) g) }

-- a head
head_of_lem : (t : Tree) → Texts t → HeadTexts (head_of t)
head_of_lem t h = record { name = part_text 0 t h; refs = listed_of owner_of owner_of_lem (part 0 (body (part 3 t))) (part_of 0 (body (part 3 t)) (body_of (part 3 t) (part_of 3 t h))) }

-- a thing, by the form of its parts
make_thing_lem : (f : Form) (t : Tree) {v : View Thing} → Texts t → InView ThingTexts v → ThingTexts (make_thing f t v)
unfolding make_thing
make_thing_lem f t {v} h i = go f
  where
    made : {k : ResolvedTypeKind} → KindTexts k → ThingTexts (Thing.type (ResolvedType.resolved (head_of t) k))
    made g = ThingTexts.type (TypeTexts.resolved (head_of_lem t h) g)

    inner : (n : ℕ) → TypeTexts (as_type (part_or Thing.nothing n v))
    inner n = as_type_lem (part_or_lem Thing.nothing ThingTexts.nothing n i)

    go : (f : Form) → ThingTexts (make_thing f t v)
    go Form.primitive = made KindTexts.Primitive
    go Form.struct = made (KindTexts.Struct (fields_in_lem (rest_view_lem (part_view_lem 4 i))))
    go Form.union = made (KindTexts.Union (fields_in_lem (rest_view_lem (part_view_lem 4 i))))
    go Form.enum = made (KindTexts.Enum (expr_of_lem (part 4 t) (part_of 4 t h)) (variants_in_lem (rest_view_lem (part_view_lem 5 i))))
    go Form.array = made (KindTexts.Array _ (inner 5) (expr_of_lem (part 6 t) (part_of 6 t h)))
    go Form.sized_union = made (KindTexts.SizeDiscriminatedUnion (variants_in_lem (rest_view_lem (part_view_lem 4 i))))
    go Form.type_ref = made (KindTexts.TypeRef (part_text 4 t h))
    go Form.field = ThingTexts.field _ (part_text 0 t h) (inner 2)
    go Form.variant = ThingTexts.variant _ (part_text 0 t h) (inner 2)
    go Form.unknown = ThingTexts.nothing

-- the type of a block
type_of_lem : (t : Tree) → Texts t → TypeTexts (type_of t)
unfolding type_of thing_of
type_of_lem t h = as_type_lem (item_or_lem Thing.nothing ThingTexts.nothing (view_of thing_of (λ b v g i. make_thing_lem (form_of (kind b)) (body b) g i) t h))

-- the types of a set that is a tree of texts have texts as names
pub types_of_lem : (t : Tree) → Texts t → All TypeTexts (types_of t)
unfolding types_of
types_of_lem t h = listed_of type_of type_of_lem (part 0 (body t)) (part_of 0 (body t) (body_of t h))

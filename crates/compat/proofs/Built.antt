-- The builder half of demand 3: a set and what it has grown to are built to a layout and its extension.
use mathlib.Core.Path.{◌≡◌, refl, ap}
use mathlib.Core.Bool.{Bool, true, false, cond}
use mathlib.Core.List.{List, [], ◌∷◌}
use mathlib.Core.Option.{Option, some, none}
use Prim.Native.Nat.{ℕ, suc}
use native.Mathlib.Omega.{arith}
use Rattle.errors.specs.Refusal.{Refusal, Outcome, done, refused, at_type}
use Rattle.errors.proofs.Laws.{done_one, not_done, bound}
use Rattle.blocks.specs.Name.{Name, same}
use Rattle.resolved.proofs.Lookup.{some_one}
use Rattle.resolved.specs.Resolved.{ResolvedType, ResolvedTypeKind, Fields, head, fields, get_type_info}
use Rattle.ir.specs.Ir.{IrParameter, TypeIr}
use Rattle.interpreter.specs.Eval.{lookup_type}
use Rattle.builder.specs.Names.{replace_colons, split, before_element}
use Rattle.builder.specs.BuildType.{fields_of, has_jagged, is_jagged_element_parameter, filter_jagged_element_parameters}
use Rattle.builder.specs.BuildType.{build_type_ir}
use Rattle.builder.specs.Build.{build_type, build_types}
use Rattle.compat.specs.Types.{TypeGrown, KindGrown, FieldsGrown, TypesGrown}
use Rattle.compat.specs.Nodes.{NodeExtended, Found, LayoutExtended}
use Rattle.compat.proofs.Keeps.{Keeps, gives, binds, first}
use Rattle.compat.proofs.Types.{kind_kept, root_extends}

-- ---- parameters

-- a struct's fields keep their names, and which are jagged arrays
has_jagged_kept : (n : Name) {fs fs' : Fields} → FieldsGrown false fs fs'
    → has_jagged n (fields fs) ≡ has_jagged n (fields fs')
unfolding has_jagged fields
has_jagged_kept n (FieldsGrown.no_field v) = refl
has_jagged_kept n (FieldsGrown.field m o (TypeGrown.resolved h k) g) = rw ((kind_kept k).1, has_jagged_kept n g)

-- the same of any kind: only a struct has fields that count here
kind_jagged_kept : {v : Bool} {k k' : ResolvedTypeKind} → KindGrown v k k' → (n : Name)
    → has_jagged n (fields_of k) ≡ has_jagged n (fields_of k')
kind_jagged_kept (KindGrown.Primitive v) n = refl
kind_jagged_kept (KindGrown.Struct v g) n = has_jagged_kept n g
kind_jagged_kept (KindGrown.Union g) n = refl
kind_jagged_kept (KindGrown.Enum e g) n = refl
kind_jagged_kept (KindGrown.Array v e j g) n = refl
kind_jagged_kept (KindGrown.SizeDiscriminatedUnion g) n = refl
kind_jagged_kept (KindGrown.TypeRef v m) n = refl

-- so whether a parameter is an element's of such an array is kept
jagged_parameter_kept : {t t' : ResolvedType} → TypeGrown t t' → (n : Name) (o : Option Name)
    → before_element (split (replace_colons n)) ≡ o → is_jagged_element_parameter t n ≡ is_jagged_element_parameter t' n
unfolding is_jagged_element_parameter
jagged_parameter_kept (TypeGrown.resolved h g) n none e = rw e
jagged_parameter_kept (TypeGrown.resolved h g) n (some m) e = rw e (kind_jagged_kept g m)

-- and the parameters that are listed are the same
filter_kept : {t t' : ResolvedType} → TypeGrown t t' → (ps : List IrParameter)
    → filter_jagged_element_parameters t ps ≡ filter_jagged_element_parameters t' ps
unfolding filter_jagged_element_parameters
filter_kept g [] = refl
filter_kept g (p ∷ ps) = rw (jagged_parameter_kept g p.name _ refl, filter_kept g ps)

-- ---- one type

-- a type's tree, and its extension
pub record Extended (Known : Name → Type 0) (t t' : TypeIr) : Type 0 where
  pub named : t.type_name ≡ t'.type_name
  pub alignment : t.alignment ≡ t'.alignment
  pub parameters : t.parameters ≡ t'.parameters
  pub root : NodeExtended Known t.root t'.root

-- what is kept from any registry is kept from the empty one
started : {R : TypeIr → TypeIr → Type 0} (types types' : List ResolvedType) (t t' : ResolvedType)
    → Keeps R (build_type_ir types t) (build_type_ir types' t')
    → (x x' : TypeIr) → build_type types t ≡ done x → build_type types' t' ≡ done x' → R x x'
unfolding build_type
started types types' t t' h x x' e e' =
    let (y, d, i) = bound (build_type_ir types t []) _ x e in
    let (y', d', i') = bound (build_type_ir types' t' []) _ x' e' in
    rw (← done_one i, ← done_one i') (h.run [] y y' d d').0

-- a type's tree has its name
tree_named : (types : List ResolvedType) (t : ResolvedType)
    → Keeps (λ x x'. x.type_name ≡ (head t).name) (build_type_ir types t) (build_type_ir types t)
unfolding build_type_ir
tree_named types t = first _ (λ _. first _ (λ root. first _ (λ parameters. gives _ _ refl)))

-- the same of a built type: it has its name in the set
named : (types : List ResolvedType) (t : ResolvedType) (x : TypeIr)
    → build_type types t ≡ done x → x.type_name ≡ (head t).name
named types t x e = started types types t t (tree_named types t) x x e e

module _ (Known : Name → Type 0) (old new : List ResolvedType) (grown : TypesGrown old new)
    (known : (n : Name) (t : ResolvedType) → get_type_info n old ≡ some t → Known n) where
  -- a type and what it has grown to build to a tree and its extension
  tree_extends : {t t' : ResolvedType} → TypeGrown t t' → Keeps (Extended Known) (build_type_ir old t) (build_type_ir new t')
  unfolding build_type_ir
  tree_extends (TypeGrown.resolved h g) =
      let whole = TypeGrown.resolved h g in
      first _ (λ _.
      binds (root_extends Known old new grown known whole) (λ n n' x.
      first _ (λ ps.
      gives _ _ (record { named = refl; alignment = refl; parameters = filter_kept whole ps; root = x }))))

-- ---- a set

-- the types of a set and their trees
data Trees (types : List ResolvedType) : List ResolvedType → List TypeIr → Type 0 where
  no_tree : Trees types [] []
  tree : {t : ResolvedType} {x : TypeIr} {ts : List ResolvedType} {xs : List TypeIr}
      → build_type types t ≡ done x → Trees types ts xs → Trees types (t ∷ ts) (x ∷ xs)

-- a place that a refusal gets changes no value
at_type_lem : {A : Type 0} (i : ℕ) (o : Outcome A) (x : A) → at_type i o ≡ done x → o ≡ done x
unfolding at_type
at_type_lem i (done a) x e = e
at_type_lem i (refused r) x e = absurd (not_done e)

-- a set that builds has a tree for each of its types
trees : (types ts : List ResolvedType) (i : ℕ) (xs : List TypeIr) → build_types types i ts ≡ done xs → Trees types ts xs
unfolding build_types
trees types [] i xs e = rw (← done_one e) Trees.no_tree
trees types (t ∷ ts) i xs e =
    let (y, d, r) = bound (at_type i (build_type types t)) _ xs e in
    let (ys, d', r') = bound (build_types types (suc i) ts) _ xs r in
    rw (← done_one r') (Trees.tree (at_type_lem i _ y d) (trees types ts (suc i) ys d'))

-- a name looked up in a set, and in the layout built from it
data Looked (types : List ResolvedType) : Option ResolvedType → Outcome (ℕ × TypeIr) → Type 0 where
  neither : (r : Refusal) → Looked types none (refused r)
  both : (t : ResolvedType) (i : ℕ) (x : TypeIr) → build_type types t ≡ done x → Looked types (some t) (done (i, x))

module _ {types : List ResolvedType} where
  -- both lookups go by one test
  chosen : {o : Option ResolvedType} {l : Outcome (ℕ × TypeIr)} (b : Bool) (t : ResolvedType) (i : ℕ) (x : TypeIr)
      → build_type types t ≡ done x → Looked types o l
      → Looked types (cond b (some t) o) (elim b [ true ↦ done (i, x) | false ↦ l ])
  chosen true t i x e h = Looked.both t i x e
  chosen false t i x e h = h

  -- a name is found in both, or in neither
  looked : {ts : List ResolvedType} {xs : List TypeIr} → Trees types ts xs → (i : ℕ) (n : Name)
      → Looked types (get_type_info n ts) (lookup_type i n xs)
  unfolding get_type_info lookup_type
  looked Trees.no_tree i n = Looked.neither _
  looked (Trees.tree {t} {x} e r) i n =
      rw (← named types t x e)
      (chosen (same n x.type_name) t i x e (looked r (suc i) n))

  -- what the set has, the layout has
  in_layout : {o : Option ResolvedType} {l : Outcome (ℕ × TypeIr)} → Looked types o l → (t : ResolvedType) → o ≡ some t
      → (i : ℕ) × (x : TypeIr) × (l ≡ done (i, x)) × (build_type types t ≡ done x)
  in_layout (Looked.neither r) t e = let z : ◌≡◌ {A = ℕ} 0 1 = cc in absurd (omega arith)
  in_layout (Looked.both u i x d) t e = (i, x, refl, rw (← some_one e) d)

  -- what the layout has, the set has
  in_set : {o : Option ResolvedType} {l : Outcome (ℕ × TypeIr)} → Looked types o l → (i : ℕ) (x : TypeIr) → l ≡ done (i, x)
      → (t : ResolvedType) × (o ≡ some t) × (build_type types t ≡ done x)
  in_set (Looked.neither r) i x e = absurd (not_done e)
  in_set (Looked.both t j y d) i x e = (t, refl, rw (← ap (λ p. p.1) (done_one e)) d)

-- a name that a set has, its layout has
pub known : (old : List ResolvedType) (xs : List TypeIr) → build_types old 0 old ≡ done xs → (n : Name) (t : ResolvedType) → get_type_info n old ≡ some t → Found xs n
known old xs built_old n t e =
    let (i, x, d, made) = in_layout (looked (trees old old 0 xs built_old) 0 n) t e in
    record { place = i; type = x; found = d }

module _ (old new : List ResolvedType) (grown : TypesGrown old new) (xs ys : List TypeIr)
    (built_old : build_types old 0 old ≡ done xs) (built_new : build_types new 0 new ≡ done ys) where
  -- the tree of the same name in the new layout
  pub counterpart : (n : Name) (i : ℕ) (t : TypeIr) → lookup_type 0 n xs ≡ done (i, t)
      → (j : ℕ) × (u : TypeIr) × (lookup_type 0 n ys ≡ done (j, u)) × Extended (Found xs) t u
  counterpart n i t e =
      let (r, d, made) = in_set (looked (trees old old 0 xs built_old) 0 n) i t e in
      let g = grown n r d in
      let (j, u, d', made') = in_layout (looked (trees new new 0 ys built_new) 0 n) g.type g.found in
      (j, u, d', started old new r g.type (tree_extends (Found xs) old new grown (known old xs built_old) g.grown) t u made made')

-- grown types build to nodes with cases added, with the same parameters
pub built : (old new : List ResolvedType) → TypesGrown old new
    → (xs ys : List TypeIr) → build_types old 0 old ≡ done xs → build_types new 0 new ≡ done ys → LayoutExtended xs ys
built old new grown xs ys built_old built_new n i t e =
    let (j, u, d, x) = counterpart old new grown xs ys built_old built_new n i t e in
    record { place = j; type = u; found = d; named = x.named; parameters = x.parameters; root = x.root }

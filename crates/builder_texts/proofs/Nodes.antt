-- Nodes, as they are built, write texts only: one law for each function of the builder's Nodes, up to its switches.
use Prim.Native.Nat.{ℕ}
use mathlib.Core.Path.{◌≡◌, refl, sym, subst}
use mathlib.Core.Bool.{Bool, true, false, ◌&&◌, cond}
use mathlib.Core.List.{List, [], ◌∷◌, ◌++◌}
use mathlib.Core.Option.{Option, some, none}
use lib.Dec.{ltb, eqb}
use lib.ListN.{length}
use Rattle.blocks.specs.Name.{Name, same}
use Rattle.blocks.specs.Tree.{Tree, name}
use Rattle.blocks.proofs.Compute.{compute}
use Rattle.blocks.proofs.Name.{false_true, same_eq}
use Rattle.blocks.proofs.Utf8.{text_well, well_text}
use Rattle.expr.specs.Expr.{ExprKind}
use Rattle.resolved.specs.Resolved.{Owner, Size, Head, ResolvedType, ResolvedTypeKind, head, kind_of, get, get_type_info, target_of, jagged_of}
use Rattle.ir.specs.Ir.{IrParameter, IrArgument, BinaryOp, IrNode, SwitchCases, DefaultNode, NodeMetadata, aligned, default_metadata, unplaced}
use Rattle.ir.specs.Layout.{optional_tree, entries_tree, flag_tree, parameter_tree, argument_tree, node_tree, cases_tree}
use Rattle.builder.specs.Names.{canonical_name, join, apply_path_prefix, is_some, rsplit_once}
use Rattle.builder.specs.Registry.{Build, give, short}
use Rattle.builder.specs.Nodes.{align_node, const_of, const_node, const_or_zero, add_all, combine_checked_add, ref_text, build_field_ref_nodes, sum_refs, buffer_size, build_path, build_expr_ir}
use Rattle.builder.specs.Nodes.{argument, collect_paths, collect_callee_arguments, build_typeref_node, sum_over_array, build_element, build_elements, is_variable}
use Rattle.builder.specs.Nodes.{build_array_node_with_prefix, build_array_kind, field_key, has, select_array_owner, build_array_node, Alternative, build_alternative, build_cases, build_switch}
use Rattle.builder_texts.specs.Texts.{IsText, Texts}
use Rattle.builder_texts.proofs.All.{All, Maybe, all_append, whatever, either}
use Rattle.builder_texts.proofs.Names.{Well, empty_well, canonical_name_well, join_well, extend_element_prefix_well, apply_path_prefix_well, ref_text_well}
use Rattle.builder_texts.proofs.Types.{ExprTexts, OwnerTexts, HeadTexts, TypeTexts, KindTexts}
use Rattle.builder_texts.proofs.Keeps.{ParameterTexts, Keeps, gives, refuses, needs, says, requires, binds}
use Rattle.builder_texts.proofs.Registry.{texts_well, lookup_name_text, owner_parameters_texts, ensure_keeps, extend_with_keeps}

-- ---- what is written

-- a node is written as a tree of texts
abbrev pub NodeTexts : IrNode → Type 0
NodeTexts n = Texts (node_tree n)

-- so are the cases of a switch
abbrev pub CasesTexts : SwitchCases → Type 0
CasesTexts cs = Texts (cases_tree cs)

-- and an argument
abbrev pub ArgumentTexts : IrArgument → Type 0
ArgumentTexts x = Texts (argument_tree x)

-- an optional text
optional_texts : {o : Option Name} → Maybe IsText o → Texts (optional_tree name o)
optional_texts Maybe.none = (tt, tt)
optional_texts (Maybe.some t) = (tt, t)

-- a flag
flag_texts : (b : Bool) → Texts (flag_tree b)
flag_texts true = tt
flag_texts false = tt

-- the entries of a list, each by f
pub entries_texts : {A : Type 0} {P : A → Type 0} (f : A → Tree) → ((a : A) → P a → Texts (f a)) → {xs : List A} → All P xs → Texts (entries_tree f xs)
unfolding entries_tree
entries_texts f g All.none = tt
entries_texts f g (All.more p ps) = (g _ p, entries_texts f g ps)

-- a parameter
pub parameter_tree_lem : (p : IrParameter) → ParameterTexts p → Texts (parameter_tree p)
parameter_tree_lem p h = (h.name, (optional_texts h.description, (flag_texts p.derived, tt)))

-- ---- small nodes; each begins with its alignment and its size text, which most do not have

-- a node over a node
pub align_texts : (n : IrNode) (a : ℕ) → NodeTexts n → NodeTexts (align_node n a)
unfolding node_tree
align_texts n a h = (tt, ((tt, tt), (tt, (h, tt))))

-- a node over two
binary_texts : (a : ℕ) (o : BinaryOp) (l r : IrNode) → NodeTexts l → NodeTexts r → NodeTexts (IrNode.Binary unplaced (aligned a) o l r)
unfolding node_tree
binary_texts a o l r h g = (tt, ((tt, tt), (h, (g, tt))))

-- a constant
const_texts : (a v : ℕ) → NodeTexts (IrNode.Const unplaced (aligned a) v)
unfolding node_tree
const_texts a v = (tt, ((tt, tt), (tt, tt)))

-- no size
zero_texts : (a : ℕ) → NodeTexts (IrNode.ZeroSize unplaced (aligned a))
unfolding node_tree
zero_texts a = (tt, ((tt, tt), tt))

-- `const_node`
pub const_node_keeps : (h : Head) → Keeps NodeTexts (const_node h)
const_node_keeps h = go h.size
  where
    go : (s : Size) → Keeps NodeTexts (const_of s h.alignment)
    go (Size.Const v) = gives _ (const_texts h.alignment v)
    go Size.Variable = refuses _

-- `const_or_zero`
pub const_or_zero_texts : (v a : ℕ) → NodeTexts (const_or_zero v a)
const_or_zero_texts v a = either NodeTexts (eqb v 0) (zero_texts a) (align_texts _ a (const_texts a v))

-- a reference: its size text, path and parameter are texts
reference_texts : (m : NodeMetadata) (path parameter : Name) → Maybe IsText m.size_expr → IsText path → IsText parameter
    → NodeTexts (IrNode.FieldRef unplaced m path (some parameter))
unfolding node_tree
reference_texts m path parameter e p q = (tt, (optional_texts e, (p, ((tt, q), tt))))

-- sums from the left
add_all_texts : (n : IrNode) {ms : List IrNode} → NodeTexts n → All NodeTexts ms → NodeTexts (add_all n ms)
unfolding add_all
add_all_texts n h All.none = h
add_all_texts n h (All.more {x} g gs) = add_all_texts _ (binary_texts 1 BinaryOp.AddChecked n x h g) gs

-- `combine_checked_add`
pub combine_keeps : {ns : List IrNode} → All NodeTexts ns → Keeps NodeTexts (combine_checked_add ns)
unfolding combine_checked_add
combine_keeps All.none = refuses _
combine_keeps (All.more {x} h hs) = gives _ (add_all_texts x h hs)

-- `build_field_ref_nodes`: the size text is measured, the path was read, the parameter is the registry's
field_ref_nodes_keep : (owner : Name) {ps : List Name} → IsText owner → All IsText ps → Keeps (All NodeTexts) (build_field_ref_nodes owner ps)
unfolding build_field_ref_nodes
field_ref_nodes_keep owner t All.none = gives _ All.none
field_ref_nodes_keep owner t (All.more {x = path} p ps) =
    binds (says (Maybe IsText) _ (lookup_name_text owner path)) (λ found m.
    binds (needs m _) (λ parameter q.
    binds (requires (short (ref_text owner path)) 17) (λ _ s.
    let size = well_text (ref_text owner path) (ref_text_well owner path (text_well owner t) (text_well path p)) s in
    binds (field_ref_nodes_keep owner t ps) (λ nodes h.
    gives _ (All.more (reference_texts _ path parameter (Maybe.some size) p q) h)))))

-- their sum
pub sum_refs_keeps : (owner : Name) {ps : List Name} → IsText owner → All IsText ps → Keeps NodeTexts (sum_refs owner ps)
unfolding sum_refs
sum_refs_keeps owner t ps = binds (field_ref_nodes_keep owner t ps) (λ nodes h. combine_keeps h)

-- ---- size expressions

-- the bytes `__buffer_size`
buffer_size_text : IsText buffer_size
unfolding compute
buffer_size_text = refl

-- a reference of that path has no parameter
buffer_texts : (n : Name) → n ≡ buffer_size → NodeTexts (IrNode.FieldRef unplaced default_metadata n none)
unfolding node_tree
buffer_texts n e = (tt, ((tt, tt), (subst IsText (sym e) buffer_size_text, ((tt, tt), tt))))

-- a path that is looked up is measured
path_keeps : (owner path : Name) → Well path → Keeps NodeTexts (build_path owner path)
unfolding build_path
path_keeps owner path w =
    binds (says (Maybe IsText) _ (lookup_name_text owner path)) (λ found m.
    binds (needs m _) (λ parameter q.
    binds (requires (short path) 17) (λ _ s.
    gives _ (reference_texts _ path parameter Maybe.none (well_text path w s) q))))

-- `build_expr_ir`: the path of a reference is `__buffer_size`, or it is looked up
pub expr_keeps : (owner prefix : Name) {e : ExprKind} → Well prefix → ExprTexts e → Keeps NodeTexts (build_expr_ir owner prefix e)
unfolding build_expr_ir
expr_keeps owner prefix w (ExprTexts.Literal l) = binds (needs (whatever _) _) (λ v _. gives _ (const_texts 1 v))
expr_keeps owner prefix w (ExprTexts.FieldRef {ns} t) = go (same (join ns) buffer_size) refl
  where
    go : (b : Bool) → same (join ns) buffer_size ≡ b
        → Keeps NodeTexts (cond b (give (IrNode.FieldRef unplaced default_metadata (join ns) none)) (build_path owner (apply_path_prefix prefix (join ns))))
    go true q = gives _ (buffer_texts (join ns) (same_eq (join ns) buffer_size q))
    go false q = path_keeps owner _ (apply_path_prefix_well prefix (join ns) w (join_well (texts_well t)))
expr_keeps owner prefix w (ExprTexts.Sizeof t) = refuses _
expr_keeps owner prefix w (ExprTexts.Alignof t) = refuses _
expr_keeps owner prefix w (ExprTexts.Binary k l r) =
    binds (needs (whatever _) _) (λ o _.
    binds (expr_keeps owner prefix w l) (λ n h.
    binds (expr_keeps owner prefix w r) (λ m g.
    gives _ (binary_texts 1 o n m h g))))
expr_keeps owner prefix w (ExprTexts.Unary k x) = refuses _

-- ---- type references

-- the type of a name has texts
type_info_texts : (n : Name) {ts : List ResolvedType} → All TypeTexts ts → Maybe TypeTexts (get_type_info n ts)
unfolding get_type_info
type_info_texts n All.none = Maybe.none
type_info_texts n (All.more {x = t} h hs) = either (Maybe TypeTexts) (same n (head t).name) (Maybe.some h) (type_info_texts n hs)

-- the head of a type
pub head_texts : {t : ResolvedType} → TypeTexts t → HeadTexts (head t)
head_texts (TypeTexts.resolved h k) = h

-- an argument for each path, under its canonical name, which is measured
collect_paths_keeps : (owner : Name) {ps : List Name} (xs : List IrArgument) → Well owner → All Well ps → All ArgumentTexts xs → Keeps (All ArgumentTexts) (collect_paths owner ps xs)
unfolding collect_paths
collect_paths_keeps owner xs v All.none h = gives _ h
collect_paths_keeps owner xs v (All.more {x = path} p ps) h =
    binds (requires (short (canonical_name owner path)) 17) (λ _ s.
    let t = well_text (canonical_name owner path) (canonical_name_well owner path v p) s in
    binds (ensure_keeps owner path v p) (λ _ _.
    binds (requires (ltb (length xs) 512) 17) (λ _ _.
    collect_paths_keeps owner (xs ++ (argument (canonical_name owner path) ∷ [])) v ps (all_append h (All.more (t, (t, tt)) All.none)))))

-- `collect_callee_arguments`
arguments_keep : {os : List Owner} (xs : List IrArgument) → All OwnerTexts os → All ArgumentTexts xs → Keeps (All ArgumentTexts) (collect_callee_arguments os xs)
unfolding collect_callee_arguments
arguments_keep xs All.none h = gives _ h
arguments_keep xs (All.more {x = o} t ts) h =
    binds (collect_paths_keeps o.name xs (text_well o.name t.name) (texts_well t.paths) h) (λ ys g.
    arguments_keep ys ts g)

-- a call: the type's name, and the arguments
call_texts : (a : ℕ) (target : Name) {xs : List IrArgument} → IsText target → All ArgumentTexts xs → NodeTexts (IrNode.CallNested unplaced (aligned a) target xs)
unfolding node_tree
call_texts a target t h = (tt, ((tt, tt), (t, ((tt, entries_texts argument_tree (λ x g. g) h), tt))))

-- `build_typeref_node`
pub typeref_keeps : {types : List ResolvedType} (h : Head) (target : Name) → All TypeTexts types → IsText target → Keeps NodeTexts (build_typeref_node types h target)
unfolding build_typeref_node
typeref_keeps h target ts t =
    binds (needs (type_info_texts target ts) _) (λ type g.
    binds (arguments_keep [] (head_texts g).refs All.none) (λ xs as'.
    gives _ (call_texts h.alignment target t as')))

-- ---- arrays

-- the name that a type reference has
pub target_text : {k : ResolvedTypeKind} → KindTexts k → Maybe IsText (target_of k)
target_text KindTexts.Primitive = Maybe.none
target_text (KindTexts.Struct f) = Maybe.none
target_text (KindTexts.Union f) = Maybe.none
target_text (KindTexts.Enum e v) = Maybe.none
target_text (KindTexts.Array j t e) = Maybe.none
target_text (KindTexts.SizeDiscriminatedUnion v) = Maybe.none
target_text (KindTexts.TypeRef n) = Maybe.some n

-- a sum over an array: the element type's name, and the field's
over_array_texts : (a : ℕ) (count : IrNode) (target owner : Name) → NodeTexts count → IsText target → IsText owner → NodeTexts (IrNode.SumOverArray unplaced (aligned a) count target owner)
unfolding node_tree
over_array_texts a count target owner c t o = (tt, ((tt, tt), (c, (t, (o, tt)))))

-- of a type reference, else it is refused
sum_over_array_keeps : (h : Head) (owner : Name) (count : IrNode) {k : ResolvedTypeKind} → IsText owner → NodeTexts count → KindTexts k → Keeps NodeTexts (sum_over_array h owner count k)
unfolding sum_over_array
sum_over_array_keeps h owner count o c k =
    binds (needs (target_text k) _) (λ target t.
    gives _ (align_texts _ h.alignment (over_array_texts h.alignment count target owner c t o)))

module _ {inside : Build IrNode} (inner : Keeps NodeTexts inside) where
  -- an array's element
  element_keeps : (s : Size) (a : ℕ) (k : ResolvedTypeKind) → Keeps NodeTexts (build_element inside s a k)
  unfolding build_element
  element_keeps (Size.Const v) a k = gives _ (const_texts a v)
  element_keeps Size.Variable a k = binds (needs (whatever (jagged_of k)) _) (λ _ _. inner)

  -- count times element, or the sum over the elements
  elements_keep : (h : Head) (owner : Name) (count : IrNode) (b : Bool) {eh : Head} {ek : ResolvedTypeKind} → IsText owner → NodeTexts count → HeadTexts eh → KindTexts ek
      → Keeps NodeTexts (build_elements inside h owner count b eh ek)
  unfolding build_elements
  elements_keep h owner count true o c t k = sum_over_array_keeps h owner count o c k
  elements_keep h owner count false {eh} {ek} o c t k =
      binds (extend_with_keeps t.refs) (λ _ _.
      binds (element_keeps eh.size eh.alignment ek) (λ element e.
      gives _ (align_texts _ h.alignment (binary_texts h.alignment BinaryOp.MulChecked count element c e))))

  -- the same, from the element's type
  inner_keeps : (h : Head) (owner : Name) (count : IrNode) (j : Bool) {t : ResolvedType} → IsText owner → NodeTexts count → TypeTexts t
      → Keeps NodeTexts (build_elements inside h owner count (j && is_variable (head t).size) (head t) (kind_of t))
  inner_keeps h owner count j o c (TypeTexts.resolved {h = eh} t k) = elements_keep h owner count (j && is_variable eh.size) o c t k

mutual
  unfolding build_array_node_with_prefix build_array_kind

  -- `build_array_node_with_prefix`
  pub array_keeps : {t : ResolvedType} → TypeTexts t → (owner prefix : Name) → IsText owner → Well prefix → Keeps NodeTexts (build_array_node_with_prefix owner prefix t)
  array_keeps (TypeTexts.resolved {h} t k) owner prefix o w = array_kind_keeps k owner prefix h o w

  -- the same by the type's kind: only an array has such a node
  array_kind_keeps : {k : ResolvedTypeKind} → KindTexts k → (owner prefix : Name) (h : Head) → IsText owner → Well prefix → Keeps NodeTexts (build_array_kind owner prefix h k)
  array_kind_keeps KindTexts.Primitive owner prefix h o w = refuses _
  array_kind_keeps (KindTexts.Struct f) owner prefix h o w = refuses _
  array_kind_keeps (KindTexts.Union f) owner prefix h o w = refuses _
  array_kind_keeps (KindTexts.Enum e v) owner prefix h o w = refuses _
  array_kind_keeps (KindTexts.Array j t e) owner prefix h o w =
      binds (expr_keeps owner prefix w e) (λ count c.
      inner_keeps (array_keeps t owner _ o (extend_element_prefix_well prefix w)) h owner count j o c t)
  array_kind_keeps (KindTexts.SizeDiscriminatedUnion v) owner prefix h o w = refuses _
  array_kind_keeps (KindTexts.TypeRef n) owner prefix h o w = refuses _

-- a name that owners have is one of theirs
has_text : (n : Name) {os : List Owner} → All OwnerTexts os → has n os ≡ true → IsText n
unfolding get
has_text n All.none e = false_true e
has_text n (All.more {x = o} {xs = os} t ts) e = go (same n o.name) refl e (has_text n ts)
  where
    go : (b : Bool) → same n o.name ≡ b → is_some (cond b (some o.paths) (get n os)) ≡ true → (has n os ≡ true → IsText n) → IsText n
    go true q d ih = subst IsText (sym (same_eq n o.name q)) t.name
    go false q d ih = ih d

-- `select_array_owner`: whichever it is, an owner has it
owner_text : (h : Head) {os : List Owner} → All OwnerTexts os → Maybe IsText (select_array_owner h os)
unfolding select_array_owner
owner_text h All.none = Maybe.none
owner_text h (All.more {x = o} {xs = os} t ts) = go key (λ e. has_text key (All.more t ts) e) (go h.name (has_text h.name (All.more t ts)) (Maybe.some t.name))
  where
    key : Name
    key = field_key (rsplit_once h.name)

    go : (n : Name) → (has n (o ∷ os) ≡ true → IsText n) → {x : Option Name} → Maybe IsText x → Maybe IsText (cond (has n (o ∷ os)) (some n) x)
    go n f {x} m = chosen (has n (o ∷ os)) refl
      where
        chosen : (b : Bool) → has n (o ∷ os) ≡ b → Maybe IsText (cond b (some n) x)
        chosen true e = Maybe.some (f e)
        chosen false e = m

-- `build_array_node`
pub array_root_keeps : {t : ResolvedType} → TypeTexts t → Keeps NodeTexts (build_array_node t)
unfolding build_array_node
array_root_keeps t = binds (needs (owner_text _ (head_texts t).refs) _) (λ owner o. array_keeps t owner [] o empty_well)

-- ---- switches

-- the paths of an owner
pub paths_texts : (n : Name) {os : List Owner} → All OwnerTexts os → Maybe (All IsText) (get n os)
unfolding get
paths_texts n All.none = Maybe.none
paths_texts n (All.more {x = o} t ts) = either (Maybe (All IsText)) (same n o.name) (Maybe.some t.paths) (paths_texts n ts)

-- an alternative's node
alternative_keeps : (refs : List Owner) (n : Name) (s : Size) (a : ℕ) → All OwnerTexts refs → IsText n → Keeps NodeTexts (build_alternative refs n s a)
unfolding build_alternative
alternative_keeps refs n (Size.Const v) a ts t = gives _ (const_or_zero_texts v a)
alternative_keeps refs n Size.Variable a ts t =
    binds (needs (paths_texts n ts) _) (λ paths ps.
    binds (sum_refs_keeps n t ps) (λ sum h.
    gives _ (align_texts sum a h)))

-- an alternative has a text as name
abbrev pub AlternativeText : Alternative → Type 0
AlternativeText x = IsText x.name

-- a case in front of others
case_texts : (v : ℕ) (n : IrNode) {ps : List IrParameter} (cs : SwitchCases) → NodeTexts n → All ParameterTexts ps → CasesTexts cs → CasesTexts (SwitchCases.case v n ps cs)
unfolding node_tree
case_texts v n cs h ps g = ((tt, (h, ((tt, entries_texts parameter_tree parameter_tree_lem ps), tt))), g)

-- no case
no_case_texts : CasesTexts SwitchCases.no_case
unfolding node_tree
no_case_texts = tt

-- the cases: a node each, and the parameters of the variant's name
cases_keep : (refs : List Owner) {xs : List Alternative} → All OwnerTexts refs → All AlternativeText xs → Keeps CasesTexts (build_cases refs xs)
unfolding build_cases
cases_keep refs ts All.none = gives _ no_case_texts
cases_keep refs ts (All.more {x} t xs) =
    binds (alternative_keeps refs x.name x.size x.alignment ts t) (λ node h.
    binds (says (All ParameterTexts) _ (λ r f. owner_parameters_texts x.name f)) (λ parameters ps.
    binds (cases_keep refs ts xs) (λ cases g.
    gives _ (case_texts x.tag node cases h ps g))))

-- a switch with no default
switch_texts : (a : ℕ) (tag : Name) (cs : SwitchCases) → IsText tag → CasesTexts cs → NodeTexts (IrNode.Switch unplaced (aligned a) tag cs DefaultNode.no_default)
unfolding node_tree
switch_texts a tag cs t h = (tt, ((tt, tt), (t, ((tt, h), ((tt, tt), tt)))))

-- the switch of enums, unions and size-discriminated unions
pub switch_keeps : (h : Head) (tag : Name) {xs : List Alternative} → HeadTexts h → IsText tag → All AlternativeText xs → Keeps NodeTexts (build_switch h tag xs)
unfolding build_switch
switch_keeps h tag t g xs = binds (cases_keep h.dynamic_params t.refs xs) (λ cases c. gives _ (switch_texts h.alignment tag cases g c))

-- A block of a type and what it became stand for a type and what it became.
use Prim.Native.Nat.{ℕ, zero, suc, ◌≤◌}
use native.Mathlib.Omega.{arith}
use mathlib.Core.Path.{◌≡◌, refl}
use mathlib.Core.Bool.{Bool, true, false, ◌&&◌, cond}
use mathlib.Core.List.{List, [], ◌∷◌}
use lib.Dec.{eqb}
use Rattle.blocks.specs.declared.Part.{Part}
use Rattle.blocks.specs.declared.Part.TheVariants.{Text, Number, OptNumber, Block}
use Rattle.blocks.specs.Grammar.{grammar, find_row, parts_of, within}
use Rattle.blocks.specs.Tree.{Tree, part, view, first_view, rest_view, item_or, part_or, part_view}
use Rattle.blocks.specs.Read.{Earlier}
use Rattle.blocks.proofs.Name.{false_true}
use Rattle.resolved.specs.Resolved.{Head, ResolvedType, ResolvedTypeKind, Fields, Variants}
use Rattle.resolved.specs.Set.{Thing, as_type, with_field, with_variant, fields_in, variants_in, Form, form_of, head_of, make_thing, thing_of, type_of}
use Rattle.builder.specs.Nodes.{is_variable}
use Rattle.roundtrip.specs.Fits.{nothing, both, text, EntriesFits, InBlocks, PartFits, PartsFits, inside, BlockFits}
use Rattle.compat.specs.Grown.{Grown, GrownLast, GrownEntries, growing}
use Rattle.compat.specs.Types.{TypeGrown, KindGrown, FieldsGrown, VariantsGrown}
use Rattle.compat.proofs.Table.{table, bounds, agree, Opened, opened, open_kind}
use Rattle.compat.proofs.Kept.{number_kept, text_kept, offset_kept, expr_kept, head_kept}

-- ---- parts and entries; the flag: entries may have been added behind the last

-- entries that became others; where the flag is set, more may stand behind them
data Longer : Bool → Tree → Tree → Type 0 where
  kept : {es es' : Tree} (v : Bool) → Grown es es' → Longer v es es'
  grown : {es es' : Tree} → GrownEntries es es' → Longer true es es'

-- parts, of which the last may be a list with entries added
data Parts : Bool → Tree → Tree → Type 0 where
  none : (v : Bool) → Parts v Tree.nil Tree.nil
  more : {v : Bool} {a a' t t' : Tree} → Grown a a' → Parts v t t' → Parts v (Tree.cons a t) (Tree.cons a' t')
  last : {n n' es es' : Tree} → GrownEntries es es' → Parts true (Tree.cons (Tree.cons n es) Tree.nil) (Tree.cons (Tree.cons n' es') Tree.nil)

-- parts none of which was added to
parts_kept : (v : Bool) (B : InBlocks) (e : Earlier) (ps : List Part) {t t' : Tree} → PartsFits B e ps t → Grown t t' → Parts v t t'
unfolding PartsFits
parts_kept v B e [] nothing Grown.nil = none v
parts_kept v B e (p ∷ ps) (both x y) (Grown.cons g h) = more g (parts_kept v B e ps y h)

-- parts of which the last was added to
parts_grown : {t t' : Tree} → GrownLast t t' → Parts true t t'
parts_grown (GrownLast.last n n' h) = last h
parts_grown (GrownLast.before g l) = more g (parts_grown l)

-- the entries of a last part
ended : {v : Bool} {n es t' : Tree} → Parts v (Tree.cons (Tree.cons n es) Tree.nil) t' → (es' : Tree) × Longer v es es' × (rest_view (first_view (view thing_of t')) ≡ view thing_of es')
unfolding view
ended (more (Grown.cons m g) (none v)) = (_, kept v g, refl)
ended (last h) = (_, grown h, refl)

-- ---- fields and variants

-- the block of a field or variant, and the one that it became: a name, an offset or number, a type
data Entered (i : ℕ) : Tree → Tree → Type 0 where
  entered : {at at' : ℕ} {a a' b b' c c' : Tree} → Grown a a' → Grown b b' → TypeGrown (type_of c) (type_of c') →
      Entered i (Tree.block at i (Tree.cons a (Tree.cons b (Tree.cons c Tree.nil)))) (Tree.block at' i (Tree.cons a' (Tree.cons b' (Tree.cons c' Tree.nil))))

-- what is shown of blocks with B: of types; of fields and variants
abbrev TypesGrow : InBlocks → Type 0
TypesGrow B = (e : Earlier) (b b' : Tree) → B e 1 7 b → Grown b b' → TypeGrown (type_of b) (type_of b')

-- the same of fields and variants
abbrev EntriesGrow : InBlocks → Type 0
EntriesGrow B = (i : ℕ) → within 33 35 i ≡ true → (e : Earlier) (b b' : Tree) → B e i i b → Grown b b' → Entered i b b'

-- what a block of a field or variant stands for
abbrev thing : Tree → Thing
thing b = item_or Thing.nothing (view thing_of b)

-- a field that became another, in front of fields that did
with_field_lem : {v : Bool} {b b' : Tree} {fs fs' : Fields} → Entered 33 b b' → FieldsGrown v fs fs' → FieldsGrown v (with_field (thing b) fs) (with_field (thing b') fs')
unfolding view thing_of make_thing form_of part part_or type_of
with_field_lem (entered a b c) h = rw (text_kept a, offset_kept b) (FieldsGrown.field _ _ c h)

-- a variant that became another, in front of variants that did
with_variant_lem : {i : ℕ} {v : Bool} {b b' : Tree} {vs vs' : Variants} → form_of i ≡ Form.variant → Entered i b b' → VariantsGrown v vs vs'
    → VariantsGrown v (with_variant (thing b) vs) (with_variant (thing b') vs')
unfolding view thing_of make_thing part part_or type_of
with_variant_lem f (entered a b c) h = rw (f, text_kept a, number_kept b) (VariantsGrown.variant _ _ c h)

-- lists of them
module _ (B : InBlocks) (entry : EntriesGrow B) where
  -- the fields of a list and those of what it became
  fields_grown : (n : ℕ) (e : Earlier) {v : Bool} {t t' : Tree} → EntriesFits (λ f. B f 33 33) e n t → Longer v t t' → FieldsGrown v (fields_in (view thing_of t)) (fields_in (view thing_of t'))
  unfolding EntriesFits fields_in view
  fields_grown zero e nothing (kept v Grown.nil) = FieldsGrown.no_field v
  fields_grown zero e nothing (grown (GrownEntries.behind a)) = FieldsGrown.added_fields _
  fields_grown (suc n) e (both p ps) (kept v (Grown.cons g h)) = with_field_lem (entry 33 refl e _ _ p g) (fields_grown n _ ps (kept v h))
  fields_grown (suc n) e (both p ps) (grown (GrownEntries.entry g h)) = with_field_lem (entry 33 refl e _ _ p g) (fields_grown n _ ps (grown h))

  module _ (i : ℕ) (w : within 33 35 i ≡ true) (f : form_of i ≡ Form.variant) where
    -- the variants of a list and those of what it became
    variants_grown : (n : ℕ) (e : Earlier) {v : Bool} {t t' : Tree} → EntriesFits (λ f. B f i i) e n t → Longer v t t' → VariantsGrown v (variants_in (view thing_of t)) (variants_in (view thing_of t'))
    unfolding EntriesFits variants_in view
    variants_grown zero e nothing (kept v Grown.nil) = VariantsGrown.no_variant v
    variants_grown zero e nothing (grown (GrownEntries.behind a)) = VariantsGrown.added_variants _
    variants_grown (suc n) e (both p ps) (kept v (Grown.cons g h)) = with_variant_lem f (entry i w e _ _ p g) (variants_grown n _ ps (kept v h))
    variants_grown (suc n) e (both p ps) (grown (GrownEntries.entry g h)) = with_variant_lem f (entry i w e _ _ p g) (variants_grown n _ ps (grown h))

-- ---- types

-- the same head, and a kind that became another
made : {v : Bool} {h h' : Head} {k k' : ResolvedTypeKind} → h ≡ h' → is_variable h.size ≡ v → KindGrown v k k' → TypeGrown (ResolvedType.resolved h k) (ResolvedType.resolved h' k')
made e q g = rw (← e) (TypeGrown.resolved _ (rw (← q) at g))

-- type, entry: of the blocks inside
module _ (room : ℕ) (e : Earlier) (type : TypesGrow (BlockFits room)) (entry : EntriesGrow (BlockFits room)) where
  -- by kind, from 0 on; there is no type 0; entries are added only in a 3, 4 or 6 of variable size
  parts_type : (k : ℕ) → k ≤ 7 → {v : Bool} {t t' : Tree} → PartsFits (BlockFits room) e (parts_of k) t → (growing k && is_variable (head_of t).size) ≡ v → Parts v t t' →
      TypeGrown (as_type (make_thing (form_of k) t (view thing_of t))) (as_type (make_thing (form_of k) t' (view thing_of t')))
  unfolding PartsFits PartFits parts_of find_row grammar form_of make_thing view part part_view part_or type_of
  parts_type zero w p d g = TypeGrown.resolved _ (KindGrown.Primitive true)
  parts_type (suc zero) w (both n (both z (both a (both r nothing)))) d (more gn (more gz (more ga (more gr (none v))))) = made (head_kept room _ gn gz ga r gr) refl (KindGrown.Primitive _)
  parts_type (suc zero) w (both n (both z (both a (both r nothing)))) d (more gn (more gz (more ga (last h)))) = false_true d
  parts_type (suc (suc zero)) w {v} (both n (both z (both a (both r (both (both c q) nothing))))) d (more gn (more gz (more ga (more gr g)))) =
      let still : false ≡ v = d in
      let x = ended g in
      made (head_kept room _ gn gz ga r gr) refl (KindGrown.Struct _ (rw (x.2, still) (fields_grown (BlockFits room) entry _ _ q x.1)))
  parts_type (suc (suc (suc zero))) w (both n (both z (both a (both r (both (both c q) nothing))))) d (more gn (more gz (more ga (more gr g)))) =
      let x = ended g in made (head_kept room _ gn gz ga r gr) d (KindGrown.Union (rw x.2 (fields_grown (BlockFits room) entry _ _ q x.1)))
  parts_type (suc (suc (suc (suc zero)))) w (both n (both z (both a (both r (both y (both (both c q) nothing)))))) d (more gn (more gz (more ga (more gr (more gy g))))) =
      let x = ended g in made (head_kept room _ gn gz ga r gr) d (rw (expr_kept room _ _ _ y gy, x.2) (KindGrown.Enum _ (variants_grown (BlockFits room) entry 34 refl refl _ _ q x.1)))
  parts_type (suc (suc (suc (suc (suc zero))))) w (both n (both z (both a (both r (both j (both t (both y nothing))))))) d (more gn (more gz (more ga (more gr (more gj (more gt (more gy (none v)))))))) =
      made (head_kept room _ gn gz ga r gr) refl (rw (expr_kept room _ _ _ y gy, number_kept gj) (KindGrown.Array _ _ _ (type _ _ _ t gt)))
  parts_type (suc (suc (suc (suc (suc zero))))) w (both n (both z (both a (both r (both j (both t (both y nothing))))))) d (more gn (more gz (more ga (more gr (more gj (more gt (last h))))))) =
      false_true d
  parts_type (suc (suc (suc (suc (suc (suc zero)))))) w (both n (both z (both a (both r (both (both c q) nothing))))) d (more gn (more gz (more ga (more gr g)))) =
      let x = ended g in made (head_kept room _ gn gz ga r gr) d (KindGrown.SizeDiscriminatedUnion (rw x.2 (variants_grown (BlockFits room) entry 35 refl refl _ _ q x.1)))
  parts_type (suc (suc (suc (suc (suc (suc (suc zero))))))) w (both n (both z (both a (both r (both (text y) nothing))))) d (more gn (more gz (more ga (more gr (more gy (none v)))))) =
      made (head_kept room _ gn gz ga r gr) refl (rw (text_kept gy) (KindGrown.TypeRef _ _))
  parts_type (suc (suc (suc (suc (suc (suc (suc (suc k)))))))) w p d g = absurd (omega arith)

  -- a block of a type and what it became
  type_block : (b b' : Tree) → BlockFits (suc room) e 1 7 b → Grown b b' → TypeGrown (type_of b) (type_of b')
  unfolding BlockFits type_of view thing_of
  type_block b b' (inside w _ _ p) (Grown.block at at' k g) = parts_type k (bounds 1 7 k w).1 p refl (parts_kept _ _ e (parts_of k) p g)
  type_block b b' (inside w _ _ p) (Grown.grows at at' k d x l) = parts_type k (bounds 1 7 k w).1 p (rw (d, x)) (parts_grown l)

-- ---- the block of a field or variant

-- "name, flag with offset or without, type"; "name, tag, type"; "name, expected size, type"
abbrev entry_parts : ℕ → List Part
entry_parts k = Text ∷ cond (eqb k 33) OptNumber Number ∷ Block 1 7 ∷ []

-- the parts of fields and variants, from the grammar
entry_parts_lem : (k : ℕ) → within 33 35 k ≡ true → parts_of k ≡ entry_parts k
unfolding table parts_of find_row grammar
entry_parts_lem = agree parts_of entry_parts 33 2 refl

-- a block of a field or variant and what it became
enter : (B : InBlocks) (e : Earlier) → TypesGrow B → {b b' : Tree} (i : ℕ) → within 33 35 i ≡ true → Opened (λ k. PartsFits B e (parts_of k)) i b b' → Entered i b b'
unfolding PartsFits PartFits
enter B e type i w (opened {at} {at'} p g) = found (rw (entry_parts_lem i w) at p) g
  where
    found : {t t' : Tree} → PartsFits B e (entry_parts i) t → Grown t t' → Entered i (Tree.block at i t) (Tree.block at' i t')
    found (both x (both y (both z nothing))) (Grown.cons a (Grown.cons b (Grown.cons c Grown.nil))) = entered a b (type _ _ _ z c)

-- ---- all blocks

-- types, fields and variants at any depth
blocks_grown : (room : ℕ) → TypesGrow (BlockFits room) × EntriesGrow (BlockFits room)
unfolding BlockFits table
blocks_grown zero = ((λ e b b' p g. absurd p), (λ i w e b b' p g. absurd p))
blocks_grown (suc room) =
    let r = blocks_grown room in
    ((λ e. type_block room e r.0 r.1), (λ i w e b b' p g. enter (BlockFits room) e r.0 i w (open_kind i (agree growing (λ k. false) 33 2 refl i w) p g)))

-- a type's block that grew stands for a type that grew: used for every type of the set
pub type_grown : (room : ℕ) (e : Earlier) (b b' : Tree) → BlockFits room e 1 7 b → Grown b b' → TypeGrown (type_of b) (type_of b')
type_grown room = (blocks_grown room).0

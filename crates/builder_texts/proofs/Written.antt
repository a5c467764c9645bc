-- The theorem: what the builder writes from valid texts is valid.
use Prim.Native.Nat.{ℕ, suc}
use mathlib.Core.Path.{◌≡◌, subst}
use mathlib.Core.List.{List, []}
use Rattle.errors.specs.Refusal.{Outcome, done, refused, at_type}
use Rattle.errors.proofs.Laws.{done_one, not_done, bound}
use Rattle.blocks.specs.Tree.{Tree}
use Rattle.blocks.specs.Read.{read_set}
use Rattle.resolved.specs.Resolved.{ResolvedType}
use Rattle.resolved.specs.Set.{types_of}
use Rattle.ir.specs.Ir.{TypeIr}
use Rattle.ir.specs.Layout.{type_ir_tree, layout_tree}
use Rattle.builder.specs.BuildType.{build_type_ir}
use Rattle.builder.specs.Build.{build_type, build_types}
use Rattle.builder_texts.specs.Texts.{Texts}
use Rattle.builder_texts.proofs.All.{All}
use Rattle.builder_texts.proofs.Reading.{input_texts}
use Rattle.builder_texts.proofs.Types.{TypeTexts, types_of_lem}
use Rattle.builder_texts.proofs.Nodes.{entries_texts}
use Rattle.builder_texts.proofs.Roots.{type_keeps}

-- a type is written as a tree of texts
abbrev Written : TypeIr → Type 0
Written x = Texts (type_ir_tree x)

-- a place that a refusal gets changes no value
placed : {A : Type 0} (i : ℕ) (o : Outcome A) {x : A} → at_type i o ≡ done x → o ≡ done x
unfolding at_type
placed i (done a) e = e
placed i (refused r) e = absurd (not_done e)

module _ {types : List ResolvedType} (known : All TypeTexts types) where
  -- one type, from an empty registry
  type_written : {t : ResolvedType} → TypeTexts t → {x : TypeIr} → build_type types t ≡ done x → Written x
  unfolding build_type
  type_written {t} h e =
      let (y, d, i) = bound (build_type_ir types t []) _ _ e in
      subst Written (done_one i) ((type_keeps known h).run [] All.none y d).0

  -- the types from place i on
  types_written : (i : ℕ) {ts : List ResolvedType} → All TypeTexts ts → {xs : List TypeIr} → build_types types i ts ≡ done xs → All Written xs
  unfolding build_types
  types_written i All.none e = subst (All Written) (done_one e) All.none
  types_written i (All.more {x = t} {xs = ts} h hs) e =
      let (x, d, j) = bound (at_type i (build_type types t)) _ _ e in
      let (xs, d', j') = bound (build_types types (suc i) ts) _ _ j in
      subst (All Written) (done_one j') (All.more (type_written h (placed i (build_type types t) d)) (types_written (suc i) hs d'))

-- Every name and text that the builder writes from a set that was read passes question 3. It is said of the tree; `layout_not_3` says it of the
-- bytes, where they are read.
pub texts_written : (set : List ℕ) (t : Tree) (ts : List TypeIr) → read_set set ≡ done t → build_types (types_of t) 0 (types_of t) ≡ done ts → Texts (layout_tree ts)
unfolding layout_tree
texts_written set t ts read built =
    let known = types_of_lem t (input_texts 32 36 set t read) in
    ((tt, entries_texts type_ir_tree (λ x h. h) (types_written known 0 known built)), tt)

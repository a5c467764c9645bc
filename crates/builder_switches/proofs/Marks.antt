-- The references of an expression, marked one by one.
use mathlib.Core.Path.{◌≡◌, refl, sym, ap, ◌∙◌}
use mathlib.Core.Bool.{Bool, true, false}
use mathlib.Core.List.{List, [], ◌∷◌, ◌++◌}
use Prim.Native.Nat.{ℕ, ◌+◌, ◌≤◌, ◌<◌}
use native.Mathlib.Omega.{arith}
use lib.ListN.{length, take, drop}
use lib.Seq.{take-append_seam}
use lib.Dec.{leb, eqb}
use borrow.Author.Tests.{le-leb, lt-leb, leb-true, leb-false, eqb-true, eqb-false}
use Rattle.blocks.specs.Bytes.{le2, le4}
use Rattle.blocks.specs.Name.{Name}
use Rattle.blocks.specs.Grammar.{within}
use Rattle.accepted.specs.Accepted.{Accepted, tree}
use Rattle.accepted.proofs.Laws.{opened}
use Rattle.expr.specs.Expr.{ExprKind, expr_of}
use Rattle.builder.specs.Names.{join, apply_path_prefix}
use Rattle.builder.specs.Registry.{Registry, mark_derived}
use Rattle.builder.specs.Nodes.{field_refs, mark_all}
use Rattle.wire.specs.Poke.{Wrote}
use Rattle.wire.proofs.Laws.{poke_whole}
use Rattle.resolved_parts.specs.Types.{texts_of}
use Rattle.expr_parts.proofs.Laws.{literal_at, field_ref_at, sizeof_at, alignof_at, unary_at, binary_at, compare_at}
use Rattle.builder_paths.specs.Joined.{prefix_of, path_of, no_names}
use Rattle.builder_registry.specs.Words.{Standing, entries_of}
use Rattle.builder_registry.proofs.Laws.{long_mark}

-- ---- the path of a field reference

-- without a prefix the path is the segments joined
pub path_is : (path : List Name) → path_of 0 path ≡ join path
unfolding prefix_of apply_path_prefix
path_is path = refl

-- a path that was written whole into the buffer
pub path_held : {xs ys : List ℕ} {r : ℕ} (m : ℕ) (path : List Name) → length xs ≡ 512 → m ≤ 511 → m ≡ length (path_of 0 path) →
    Wrote xs 0 (path_of 0 path) ys r → take m ys ≡ join path
path_held {xs} m path l h e w =
    rw (w.left, poke_whole xs (path_of 0 path) (omega arith), e)
    (take-append_seam (path_of 0 path) (drop (length (path_of 0 path)) xs) ∙ path_is path)

-- a path that has a segment is one reference
one_ref : (path : List Name) → no_names path ≡ false → field_refs (ExprKind.FieldRef path) ≡ join path ∷ []
unfolding field_refs
one_ref [] h = let z : ◌≡◌ {A = ℕ} 0 1 = cc in absurd (omega arith)
one_ref (x ∷ xs) h = refl

-- one that has none is none
no_ref : (path : List Name) → no_names path ≡ true → field_refs (ExprKind.FieldRef path) ≡ []
unfolding field_refs
no_ref [] h = refl
no_ref (x ∷ xs) h = let z : ◌≡◌ {A = ℕ} 0 1 = cc in absurd (omega arith)

module _ {s : List ℕ} {e : ℕ} (owner : Name) (g : Registry) (k : le2 s (e + 4) ≡ 65) {b : Bool}
    (t : (a : Accepted s 64 91 e) (path : List Name) → expr_of (tree a) ≡ ExprKind.FieldRef path → b ≡ no_names path) where
  -- without a segment nothing is marked
  pub mark_none : b ≡ true → (a : Accepted s 64 91 e) → g ≡ mark_all owner (field_refs (expr_of (tree a))) g
  unfolding mark_all
  mark_none h a =
      let f = field_ref_at a k in
      let z : field_refs (expr_of (tree a)) ≡ [] = ap field_refs f.is
      ∙ no_ref (texts_of f.list.got.0) (sym (t a (texts_of f.list.got.0) f.is) ∙ h) in
      rw z refl

  -- with one the joined path is marked
  marks_one : {h : Registry} → b ≡ false → (a : Accepted s 64 91 e) →
      h ≡ mark_derived owner (join (texts_of (field_ref_at a k).list.got.0)) g → h ≡ mark_all owner (field_refs (expr_of (tree a))) g
  unfolding mark_all
  marks_one {h} n a m =
      let f = field_ref_at a k in
      let z : field_refs (expr_of (tree a)) ≡ join (texts_of f.list.got.0) ∷ [] = ap field_refs f.is
      ∙ one_ref (texts_of f.list.got.0) (sym (t a (texts_of f.list.got.0) f.is) ∙ n) in
      rw z m

  module _ {m : ℕ}
      (u : (a : Accepted s 64 91 e) (path : List Name) → expr_of (tree a) ≡ ExprKind.FieldRef path → m ≡ length (path_of 0 path)) where
    -- a path of over 511 bytes is no entry's: nothing is marked
    pub mark_long : {ws : List ℕ} {n : ℕ} → b ≡ false → 511 < m → Standing s ws n → length owner ≤ 255 → g ≡ entries_of s ws n →
        (a : Accepted s 64 91 e) → g ≡ mark_all owner (field_refs (expr_of (tree a))) g
    mark_long {ws} {n} h l st o d a =
        let f = field_ref_at a k in
        let p : m ≡ length (join (texts_of f.list.got.0)) = u a (texts_of f.list.got.0) f.is
        ∙ ap length (path_is (texts_of f.list.got.0)) in
        marks_one h a (rw d (sym (long_mark st owner (join (texts_of f.list.got.0)) o (omega arith))))

    -- any other is marked as it stands in the buffer
    pub mark_path : {xs ys : List ℕ} {r : ℕ} {h : Registry} → b ≡ false → m ≤ 511 → length xs ≡ 512 →
        ((a : Accepted s 64 91 e) (path : List Name) → expr_of (tree a) ≡ ExprKind.FieldRef path → Wrote xs 0 (path_of 0 path) ys r) →
        h ≡ mark_derived owner (take m ys) g → (a : Accepted s 64 91 e) → h ≡ mark_all owner (field_refs (expr_of (tree a))) g
    mark_path n l x w d a =
        let f = field_ref_at a k in
        let path = texts_of f.list.got.0 in
        marks_one n a (d ∙ ap (λ (p : Name). mark_derived owner p g) (path_held m path x l (u a path f.is) (w a path f.is)))

-- ---- the walk

-- marks of two lists, one after the other
mark_both : (owner : Name) (xs ys : List Name) (g : Registry) → mark_all owner (xs ++ ys) g ≡ mark_all owner ys (mark_all owner xs g)
unfolding mark_all
mark_both owner [] ys g = refl
mark_both owner (x ∷ xs) ys g = mark_both owner xs ys (mark_derived owner x g)

-- kinds 68 to 78 are walked on both sides
in_range_lem : (k : ℕ) → 68 ≤ k → k ≤ 78 → within 68 78 k ≡ true
in_range_lem k h l = rw (le-leb 68 k h, le-leb k 78 l)

-- those above are not
above : (k : ℕ) → 78 < k → within 68 78 k ≡ false
above k h = rw (le-leb 68 k (omega arith), lt-leb k 78 h)

module _ {s : List ℕ} {e : ℕ} (owner : Name) (g : Registry) where
  -- an expression without references marks nothing
  nothing : (a : Accepted s 64 91 e) → field_refs (expr_of (tree a)) ≡ [] → g ≡ mark_all owner (field_refs (expr_of (tree a))) g
  unfolding mark_all
  nothing a z = rw z refl

  -- 64, 66, 67: a literal, a size and an alignment have no references
  pub low_marks : (u : ℕ) → u ≡ le2 s (e + 4) → (u ≡ 65 → ⊥) → u < 68 → (a : Accepted s 64 91 e) →
      g ≡ mark_all owner (field_refs (expr_of (tree a))) g
  unfolding field_refs
  low_marks u d n h a =
      let o = opened a refl refl in
      let z : field_refs (expr_of (tree a)) ≡ [] = go (eqb u 64) refl (eqb u 66) refl in
      nothing a z
    where
      go : (b : Bool) → eqb u 64 ≡ b → (c : Bool) → eqb u 66 ≡ c → field_refs (expr_of (tree a)) ≡ []
      go true x c y = let q = eqb-true u 64 x in ap field_refs (literal_at a (sym d ∙ q)).is
      go false x true y = let q = eqb-true u 66 y in ap field_refs (sizeof_at a (sym d ∙ q))
      go false x false y =
          let q = eqb-false u 64 x in
          let r = eqb-false u 66 y in
          let o = opened a refl refl in
          ap field_refs (alignof_at a (omega (arith, o.least)))

  -- 83 to 91: comparisons are not walked
  pub high_marks : (u : ℕ) → u ≡ le2 s (e + 4) → 82 < u → (a : Accepted s 64 91 e) → g ≡ mark_all owner (field_refs (expr_of (tree a))) g
  unfolding field_refs
  high_marks u d h a =
      let b = compare_at a (omega arith) in
      nothing a (ap field_refs b.is ∙ rw (above (le2 s (e + 4)) (omega arith)) refl)

  -- 79 to 82: the references of the operand
  pub unary_marks : {h : Registry} (u : ℕ) → u ≡ le2 s (e + 4) → 78 < u → u ≤ 82 →
      ((x : Accepted s 64 91 (e + 6)) → h ≡ mark_all owner (field_refs (expr_of (tree x))) g) → (a : Accepted s 64 91 e) →
      h ≡ mark_all owner (field_refs (expr_of (tree a))) g
  unfolding field_refs
  unary_marks u d l m f a = let x = unary_at a (omega arith) (omega arith) in
      f x.operand ∙ ap (λ (z : ExprKind). mark_all owner (field_refs z) g) (sym x.is)

  -- 68 to 78: those of the left operand, then those of the right one
  pub binary_marks : {h i : Registry} (u v : ℕ) → u ≡ le2 s (e + 4) → 68 ≤ u → u ≤ 78 → v ≡ le4 s (e + 6) →
      ((x : Accepted s 64 91 (e + 6)) → h ≡ mark_all owner (field_refs (expr_of (tree x))) g) →
      ((x : Accepted s 64 91 (e + 10 + v)) → i ≡ mark_all owner (field_refs (expr_of (tree x))) h) → (a : Accepted s 64 91 e) →
      i ≡ mark_all owner (field_refs (expr_of (tree a))) g
  unfolding field_refs
  binary_marks u v d l m w f j a =
      let x = binary_at a (omega arith) (omega arith) in
      let ls = field_refs (expr_of (tree x.left)) in
      let rs = field_refs (expr_of (tree x.right)) in
      let z : field_refs (expr_of (tree a)) ≡ ls ++ rs = ap field_refs x.is
      ∙ rw (in_range_lem (le2 s (e + 4)) (omega arith) (omega arith)) refl in
      (rw w at j) x.right
      ∙ ap (mark_all owner rs) (f x.left)
      ∙ sym (mark_both owner ls rs g)
      ∙ ap (λ (ns : List Name). mark_all owner ns g) (sym z)

-- the operand of 68 to 82, or the left one: a block inside the expression
pub left_in : {s : List ℕ} {e : ℕ} (u : ℕ) → u ≡ le2 s (e + 4) → 68 ≤ u → u ≤ 82 → Accepted s 64 91 e →
    Accepted s 64 91 (e + 6) × (6 + le4 s (e + 6) ≤ le4 s e)
left_in {s} {e} u d l m a = go (leb u 78) refl
  where
    go : (b : Bool) → leb u 78 ≡ b → Accepted s 64 91 (e + 6) × (6 + le4 s (e + 6) ≤ le4 s e)
    go true x = let h = leb-true u 78 x in
        let b = binary_at a (omega arith) (omega arith) in (b.left, omega (arith, b.room))
    go false x = let h = leb-false u 78 x in
        let b = unary_at a (omega arith) (omega arith) in (b.operand, b.room)

-- the right operand of 68 to 78, behind the left one
pub right_in : {s : List ℕ} {e : ℕ} (u v : ℕ) → u ≡ le2 s (e + 4) → 68 ≤ u → u ≤ 78 → v ≡ le4 s (e + 6) → Accepted s 64 91 e →
    Accepted s 64 91 (e + 10 + v) × (10 + le4 s (e + 10 + v) ≤ le4 s e)
right_in u v d l m w a =
    let b = binary_at a (omega arith) (omega arith) in
    rw w (b.right, omega (arith, b.room))

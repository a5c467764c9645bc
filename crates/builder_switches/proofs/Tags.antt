-- The tag of an enum: found by its path, or made.
use mathlib.Core.Path.{◌≡◌, refl, sym, ap, ◌∙◌}
use mathlib.Core.Bool.{Bool, true, false}
use mathlib.Core.List.{List}
use Prim.Native.Nat.{ℕ, ◌+◌, ◌≤◌, ◌<◌}
use native.Mathlib.Omega.{arith}
use lib.ListN.{length, take}
use lib.Dec.{leb, eqb}
use borrow.Author.Tests.{leb-true, leb-false, eqb-true, eqb-false}
use Rattle.std.specs.Prelude.{Result, Ok, Err, Some, None}
use Rattle.std.specs.Prelude as std
use Rattle.errors.specs.Refusal.{◌>>=◌ as ◌and_then◌}
use Rattle.errors.specs.declared.Reason.{Reason}
use Rattle.errors.specs.declared.Reason.TheVariants.{MissingParameter}
use Rattle.answers.specs.Answers.{AnswersIn}
use Rattle.blocks.specs.Bytes.{le2, name_at}
use Rattle.blocks.specs.Name.{Name}
use Rattle.accepted.specs.Accepted.{Accepted, tree}
use Rattle.accepted.proofs.Laws.{opened}
use Rattle.expr.specs.Expr.{ExprKind, expr_of}
use Rattle.builder.specs.Names.{join, qualify_parent_path}
use Rattle.builder.specs.Registry.{Registry, ◌>>=◌, give, refuse, need, reads, change, lookup_name, add_synthetic}
use Rattle.builder.specs.Nodes.{field_refs, mark_all, lookup_qualified, tag_lookup, computed_tag, enum_tag_parameter}
use Rattle.wire.specs.Poke.{Wrote}
use Rattle.resolved_parts.specs.Types.{Named, texts_of}
use Rattle.expr_parts.proofs.Laws.{literal_at, field_ref_at, sizeof_at, alignof_at, unary_at, binary_at, compare_at}
use Rattle.builder_paths.specs.Joined.{path_of}
use Rattle.builder_registry.specs.declared.Tagged.{Tagged}
use Rattle.builder_registry.specs.declared.Made.TheVariants.{ComputedTag}
use Rattle.builder_registry.specs.Texts.{made_path}
use Rattle.builder_registry.specs.Words.{Standing, Indexed, Looked, Tags, held, made_parameter, entries_of}
use Rattle.builder_registry.proofs.Laws.{held_name, looked_entry, looked_missing, long_lookup, long_qualified}
use Rattle.builder_switches.proofs.Marks.{path_is, path_held}

-- ---- a path's entry

module _ {s ws : List ℕ} {n e m : ℕ} (owner : Name)
    (u : (a : Accepted s 64 91 e) (path : List Name) → expr_of (tree a) ≡ ExprKind.FieldRef path → m ≡ length (path_of 0 path)) where
  -- a path of over 511 bytes is no entry's
  pub tag_long : 511 < m → Standing s ws n → length owner ≤ 255 → (a : Accepted s 64 91 e) (path : List Name) →
      expr_of (tree a) ≡ ExprKind.FieldRef path → Looked s ws n None (tag_lookup owner (join path) (entries_of s ws n))
  unfolding tag_lookup
  tag_long l st o a path x =
      let p : m ≡ length (join path) = u a path x ∙ ap length (path_is path) in
      rw (long_lookup st owner (join path) o (omega arith), long_qualified st owner (join path) o (omega arith)) Looked.missing

  module _ {xs ys : List ℕ} {r : ℕ} {f : std.Option ℕ} (l : m ≤ 511) (z : length xs ≡ 512)
      (w : (a : Accepted s 64 91 e) (path : List Name) → expr_of (tree a) ≡ ExprKind.FieldRef path → Wrote xs 0 (path_of 0 path) ys r)
      (k : Looked s ws n f (lookup_name owner (take m ys) (entries_of s ws n))) where
    -- the buffer holds the joined path
    held_path : (a : Accepted s 64 91 e) (path : List Name) → expr_of (tree a) ≡ ExprKind.FieldRef path → take m ys ≡ join path
    held_path a path x = path_held m path z l (u a path x) (w a path x)

    -- the owner has an entry of the path
    pub tag_found : {i : ℕ} → f ≡ Some i → (a : Accepted s 64 91 e) (path : List Name) → expr_of (tree a) ≡ ExprKind.FieldRef path →
        Looked s ws n (Some i) (tag_lookup owner (join path) (entries_of s ws n))
    unfolding tag_lookup
    tag_found d a path x =
        let q = looked_entry d (rw (held_path a path x) at k) in
        rw q.1 (Looked.at q.0)

    -- it has none: the parent's entry, or none
    pub tag_other : {g : std.Option ℕ} → f ≡ None →
        Looked s ws n g (lookup_qualified owner (qualify_parent_path owner (take m ys)) (entries_of s ws n)) →
        (a : Accepted s 64 91 e) (path : List Name) → expr_of (tree a) ≡ ExprKind.FieldRef path →
        Looked s ws n g (tag_lookup owner (join path) (entries_of s ws n))
    unfolding tag_lookup
    tag_other {g} d c a path x =
        rw (looked_missing d (rw (held_path a path x) at k))
        (rw (held_path a path x) at c)

-- ---- the tag

module _ {s ws : List ℕ} {n e : ℕ} {f : std.Option ℕ} (o owner : Name) (d : o ≡ owner) (k : le2 s (e + 4) ≡ 65)
    (l₀ : (a : Accepted s 64 91 e) (path : List Name) → expr_of (tree a) ≡ ExprKind.FieldRef path →
    Looked s ws n f (tag_lookup o (join path) (entries_of s ws n))) where
  -- the lookup, under the type's name
  l : (a : Accepted s 64 91 e) (path : List Name) → expr_of (tree a) ≡ ExprKind.FieldRef path →
      Looked s ws n f (tag_lookup owner (join path) (entries_of s ws n))
  l a path x = rw d at (l₀ a path x)

  -- the path has an entry
  pub tag_known : {i : ℕ} → Indexed s ws n → f ≡ Some i → (a : Accepted s 64 91 e) →
      Tags s ws (Ok (record { at = i; count = n })) (enum_tag_parameter owner (expr_of (tree a)) (entries_of s ws n))
  unfolding enum_tag_parameter ◌>>=◌ ◌and_then◌ reads need give
  tag_known x h a =
      let p = field_ref_at a k in
      let found = looked_entry h (l a (texts_of p.list.got.0) p.is) in
      rw (p.is, found.1) (AnswersIn.made _ (record { named = refl; entries = refl; within = found.0; index = x }))

  -- it has none
  pub tag_unknown : f ≡ None → (a : Accepted s 64 91 e) →
      Tags s ws (Err MissingParameter) (enum_tag_parameter owner (expr_of (tree a)) (entries_of s ws n))
  unfolding enum_tag_parameter ◌>>=◌ ◌and_then◌ reads need refuse
  tag_unknown h a =
      let p = field_ref_at a k in
      rw (p.is, looked_missing h (l a (texts_of p.list.got.0) p.is)) AnswersIn.not

-- of any other expression the tag is made
not_path : {s : List ℕ} {e : ℕ} (owner : Name) (g : Registry) (u : ℕ) → u ≡ le2 s (e + 4) → (u ≡ 65 → ⊥) → (a : Accepted s 64 91 e) →
    enum_tag_parameter owner (expr_of (tree a)) g ≡ computed_tag owner (expr_of (tree a)) g
unfolding enum_tag_parameter
not_path {s} {e} owner g u d n a = go (eqb u 64) refl (eqb u 66) refl (eqb u 67) refl (leb u 78) refl (leb u 82) refl
  where
    go : (b₁ : Bool) → eqb u 64 ≡ b₁ → (b₂ : Bool) → eqb u 66 ≡ b₂ → (b₃ : Bool) → eqb u 67 ≡ b₃ → (b₄ : Bool) → leb u 78 ≡ b₄ →
        (b₅ : Bool) → leb u 82 ≡ b₅ →
        enum_tag_parameter owner (expr_of (tree a)) g ≡ computed_tag owner (expr_of (tree a)) g
    go true x b₂ x₂ b₃ x₃ b₄ x₄ b₅ x₅ = rw (literal_at a (sym d ∙ eqb-true u 64 x)).is refl
    go false x true x₂ b₃ x₃ b₄ x₄ b₅ x₅ = rw (sizeof_at a (sym d ∙ eqb-true u 66 x₂)) refl
    go false x false x₂ true x₃ b₄ x₄ b₅ x₅ = rw (alignof_at a (sym d ∙ eqb-true u 67 x₃)) refl
    go false x false x₂ false x₃ true x₄ b₅ x₅ =
        rw (binary_at a
        (omega (arith, eqb-false u 64 x, eqb-false u 66 x₂, eqb-false u 67 x₃, (opened a refl refl).least))
        (omega (arith, leb-true u 78 x₄))).is refl
    go false x false x₂ false x₃ false x₄ true x₅ =
        rw (unary_at a (omega (arith, leb-false u 78 x₄)) (omega (arith, leb-true u 82 x₅))).is refl
    go false x false x₂ false x₃ false x₄ false x₅ = rw (compare_at a (omega (arith, leb-false u 82 x₅))).is refl

-- its references are marked first
made_tag : (owner : Name) (e : ExprKind) (g : Registry) →
    computed_tag owner e g ≡ add_synthetic owner (made_path ComputedTag) (made_parameter ComputedTag owner)
    (mark_all owner (field_refs e) g)
unfolding computed_tag ◌>>=◌ ◌and_then◌ change made_parameter
made_tag owner e g = refl

-- the tag that was made
pub tag_made : {s us : List ℕ} {e : ℕ} {r : Result Tagged Reason} (ws : List ℕ) (n : ℕ) (g : Registry) (o : Name) (q u : ℕ) →
    o ≡ name_at s q → Named s q →
    u ≡ le2 s (e + 4) → (u ≡ 65 → ⊥) → ((a : Accepted s 64 91 e) → entries_of s ws n ≡ mark_all o (field_refs (expr_of (tree a))) g) →
    Tags s us r (add_synthetic (held s q) (made_path ComputedTag) (made_parameter ComputedTag (held s q)) (entries_of s ws n)) →
    (a : Accepted s 64 91 e) →
    Tags s us r (enum_tag_parameter (name_at s q) (expr_of (tree a)) g)
tag_made {s} ws n g o q u b h d z m t a =
    let marked : entries_of s ws n ≡ mark_all (name_at s q) (field_refs (expr_of (tree a))) g = rw b at (m a) in
    rw (not_path (name_at s q) g u d z a, made_tag (name_at s q) (expr_of (tree a)) g, ← marked, ← held_name h) t

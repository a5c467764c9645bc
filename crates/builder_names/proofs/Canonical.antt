-- The canonical name: its length, writing it, and comparing it without building it. Assumes nothing.
use Prim.Native.Nat.{ℕ, ◌+◌}
use native.Mathlib.Omega.{arith}
use mathlib.Core.Path.{◌≡◌, refl, sym, ap, ◌∙◌}
use mathlib.Core.Bool.{Bool, true, false, ◌||◌}
use mathlib.Core.List.{List, [], ◌∷◌}
use lib.ListN.{length, drop}
use Rattle.blocks.specs.Name.{Name, same}
use Rattle.blocks.proofs.Name.{false_true}
use Rattle.builder.specs.Names.{is_empty, normalize_path, canonical_name}
use Rattle.blocks.specs.Bytes.{bytes}
use Rattle.blocks.specs.Tree.{name}
use Rattle.blocks.specs.Write.{write}
use Rattle.wire.specs.Poke.{Wrote}
use Rattle.wire.proofs.Laws.{both}
use Rattle.marks.specs.Mark.{mark_of}
use Rattle.marks.proofs.Marks.{mark_append}
use Rattle.builder_names.specs.Views.{alone, Stripped, dotted, RestIs}
use Rattle.builder_names.proofs.Strip.{dot_length, normal_strip, stripped_fits, rest_else}
use Rattle.std.specs.Prelude.{Option, unwrap_or}
use lib.Dec.{eqb}
use borrow.Author.Tests.{eqb-false}
use denote.Ref.{Bor}

-- ---- the canonical name

-- the second of two that are both false
or_right : (a b : Bool) → (a || b) ≡ false → b ≡ false
or_right true b e = false_true (sym e)
or_right false b e = e

module _ (o p : Name) where
  -- an empty path: the owner is alone
  pub alone_empty : length p ≡ 0 → true ≡ alone o p
  alone_empty h = go p h
    where
      go : (q : Name) → length q ≡ 0 → true ≡ alone o q
      go [] h' = refl
      go (x ∷ xs) h' = absurd (let z : ⊥ = omega arith in z)

  -- any other path: it is alone where the path is the owner
  pub alone_not : (b : Bool) → (length p ≡ 0 → ⊥) → b ≡ same p o → b ≡ alone o p
  alone_not b h e = e ∙ go p h
    where
      go : (q : Name) → (length q ≡ 0 → ⊥) → same q o ≡ alone o q
      go [] h' = absurd (h' refl)
      go (x ∷ xs) h' = refl

  module _ (b : Bool) (e : b ≡ alone o p) where
    -- then the canonical name is the owner
    pub canonical_alone : b ≡ true → canonical_name o p ≡ o
    unfolding canonical_name
    canonical_alone h = let q : alone o p ≡ true = sym e ∙ h in rw q

    -- else it is the owner, a dot and the normal path
    pub canonical_rest : b ≡ false → canonical_name o p ≡ dotted o (normalize_path o p)
    unfolding canonical_name normalize_path dotted
    canonical_rest h = let q : alone o p ≡ false = sym e ∙ h in rw (q, or_right (is_empty p) (same p o) q)

  -- a path that is the owner: it is alone
  alone_same : same p o ≡ true → true ≡ alone o p
  alone_same h = go p h
    where
      go : (q : Name) → same q o ≡ true → true ≡ alone o q
      go [] h' = refl
      go (x ∷ xs) h' = sym h'

  -- ---- `rest_of`

  -- a path that is empty
  pub rest_empty : length p ≡ 0 → canonical_name o p ≡ o
  rest_empty h = canonical_alone true (alone_empty h) refl

  -- a path that is the owner
  pub rest_same : same p o ≡ true → canonical_name o p ≡ o
  rest_same h = canonical_alone true (alone_same h) refl

  -- any other has a dot behind the owner, and the normal path
  rest_normal : (length p ≡ 0 → ⊥) → same p o ≡ false → canonical_name o p ≡ dotted o (normalize_path o p)
  rest_normal z e = canonical_rest false (alone_not false z (sym e)) refl

  module _ {r : Name} (w : RestIs o p r) where
    -- ---- `canonical_length`
    pub length_rest : length o + 1 + length r ≡ length (canonical_name o p)
    length_rest = rw (w.is, dot_length) (omega arith)

    -- ---- `canonical_mark`: the dot's mark behind the owner's, and the rest's behind the dot's
    pub mark_rest : {h d z : ℕ} → d ≡ mark_of h (0x2E ∷ []) → z ≡ mark_of d r → (g : ℕ) → h ≡ mark_of g o →
        z ≡ mark_of g (canonical_name o p)
    unfolding dotted
    mark_rest x y g f = y ∙ rw (x, f, w.is, mark_append g o (0x2E ∷ r), mark_append (mark_of g o) (0x2E ∷ []) r) refl

    -- ---- `put_canonical_name`: a length, the owner, a dot and the rest, one behind the other
    pub puts_rest : {xs ys zs us vs : List ℕ} {at q u v z : ℕ} → Wrote xs at (bytes 2 (length o + 1 + length r)) ys q →
        Wrote ys q (drop 0 o) zs u → Wrote zs u (0x2E ∷ []) us v → Wrote us v (drop 0 r) vs z →
        Wrote xs at (write (name (canonical_name o p))) vs z
    unfolding write dotted
    puts_rest f g i j = rw (← length_rest, w.is) (both f (both g (both i j)))

-- where the path is neither empty nor the owner: what was stripped, or else the path
pub rest_some : (o : Name) (r : Option (Bor Name)) (d : Bor Name) → false ≡ eqb (length d.now) 0 → false ≡ same d.now o →
    Stripped o d.now r → RestIs o d.now (unwrap_or r d).now
rest_some o r d z e w = record {
  fits = stripped_fits o r d w;
  is = rest_normal o d.now (eqb-false _ _ (sym z)) (sym e) ∙ ap (dotted o) (normal_strip o d.now false e refl ∙ sym (rest_else o r d w));
}

pub ruleset rests = (rest_empty, rest_same)

-- where the write of a name ends
pub with_end : {xs ys : List ℕ} {at r : ℕ} (s : Name) → Wrote xs at (write (name s)) ys r → Wrote xs at (write (name s)) ys r × (r ≡ at + (2 + length s))
unfolding write bytes
with_end s w = (w, omega (arith, w.end))

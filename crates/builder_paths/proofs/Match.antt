-- A name matched against joined segments, a part at a time. Assumes nothing.
use mathlib.Core.Path.{◌≡◌, refl, sym, ◌∙◌, ap}
use mathlib.Core.Bool.{Bool, true, false, ◌&&◌, and_assoc}
use mathlib.Core.List.{[], ◌∷◌, ◌++◌, append-nil, append_assoc}
use Prim.Native.Nat.{ℕ, ◌+◌, ◌≤◌, ◌<◌}
use native.Mathlib.Omega.{arith}
use lib.Dec.{eqb}
use lib.ListN.{length, take, drop}
use borrow.Author.Tests.{ne_eqb, lt-ltb, le-ltb}
use Rattle.wire.proofs.Names.{pointwise_same}
use Rattle.blocks.specs.Name.{Name, ascii, same}
use Rattle.builder_paths.specs.Joined.{segment, Behind}
use Rattle.std.specs.Prelude.{Option, Some, None, MatchOption, cond, ltb, nat_eq}
use Rattle.std.specs.Cmp.Lexicographic.{pointwise}
use denote.Ref.{Bor}

-- ---- a part of a name

-- a name that is compared with two parts is compared part by part
same_split : (p u m : Name) → same (p ++ u) m ≡ (same p (take (length p) m) && same u (drop (length p) m))
unfolding same
same_split [] u m = refl
same_split (x ∷ p) u [] = refl
same_split (x ∷ p) u (y ∷ m) =
    ap (λ (b : Bool). eqb x y && b) (same_split p u m) ∙ sym (and_assoc (eqb x y) (same p (take (length p) m)) (same u (drop (length p) m)))

-- what the library's `strip_prefix` answers
pub behind_part : (m p : Name) (r : Option (Bor Name)) →
    MatchOption r (pointwise nat_eq (take (length p) m) p ≡ false)
    (λ x. (pointwise nat_eq (take (length p) m) p ≡ true) × (x.now ≡ drop (length p) m) × (length x.now + length p ≡ length m)) →
    Behind m p r
behind_part m p None e = λ u. same_split p u m ∙ rw (sym (pointwise_same (take (length p) m) p) ∙ e)
behind_part m p (Some x) e = λ u. same_split p u m ∙ rw (sym (pointwise_same (take (length p) m) p) ∙ e.0, e.1)

-- ---- a segment and its dot

-- a segment before others has its dot
pub segment_dot : (left : ℕ) (n : Name) → 1 < left → segment left n ≡ n ++ ascii "."
unfolding segment
segment_dot left n h = rw (lt-ltb _ _ h)

-- the last has none
pub segment_last : (left : ℕ) (n : Name) → left ≤ 1 → segment left n ≡ n
unfolding segment
segment_last left n h = rw (le-ltb _ _ h, append-nil n)

-- ---- what a name has behind a segment

module _ (m n : Name) where
  -- it does not begin with the segment
  pub segment_missed : (left : ℕ) → Behind m n None → Behind m (segment left n) None
  unfolding segment
  segment_missed left f = λ u. rw append_assoc (f (cond (ltb 1 left) (ascii ".") [] ++ u))

  -- it does, and the segment is the last
  pub last_met : (left : ℕ) (r : Bor Name) → left ≤ 1 → Behind m n (Some r) → Behind m (segment left n) (Some r)
  last_met left r l f = λ u. rw (segment_last left n l) (f u)

  -- else what stands behind the dot decides
  pub dot_met : (left : ℕ) (r : Bor Name) (q : Option (Bor Name)) → 1 < left → Behind m n (Some r) → Behind r.now (ascii ".") q →
      Behind m (segment left n) q
  dot_met left r None l f g = λ u. rw (segment_dot left n l, append_assoc) (f (ascii "." ++ u) ∙ g u)
  dot_met left r (Some x) l f g = λ u. rw (segment_dot left n l, append_assoc) (f (ascii "." ++ u) ∙ g u)

-- nothing is left of the segments: the match is whole where nothing is left of the name
pub on_end : (m : Name) → eqb (length m) 0 ≡ same [] m
unfolding same
on_end [] = refl
on_end (x ∷ m) = ne_eqb _ 0 (λ e. let z : ⊥ = omega arith in z)

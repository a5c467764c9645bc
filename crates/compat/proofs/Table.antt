-- Kinds from lo to hi: two functions that agree on a table of them agree at each. And blocks of one kind that may not grow.
use Prim.Native.Nat.{ℕ, zero, suc, ◌+◌, ◌≤◌}
use native.Mathlib.Omega.{arith}
use mathlib.Core.Path.{◌≡◌, refl, sym, ◌∙◌}
use mathlib.Core.Bool.{Bool, true, false}
use mathlib.Core.List.{List, [], ◌∷◌}
use lib.Dec.{leb, eqb}
use borrow.Author.Tests.{leb-true, eqb-true, eqb-false}
use Rattle.blocks.specs.Grammar.{within}
use Rattle.blocks.specs.Tree.{Tree}
use Rattle.blocks.proofs.Name.{and_left, and_right, false_true}
use Rattle.roundtrip.specs.Fits.{Limits, Inside, inside}
use Rattle.compat.specs.Grown.{Grown, growing}

-- a kind from lo to hi lies between them
pub bounds : (lo hi k : ℕ) → within lo hi k ≡ true → (lo ≤ k) × (k ≤ hi)
bounds lo hi k w = (leb-true lo k (and_left _ _ w), leb-true k hi (and_right (leb lo k) _ w))

-- a kind from i to i is i
pub only : (i k : ℕ) → within i i k ≡ true → k ≡ i
only i k w = let b = bounds i i k w in omega arith

-- f of the n + 1 numbers from lo on
unfoldable pub table : {A : Type 0} → (ℕ → A) → ℕ → ℕ → List A
table f lo zero = f lo ∷ []
table f lo (suc n) = f lo ∷ table f (suc lo) n

module _ {A : Type 0} (f g : ℕ → A) where
  -- the same of every number of the table
  from : (n lo k : ℕ) → table f lo n ≡ table g lo n → lo ≤ k → k ≤ lo + n → f k ≡ g k
  unfolding table
  from zero lo k e l u = let q : k ≡ lo = omega arith in rw q (cc)
  from (suc n) lo k e l u = split (eqb k lo) refl (from n (suc lo) k (cc))
    where
      split : (b : Bool) → eqb k lo ≡ b → (suc lo ≤ k → k ≤ suc lo + n → f k ≡ g k) → f k ≡ g k
      split true q r = let z : k ≡ lo = eqb-true k lo q in rw z (cc)
      split false q r = let z = eqb-false k lo q in r (omega arith) (omega arith)

  -- functions with the same table
  pub agree : (lo n : ℕ) → table f lo n ≡ table g lo n → (k : ℕ) → within lo (lo + n) k ≡ true → f k ≡ g k
  agree lo n e k w = let b = bounds lo (lo + n) k w in from n lo k e b.0 b.1

-- a block of a kind that may not grow, and the one that it became
pub data Opened (P : ℕ → Limits) (i : ℕ) : Tree → Tree → Type 0 where
  opened : {at at' : ℕ} {t t' : Tree} → P i t → Grown t t' → Opened P i (Tree.block at i t) (Tree.block at' i t')

-- a block of one kind that may not grow is opened on both sides
pub open_kind : {P : ℕ → Limits} {b b' : Tree} (i : ℕ) → growing i ≡ false → Inside P i i b → Grown b b' → Opened P i b b'
open_kind i c (inside w _ _ p) (Grown.block at at' k g) = rw (only i k w) (opened (rw (only i k w) at p) g)
open_kind i c (inside w _ _ p) (Grown.grows at at' k d x l) = false_true (sym c ∙ rw (only i k w) at d)

-- The laws of blocks that stand one behind the other, and of a search that passes them.
use mathlib.Core.Path.{◌≡◌, refl, sym, ◌∙◌, ap, subst}
use mathlib.Core.Bool.{false}
use mathlib.Core.List.{List}
use Prim.Native.Nat.{ℕ, zero, suc, ◌+◌, ◌≤◌, ◌<◌}
use native.Mathlib.Nat.{add-zero, add-suc}
use native.Mathlib.Omega.{arith}
use Rattle.blocks.specs.Bytes.{le4, name_at}
use Rattle.blocks.specs.Name.{Name, same}
use Rattle.blocks.specs.Blocks.{NameIn, block_at, Stand, Passed}

-- the blocks behind the first are counted from where the second begins
pub behind_first : (s : List ℕ) (at k : ℕ) → block_at s at (suc k) ≡ block_at s (at + 4 + le4 s at) k
unfolding block_at
behind_first s at zero = refl
behind_first s at (suc k) = ap (λ (q : ℕ). q + 4 + le4 s q) (behind_first s at k)

module _ {s : List ℕ} {n : Name} where
  -- where the next block stands
  pub passed_at : {at k q : ℕ} → Passed s n at k q → q ≡ block_at s at k
  unfolding block_at
  passed_at Passed.none = refl
  passed_at {at} (Passed.one {k} e p) = passed_at p ∙ sym (behind_first s at k)

  -- one block more is passed
  pub passed_more : {at k q : ℕ} → Passed s n at k q → same n (name_at s (q + 6)) ≡ false → Passed s n at (suc k) (q + 4 + le4 s q)
  passed_more Passed.none e = Passed.one e Passed.none
  passed_more (Passed.one f p) e = Passed.one f (passed_more p e)

  -- none of those that were passed has the name
  pub passed_not : {at k q : ℕ} → Passed s n at k q → (j : ℕ) → j < k → same n (name_at s (block_at s at j + 6)) ≡ false
  unfolding block_at
  passed_not Passed.none j h = absurd (omega arith)
  passed_not (Passed.one e p) zero h = e
  passed_not {at} (Passed.one e p) (suc j) h = ap (λ (o : ℕ). same n (name_at s (o + 6))) (behind_first s at j) ∙ passed_not p j (omega arith)

-- ---- some of the blocks

module _ (s : List ℕ) (first j : ℕ) where
  -- the blocks behind the first j, counted from where they begin
  pub block_behind : (k : ℕ) → block_at s (block_at s first j) k ≡ block_at s first (j + k)
  unfolding block_at
  block_behind zero = rw (add-zero j)
  block_behind (suc k) = rw (add-suc j k) (ap (λ (q : ℕ). q + 4 + le4 s q) (block_behind k))

  -- if the names of all lie inside, so do those of n of them
  pub stand_part : (m n at : ℕ) → Stand s first m → at ≡ block_at s first j → j + n ≤ m → Stand s at n
  unfolding Stand
  stand_part m n at st e h k l = subst (λ (o : ℕ). NameIn s (o + 6)) (sym (ap (λ (o : ℕ). block_at s o k) e ∙ block_behind k)) (st (j + k) (omega arith))

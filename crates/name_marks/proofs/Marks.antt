-- The mark of a name, step by step. Assumes nothing.
use Rattle.std.proofs.Common.{◌≡◌, ℕ, zero, suc, ◌+◌, ◌-◌, ◌*◌, ◌%◌, ◌^◌, ◌<◌, ◌≤◌, length, refl, ◌∙◌, mul-le-mul, arith, le-ltb, lt-ltb}
use Rattle.blocks.specs.Bytes.{le8}
use Rattle.blocks.specs.Name.{Name}
use Rattle.name_marks.specs.Mark.{step, length_of, last_step, mark_from, mark_of, sum_from, sum_mark_of}

-- the product in a step is bounded by its factors
pub step_product : (h x : ℕ) → (4294967296 + h % 4294967296) * (x % 2147483648) ≤ 18446744062972133377
step_product h x =
    let a : 4294967296 + h % 4294967296 ≤ 8589934591 = omega arith in
    let b : x % 2147483648 ≤ 2147483647 = omega arith in
    let c : (4294967296 + h % 4294967296) * (x % 2147483648) ≤ 8589934591 * 2147483647 = mul-le-mul a b in
    omega arith

module _ (n : Name) where
  module _ (apart : ℕ) where
    -- the steps before i have made h and g
    pub record Marked (i h g : ℕ) : Type 0 where
      pub steps : ℕ
      pub enough : length n ≤ i + steps
      pub same : mark_from apart (length n) n 0 0 (length_of n) ≡ mark_from apart steps n i h g

    -- before the first step
    pub marked_none : Marked 0 0 (length_of n)
    marked_none = record { steps = length n; enough = omega arith; same = refl }

    module _ {i h g : ℕ} (m : Marked i h g) where
      -- a step more
      pub marked_more : 0 < apart → i + 8 < length n → {r x : ℕ} → r ≡ step h x → x ≡ le8 n i → Marked (i + apart) g r
      unfolding mark_from
      marked_more z l {r} e f = go m.steps m.enough m.same
        where
          go : (k : ℕ) → length n ≤ i + k → mark_from apart (length n) n 0 0 (length_of n) ≡ mark_from apart k n i h g → Marked (i + apart) g r
          go zero a b = absurd (omega arith)
          go (suc k) a b = record { steps = k; enough = omega arith; same = b ∙ rw (lt-ltb (i + 8) (length n) l, e, f) }

      -- no step is left but the last
      marked_all : length n ≤ i + 8 → mark_from apart (length n) n 0 0 (length_of n) ≡ last_step n h g
      unfolding mark_from
      marked_all l = m.same ∙ go m.steps
        where
          go : (k : ℕ) → mark_from apart k n i h g ≡ last_step n h g
          go zero = refl
          go (suc k) = rw (le-ltb (i + 8) (length n) l)

      -- the last step
      pub mark_long : 8 ≤ length n → length n ≤ i + 8 → {r w x : ℕ} → r ≡ step w g → w ≡ step h x → x ≡ le8 n (length n - 8) → r ≡ mark_of apart n
      unfolding mark_of
      mark_long l b e u f = rw (le-ltb (length n) 8 l, marked_all b, e, u, f)

  -- the eights before i have the sum h
  pub record Summed (i h : ℕ) : Type 0 where
    pub steps : ℕ
    pub enough : length n ≤ i + steps
    pub same : sum_from (length n) n 0 0 ≡ sum_from steps n i h

  -- before the first
  pub summed_none : Summed 0 0
  summed_none = record { steps = length n; enough = omega arith; same = refl }

  module _ {i h : ℕ} (m : Summed i h) where
    -- one more
    pub summed_more : i + 8 < length n → {r x : ℕ} → r ≡ (h + x) % 2 ^ 64 → x ≡ le8 n i → Summed (i + 8) r
    unfolding sum_from
    summed_more l {r} e f = go m.steps m.enough m.same
      where
        go : (k : ℕ) → length n ≤ i + k → sum_from (length n) n 0 0 ≡ sum_from k n i h → Summed (i + 8) r
        go zero a b = absurd (omega arith)
        go (suc k) a b = record { steps = k; enough = omega arith; same = b ∙ rw (lt-ltb (i + 8) (length n) l, e, f) }

    -- no other than the last is left
    summed_all : length n ≤ i + 8 → sum_from (length n) n 0 0 ≡ h
    unfolding sum_from
    summed_all l = m.same ∙ go m.steps
      where
        go : (k : ℕ) → sum_from k n i h ≡ h
        go zero = refl
        go (suc k) = rw (le-ltb (i + 8) (length n) l)

    -- the last step
    pub sum_long : 8 ≤ length n → length n ≤ i + 8 → {r w x : ℕ} → r ≡ step w (length_of n) → w ≡ step h x → x ≡ le8 n (length n - 8) → r ≡ sum_mark_of n
    unfolding sum_mark_of
    sum_long l b e u f = rw (le-ltb (length n) 8 l, summed_all b, e, u, f)

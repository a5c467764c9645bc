-- The fields of a word: what was packed is read again, and the derived flag leaves the others as they were. Assumes nothing.
use Prim.Native.Nat.{ℕ, ◌+◌, ◌*◌, ◌/◌, ◌%◌, ◌≤◌, ◌<◌}
use native.Mathlib.Omega.{arith}
use mathlib.Core.Path.{◌≡◌, refl}
use mathlib.Core.Bool.{true, false}
use Rattle.std.specs.Prelude.{Option, Some, None}
use borrow.Author.Tests.{eqb-false}
use Rattle.builder_registry.specs.Word.{owner_at, path_at, made_code, made_at, made_of, derived_of, word_of, derived_word}
use Rattle.builder_registry.specs.declared.Made.{Made}
use Rattle.builder_registry.specs.declared.Made.TheVariants.{ComputedTag, Variant, PayloadSize}

-- ---- the number of a made parameter

-- it has two bits
pub code_short : (m : Option Made) → made_code m ≤ 3
code_short None = omega arith
code_short (Some ComputedTag) = omega arith
code_short (Some Variant) = omega arith
code_short (Some PayloadSize) = omega arith

-- and is read again
code_read : (m : Option Made) → made_at (made_code m) ≡ m
unfolding made_at
code_read None = refl
code_read (Some ComputedTag) = refl
code_read (Some Variant) = refl
code_read (Some PayloadSize) = refl

-- ---- a word of these fields

module _ (o p : ℕ) (m : Option Made) (ho : o < 65536) (hp : p < 65536) where
  -- its owner
  pub word_owner : owner_at (word_of o p m) ≡ o
  unfolding owner_at word_of
  word_owner = omega arith

  -- its path
  pub word_path : path_at (word_of o p m) ≡ p
  unfolding path_at word_of
  word_path =
      let e : (o + 65536 * p + 4294967296 * made_code m) / 65536 ≡ p + 65536 * made_code m = omega arith in
      let f : (p + 65536 * made_code m) % 65536 ≡ p = omega arith in
      rw (e, f)

  -- its made parameter
  pub word_made : made_of (word_of o p m) ≡ m
  unfolding made_of word_of
  word_made =
      let e : (o + 65536 * p + 4294967296 * made_code m) / 4294967296 ≡ made_code m = omega arith in
      let f : made_code m % 4 ≡ made_code m = omega (arith, code_short m) in
      rw (e, f) (code_read m)

  -- it is not derived
  pub word_plain : derived_of (word_of o p m) ≡ false
  unfolding derived_of word_of
  word_plain = let e : (o + 65536 * p + 4294967296 * made_code m) / 17179869184 ≡ 0 = omega (arith, code_short m) in rw e

-- ---- a word made a derived one

module _ (w : ℕ) where
  -- its owner stays
  pub still_owner : owner_at (derived_word w) ≡ owner_at w
  unfolding owner_at derived_word
  still_owner = omega arith

  -- its path stays
  pub still_path : path_at (derived_word w) ≡ path_at w
  unfolding path_at derived_word
  still_path =
      let e : (w + 17179869184) / 65536 ≡ w / 65536 + 262144 = omega arith in
      let f : (w / 65536 + 262144) % 65536 ≡ w / 65536 % 65536 = omega arith in
      rw (e, f)

  -- its made parameter stays
  pub still_made : made_of (derived_word w) ≡ made_of w
  unfolding made_of derived_word
  still_made =
      let e : (w + 17179869184) / 4294967296 ≡ w / 4294967296 + 4 = omega arith in
      let f : (w / 4294967296 + 4) % 4 ≡ w / 4294967296 % 4 = omega arith in
      rw (e, f)

  module _ (h : derived_of w ≡ false) where
    -- its bit is 0, so that setting it does not overflow
    pub even : w / 17179869184 % 2 ≡ 1 → ⊥
    unfolding derived_of
    even = eqb-false (w / 17179869184 % 2) 1 h

    -- it is derived
    pub now_derived : derived_of (derived_word w) ≡ true
    unfolding derived_of derived_word
    now_derived =
        let e : (w + 17179869184) / 17179869184 ≡ w / 17179869184 + 1 = omega arith in
        let f : (w / 17179869184 + 1) % 2 ≡ 1 = odd (w / 17179869184) even in
        rw (e, f)
      where
        odd : (q : ℕ) → (q % 2 ≡ 1 → ⊥) → (q + 1) % 2 ≡ 1
        odd q k = omega (arith, k)

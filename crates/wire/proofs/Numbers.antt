-- Numbers of 2, 4 and 8 bytes at an offset, as the library makes them of an array: the low byte first (`le`), or the high byte (`be`).
use Rattle.std.proofs.Common.{◌≡◌, ℕ, zero, suc, ◌+◌, ◌≤◌, ◌<◌, List, get_or, refl, ◌∙◌, arith, add-zero}
use Rattle.std.proofs.lemmas.Grind.{common_steps}
use Rattle.std.specs.Int.{w16, w32, w64, from_le_bytes, from_be_bytes}
use Rattle.blocks.specs.Bytes.{le, le2, le4, le8, bytes_at}
use Rattle.wire.specs.Order.{be}

module _ (s : List ℕ) (at n : ℕ) where
  -- a byte of a part
  part_byte : (i : ℕ) → i < n → get_or (bytes_at s at n) i 0 ≡ get_or s (at + i) 0
  part_byte i h = grind (arith, common_steps)

  -- a number in a part stands in the whole
  le_part : (k i : ℕ) → i + k ≤ n → le k (bytes_at s at n) i ≡ le k s (at + i)
  unfolding le
  le_part zero i h = refl
  le_part (suc k) i h =
      let next : at + i + 1 ≡ at + (i + 1) = omega arith in
      rw (part_byte i (omega arith), next, le_part k (i + 1) (omega arith)) refl

  be_part : (k i : ℕ) → i + k ≤ n → be k (bytes_at s at n) i ≡ be k s (at + i)
  unfolding be
  be_part zero i h = refl
  be_part (suc k) i h =
      let next : at + i + 1 ≡ at + (i + 1) = omega arith in
      rw (part_byte i (omega arith), next, be_part k (i + 1) (omega arith)) refl

-- bs is the part of n bytes at an offset: its number is the one that stands there
module _ (s : List ℕ) (at n : ℕ) {bs : List ℕ} (e : bs ≡ bytes_at s at n) where
  le_whole : le n bs 0 ≡ le n s at
  le_whole = rw (e, le_part s at n n 0 (omega arith), add-zero) refl

  be_whole : be n bs 0 ≡ be n s at
  be_whole = rw (e, be_part s at n n 0 (omega arith), add-zero) refl

-- the library's numbers of an array
le_2 : (bs : List ℕ) → from_le_bytes w16 bs ≡ le 2 bs 0
unfolding le
le_2 bs = omega arith

le_4 : (bs : List ℕ) → from_le_bytes w32 bs ≡ le 4 bs 0
unfolding le
le_4 bs = omega arith

le_8 : (bs : List ℕ) → from_le_bytes w64 bs ≡ le 8 bs 0
unfolding le
le_8 bs = omega arith

be_2 : (bs : List ℕ) → from_be_bytes w16 bs ≡ be 2 bs 0
unfolding be
be_2 bs = omega arith

be_4 : (bs : List ℕ) → from_be_bytes w32 bs ≡ be 4 bs 0
unfolding be
be_4 bs = omega arith

be_8 : (bs : List ℕ) → from_be_bytes w64 bs ≡ be 8 bs 0
unfolding be
be_8 bs = omega arith

-- what the code reads
module _ (s : List ℕ) (at : ℕ) {bs : List ℕ} {r : ℕ} where
  pub read_2 : bs ≡ bytes_at s at 2 → r ≡ from_le_bytes w16 bs → r ≡ le2 s at
  read_2 e f = f ∙ le_2 bs ∙ le_whole s at 2 e

  pub read_4 : bs ≡ bytes_at s at 4 → r ≡ from_le_bytes w32 bs → r ≡ le4 s at
  read_4 e f = f ∙ le_4 bs ∙ le_whole s at 4 e

  pub read_8 : bs ≡ bytes_at s at 8 → r ≡ from_le_bytes w64 bs → r ≡ le8 s at
  read_8 e f = f ∙ le_8 bs ∙ le_whole s at 8 e

  pub big_2 : bs ≡ bytes_at s at 2 → r ≡ from_be_bytes w16 bs → r ≡ be 2 s at
  big_2 e f = f ∙ be_2 bs ∙ be_whole s at 2 e

  pub big_4 : bs ≡ bytes_at s at 4 → r ≡ from_be_bytes w32 bs → r ≡ be 4 s at
  big_4 e f = f ∙ be_4 bs ∙ be_whole s at 4 e

  pub big_8 : bs ≡ bytes_at s at 8 → r ≡ from_be_bytes w64 bs → r ≡ be 8 s at
  big_8 e f = f ∙ be_8 bs ∙ be_whole s at 8 e

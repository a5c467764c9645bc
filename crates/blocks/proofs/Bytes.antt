-- Numbers in a list of bytes, read (`le`) and written (`bytes`): each law holds for every width.
use mathlib.Core.Path.{◌≡◌, refl, sym, ◌∙◌, ap}
use mathlib.Core.List.{List, [], ◌∷◌, ◌++◌}
use Prim.Native.Nat.{ℕ, zero, suc, ◌+◌, ◌*◌, ◌/◌, ◌%◌, ◌^◌, ◌≤◌, ◌<◌}
use native.Mathlib.Nat.{add-zero, zero-add, suc-add, pow-suc, mul_comm, mul_assoc, one-le-pow, mod-eq_of_lt}
use native.Mathlib.Omega.{arith}
use lib.ListN.{length, get_or, drop}
use lib.Arith.{mod-mul}
use lib.Seq.{drop-cons, drop-drop, drop-append_seam, get_or-drop}
use Rattle.blocks.specs.Bytes.{le, bytes}

-- ---- reading

module _ (s : List ℕ) where
  -- one byte is its number
  pub le_one : (at : ℕ) → le 1 s at ≡ get_or s at 0
  unfolding le
  le_one at = omega arith

  -- the bytes of a number in two groups: so four bytes are read as two and two, eight as four and four
  pub le_join : (j k at : ℕ) → le (j + k) s at ≡ le j s at + 256 ^ j * le k s (at + j)
  unfolding le
  le_join zero k at = rw (zero-add k, add-zero at) (omega arith)
  le_join (suc j) k at =
      let i : at + suc j ≡ at + 1 + j = omega arith in
      let m : 256 * (256 ^ j * le k s (at + 1 + j)) ≡ 256 ^ suc j * le k s (at + 1 + j) = rw (pow-suc, mul_comm (256 ^ j) 256, mul_assoc) in
      rw (suc-add, i) (omega (arith, le_join j k (at + 1), m))

  -- as it is read: the low half, and the high half behind it
  pub halves : (k at : ℕ) {a b : ℕ} → a ≡ le k s at → b ≡ le k s (at + k) → a + 256 ^ k * b ≡ le (k + k) s at
  halves k at e f = rw (e, f) (sym (le_join k k at))

-- ---- writing

-- a number of k bytes is k long
pub bytes_length : (k v : ℕ) → length (bytes k v) ≡ k
unfolding bytes
bytes_length zero v = refl
bytes_length (suc k) v = ap suc (bytes_length k (v / 256))

-- ---- reading what was written

-- what stands behind bs
pub after : (s bs r : List ℕ) (at : ℕ) → drop at s ≡ bs ++ r → drop (at + length bs) s ≡ r
after s bs r at h = sym (drop-drop (length bs) at s) ∙ ap (drop (length bs)) h ∙ drop-append_seam bs r

-- and behind a number of k bytes
pub behind : (s : List ℕ) (k v : ℕ) (r : List ℕ) (at : ℕ) → drop at s ≡ bytes k v ++ r → drop (at + k) s ≡ r
behind s k v r at h = rw (bytes_length k v) at (after s (bytes k v) r at h)

-- a number that is written is read back, modulo what its bytes hold
pub back : (s : List ℕ) (k at v : ℕ) (r : List ℕ) → drop at s ≡ bytes k v ++ r → le k s at ≡ v % 256 ^ k
unfolding bytes le
back s zero at v r h = omega arith
back s (suc k) at v r h =
    let b : get_or s at 0 ≡ v % 256 = rw add-zero at (sym (get_or-drop at s 0 0) ∙ ap (λ (l : List ℕ). get_or l 0 0) h) in
    let i : le k s (at + 1) ≡ v / 256 % 256 ^ k = back s k (at + 1) (v / 256) r (after s (v % 256 ∷ []) _ at h) in
    let m : v % (256 ^ k * 256) ≡ (v / 256 % 256 ^ k) * 256 + v % 256 = mod-mul v (one-le-pow k 256 (omega arith)) (omega arith) in
    rw pow-suc (omega arith)

-- a number that its bytes hold is read back as it is
pub back_below : (s : List ℕ) (k at v : ℕ) (r : List ℕ) → v < 256 ^ k → drop at s ≡ bytes k v ++ r → le k s at ≡ v
back_below s k at v r f h = back s k at v r h ∙ mod-eq_of_lt f

-- ---- writing what was read

module _ (s : List ℕ) (small : (i : ℕ) → get_or s i 0 < 256) where
  -- a number that is read is held by its bytes
  pub below : (k at : ℕ) → le k s at < 256 ^ k
  unfolding le
  below zero at = omega arith
  below (suc k) at = rw pow-suc (omega (arith, small at, below k (at + 1)))

  -- the bytes of a number that is read are the writing of it
  pub spelt : (k at : ℕ) → at + k ≤ length s → drop at s ≡ bytes k (le k s at) ++ drop (at + k) s
  unfolding bytes le
  spelt zero at h = rw add-zero
  spelt (suc k) at h =
      let b : get_or s at 0 < 256 = small at in
      let m : (get_or s at 0 + 256 * le k s (at + 1)) % 256 ≡ get_or s at 0 = omega arith in
      let d : (get_or s at 0 + 256 * le k s (at + 1)) / 256 ≡ le k s (at + 1) = omega arith in
      let i : at + suc k ≡ at + 1 + k = omega arith in
      let j : suc at ≡ at + 1 = omega arith in
      let l : at < length s = omega arith in
      rw (m, d, i) (drop-cons s at 0 l ∙ ap (λ (t : List ℕ). get_or s at 0 ∷ t) (ap (λ (n : ℕ). drop n s) j ∙ spelt k (at + 1) (omega arith)))

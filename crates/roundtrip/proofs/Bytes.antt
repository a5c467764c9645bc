-- Texts and headers in a list of bytes: how long they are, and that what is written is read back.
use mathlib.Core.Path.{◌≡◌, ◌∙◌, ap}
use mathlib.Core.List.{List, ◌++◌, append_assoc}
use Prim.Native.Nat.{ℕ, ◌+◌, ◌^◌, ◌<◌}
use native.Mathlib.Omega.{arith}
use lib.ListN.{length, take, drop, length-append}
use lib.Seq.{take-append_seam}
use Rattle.blocks.specs.Bytes.{bytes, le2, le4, bytes_at}
use Rattle.blocks.proofs.Bytes.{bytes_length, behind, back_below}

-- a length and a text
pub text_length : (n : List ℕ) → length (bytes 2 (length n) ++ n) ≡ 2 + length n
text_length n = length-append (bytes 2 (length n)) n ∙ ap (λ (k : ℕ). k + length n) (bytes_length 2 (length n))

-- length, kind and body of a block
pub frame : (n k : ℕ) (b : List ℕ) → length (bytes 4 n ++ (bytes 2 k ++ b)) ≡ 6 + length b
frame n k b = omega (arith, length-append (bytes 4 n) (bytes 2 k ++ b), length-append (bytes 2 k) b, bytes_length 4 n, bytes_length 2 k)

-- a text that is written is read back
pub text_back : (s : List ℕ) (at : ℕ) (n r : List ℕ) → length n < 256 ^ 2 → drop at s ≡ bytes 2 (length n) ++ n ++ r → (le2 s at ≡ length n) × (bytes_at s (at + 2) (le2 s at) ≡ n)
text_back s at n r l h =
    let h1 : drop at s ≡ bytes 2 (length n) ++ (n ++ r) = h ∙ append_assoc (bytes 2 (length n)) n r in
    let k : le2 s at ≡ length n = back_below s 2 at (length n) (n ++ r) l h1 in
    (k, ap (λ (j : ℕ). bytes_at s (at + 2) j) k ∙ ap (take (length n)) (behind s 2 (length n) (n ++ r) at h1) ∙ take-append_seam n r)

-- a header that is written is read back, and the body stands behind it
pub block_back : (s : List ℕ) (at n k : ℕ) (b r : List ℕ) → n < 256 ^ 4 → k < 256 ^ 2 → drop at s ≡ bytes 4 n ++ (bytes 2 k ++ b) ++ r
    → (le4 s at ≡ n) × (le2 s (at + 4) ≡ k) × (drop (at + 6) s ≡ b ++ r)
block_back s at n k b r hn hk h =
    let h0 : drop at s ≡ bytes 4 n ++ (bytes 2 k ++ (b ++ r)) = h ∙ simp append_assoc in
    let h4 : drop (at + 4) s ≡ bytes 2 k ++ (b ++ r) = behind s 4 n (bytes 2 k ++ (b ++ r)) at h0 in
    let f : at + 4 + 2 ≡ at + 6 = omega arith in
    (back_below s 4 at n _ hn h0, back_below s 2 (at + 4) k _ hk h4, rw f at (behind s 2 k (b ++ r) (at + 4) h4))

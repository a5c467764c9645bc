-- Numbers by which names are compared in byte order.
use Rattle.std.specs.Prelude.{ℕ, zero, suc, ◌+◌, ◌-◌, ◌*◌, ◌^◌, ◌<◌, ◌≡◌, cond, List, leb, get_or}
use Rattle.blocks.specs.Bytes.{le}
use Rattle.blocks.specs.Name.{Name}

-- the number of k bytes at an offset, the high byte first
unfoldable pub be : ℕ → List ℕ → ℕ → ℕ
be zero s at = 0
be (suc k) s at = get_or s at 0 * 256 ^ k + be k s (at + 1)

-- r has the k bytes of x in the other order: whichever bytes x was read from, r is their number with the high byte first
pub record Turned (k x r : ℕ) : Type 0 where
  pub is : (s : List ℕ) → ((i : ℕ) → get_or s i 0 < 256) → (at : ℕ) → x ≡ le k s at → r ≡ be k s at

-- the first k of n bytes and the last k, as one number
abbrev pub ends : ℕ → List ℕ → ℕ → ℕ
ends k s n = be k s 0 * 256 ^ k + be k s (n - k)

-- the first n bytes of a name, less than eight, as a number; some may be in it twice
unfoldable pub first_bytes : Name → ℕ → ℕ
first_bytes s n = cond (leb 4 n) (ends 4 s n) (cond (leb 2 n) (ends 2 s n) (be n s 0))

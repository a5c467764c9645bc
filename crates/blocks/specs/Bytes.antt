-- "everything little-endian": numbers in a list of bytes.
use Rattle.std.specs.Prelude.{ℕ, zero, suc, ◌+◌, ◌*◌, ◌/◌, ◌%◌, List, [], ◌∷◌, get_or, take, drop}

-- the number of k bytes at an offset, the low byte first; a byte behind the end counts as 0
unfoldable pub le : ℕ → List ℕ → ℕ → ℕ
le zero s at = 0
le (suc k) s at = get_or s at 0 + 256 * le k s (at + 1)

-- of 2, 4 and 8 bytes
abbrev pub le2 : List ℕ → ℕ → ℕ
le2 s at = le 2 s at

abbrev pub le4 : List ℕ → ℕ → ℕ
le4 s at = le 4 s at

abbrev pub le8 : List ℕ → ℕ → ℕ
le8 s at = le 8 s at

-- n bytes at an offset
abbrev pub bytes_at : List ℕ → ℕ → ℕ → List ℕ
bytes_at s at n = take n (drop at s)

-- the name or text at an offset: "a 2-byte length and its bytes"
abbrev pub name_at : List ℕ → ℕ → List ℕ
name_at s at = bytes_at s (at + 2) (le2 s at)

-- a number in w bytes
unfoldable pub bytes : ℕ → ℕ → List ℕ
bytes zero v = []
bytes (suc w) v = (v % 256) ∷ bytes w (v / 256)

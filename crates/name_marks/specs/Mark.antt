-- The mark of a name: a number by which it is told from most others. Eight bytes count at each step; if the steps are eight apart, all do.
use Rattle.std.specs.Prelude.{ℕ, zero, suc, ◌+◌, ◌-◌, ◌*◌, ◌/◌, ◌%◌, ◌^◌, cond, length, nat_lt, slice_index}
use Rattle.blocks.specs.Bytes.{le2, le4, le8}
use Rattle.blocks.specs.Name.{Name}

-- A mark with eight bytes more, which are a number. It stays below 2 ^ 64. Two texts of eight bytes never give the same from one mark: their lower
-- halves, below 2 ^ 31, are in a product with at least 2 ^ 32, and what is added of their upper halves is less.
unfoldable pub step : ℕ → ℕ → ℕ
step h x = (4294967296 + h % 4294967296) * (x % 2147483648) + h / 4294967296 + x / 4294967296

-- a name of less than eight bytes as a number: its first bytes, and its last in the upper half
unfoldable pub short_of : Name → ℕ
short_of n =
    cond (nat_lt (length n) 2)
    (slice_index n 0)
    (cond (nat_lt (length n) 4) (le2 n 0 + 4294967296 * le2 n (length n - 2)) (le4 n 0 + 4294967296 * le4 n (length n - 4)))

-- a name's length as a number for a step: there it is a factor, so it is made large
abbrev pub length_of : Name → ℕ
length_of n = 1640531527 + length n

-- the mark of a name of less than eight bytes
unfoldable pub short_mark : Name → ℕ
short_mark n = step (step 0 (short_of n)) (length_of n)

-- the last step of a name's mark: its last eight bytes, which may be taken twice, and the other mark
abbrev pub last_step : Name → ℕ → ℕ → ℕ
last_step n h g = step (step h (le8 n (length n - 8))) g

-- A name's mark from what it has from i on: at most f steps, as far as eight bytes are followed by others, and the last. The steps go by turns from
-- two marks, now h and then g.
unfoldable pub mark_from : ℕ → ℕ → Name → ℕ → ℕ → ℕ → ℕ
mark_from apart zero n i h g = last_step n h g
mark_from apart (suc f) n i h g = cond (nat_lt (i + 8) (length n)) (mark_from apart f n (i + apart) g (step h (le8 n i))) (last_step n h g)

-- the mark of a name: one of the two marks begins with its length
unfoldable pub mark_of : ℕ → Name → ℕ
mark_of apart n = cond (nat_lt (length n) 8) (short_mark n) (mark_from apart (length n) n 0 0 (length_of n))

-- The sum of a name's eights from i on and of h, without carry beyond 64 bits: at most f of them, as far as eight bytes are followed by others.
unfoldable pub sum_from : ℕ → Name → ℕ → ℕ → ℕ
sum_from zero n i h = h
sum_from (suc f) n i h = cond (nat_lt (i + 8) (length n)) (sum_from f n (i + 8) ((h + le8 n i) % 2 ^ 64)) h

-- The mark of a name by a sum, which takes less time than a product at each step. Its eights but the last may change places: the mark stays the same.
unfoldable pub sum_mark_of : Name → ℕ
sum_mark_of n = cond (nat_lt (length n) 8) (short_mark n) (last_step n (sum_from (length n) n 0 0) (length_of n))

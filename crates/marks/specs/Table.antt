-- Slots in a table of words, found by their marks. A mark's place is its rest by 127. The first 127 words lead to the last slot of each place,
-- plus 1; then a word for each slot has the lower 48 bits of its mark, and below them, in 16 bits, the last slot before it that has its place, plus 1.
use Rattle.std.specs.Prelude.{ℕ, ◌+◌, ◌-◌, ◌/◌, ◌%◌, ◌≤◌, ◌<◌, ◌≡◌, List, length, get_or}

-- m is a mark and has the place p. A slot is left out by a number from 2 ^ 64 on in place of its mark: it has no place.
abbrev pub Placed : ℕ → ℕ → Type 0
Placed m p = (m < 18446744073709551616) × (m % 127 ≡ p)

-- of the slots below n, whose marks are f, the one before j is the last that has the place p; none has it if j is 0
pub record Last (f : ℕ → ℕ) (p n j : ℕ) : Type 0 where
  pub within : j ≤ n
  pub place : 0 < j → Placed (f (j - 1)) p
  pub last : (k : ℕ) → k < n → Placed (f k) p → k < j

-- the word w of the slot k
pub record Slot (f : ℕ → ℕ) (k w : ℕ) : Type 0 where
  pub bits : w / 65536 ≡ f k % 281474976710656
  pub link : Last f (f k % 127) k (w % 65536)

-- the slots below n are in the table ws with their marks f
pub record Linked (ws : List ℕ) (f : ℕ → ℕ) (n : ℕ) : Type 0 where
  pub room : 127 + n ≤ length ws
  pub heads : (p : ℕ) → p < 127 → Last f p n (get_or ws p 0)
  pub slots : (k : ℕ) → k < n → f k < 18446744073709551616 → Slot f k (get_or ws (127 + k) 0)

-- a table: its marks, and how many slots it has
pub record Table (ws : List ℕ) : Type 0 where
  pub marks : ℕ → ℕ
  pub count : ℕ
  pub linked : Linked ws marks count

-- where a walk stands in a table: the slot before j, if there is one, has the mark's place
pub record Chain (ws : List ℕ) (mark j : ℕ) : Type 0 where
  pub table : Table ws
  pub within : j ≤ table.count
  pub place : 0 < j → Placed (table.marks (j - 1)) (mark % 127)

-- Where the walk goes on from j: to the slot before r, which has the mark's place, or to none, where r is 0. No slot that is passed over has the mark.
pub record Prior (f : ℕ → ℕ) (mark j r : ℕ) : Type 0 where
  pub within : r ≤ j
  pub place : 0 < r → Placed (f (r - 1)) (mark % 127)
  pub passed : (k : ℕ) → r ≤ k → k < j → f k ≡ mark → ⊥

-- Bytes that go with the two before them, where characters have one to three bytes.
use Rattle.std.specs.Prelude.{ℕ, ◌+◌, ◌≤◌, ◌<◌, ◌≡◌, Bool, true, not, ◌&&◌, ◌||◌, List, leb, eqb, get_or}

-- the first byte of a character of two or three
abbrev pub leads : ℕ → Bool
leads b = leb 0xC2 b && leb b 0xEF

-- of three
abbrev pub leads3 : ℕ → Bool
leads3 b = leb 0xE0 b && leb b 0xEF

-- "UTF8-tail = %x80-BF"
abbrev pub tail : ℕ → Bool
tail b = leb 0x80 b && leb b 0xBF

-- an ASCII byte that may stand in a text
abbrev pub clear_byte : ℕ → Bool
clear_byte b = leb 0x20 b && leb b 0x7E

-- behind q and a the character is not at its end
abbrev pub unended : ℕ → ℕ → Bool
unended q a = leads a || leads3 q

-- "%xE0 %xA0-BF" and "%xED %x80-9F"
abbrev pub narrow : ℕ → ℕ → Bool
narrow a b = not ((eqb a 0xE0 && not (leb 0xA0 b)) || (eqb a 0xED && leb 0xA0 b))

-- b goes with q and a before it
unfoldable pub fits : ℕ → ℕ → ℕ → Bool
fits q a b = ((unended q a && tail b) || (not (unended q a) && (clear_byte b || leads b))) && narrow a b

-- the byte behind the two at an offset
abbrev pub triple1 : List ℕ → ℕ → Bool
triple1 s at = fits (get_or s at 0) (get_or s (at + 1) 0) (get_or s (at + 2) 0)

-- those behind the ones from a to b
abbrev pub Tripled : List ℕ → ℕ → ℕ → Type 0
Tripled s a b = (k : ℕ) → a ≤ k → k < b → triple1 s k ≡ true

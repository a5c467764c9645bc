-- ASCII bytes that may stand in a text: 0x20 to 0x7E.
use Rattle.std.specs.Prelude.{ℕ, ◌≤◌, ◌<◌, ◌≡◌, true, List, get_or}
use Rattle.texts.specs.Triples.{clear_byte}

-- the bytes from a to b are
abbrev pub Clear : List ℕ → ℕ → ℕ → Type 0
Clear s a b = (k : ℕ) → a ≤ k → k < b → clear_byte (get_or s k 0) ≡ true

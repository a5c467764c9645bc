-- Bytes written at a place of a list, clipped at its end.
use Rattle.std.specs.Prelude.{ℕ, ◌+◌, ◌≡◌, List, ◌++◌, length}
use Rattle.std.proofs.lemmas.List.Edits.{sets}
use Rattle.blocks.specs.Bytes.{bytes}

-- xs with bs written from at on; what would stand behind its end is dropped
unfoldable pub poke : List ℕ → ℕ → List ℕ → List ℕ
poke xs at bs = sets xs at bs

-- the bytes bs were written at the cursor at of xs: ys is left, and the cursor r
pub record Wrote (xs : List ℕ) (at : ℕ) (bs ys : List ℕ) (r : ℕ) : Type 0 where
  pub end : r ≡ at + length bs
  pub left : ys ≡ poke xs at bs

-- a block whose length is yet to be written, as far as its body
unfoldable pub opened : ℕ → List ℕ
opened k = bytes 4 0 ++ bytes 2 k

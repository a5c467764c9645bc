-- What is known where a list of blocks goes on: the blocks before, and the kinds that may stand here.
use Rattle.std.specs.Prelude.{ℕ, ◌+◌, ◌≡◌, true, List, ◌∷◌}
use Rattle.blocks.specs.declared.Part.{Part}
use Rattle.blocks.specs.declared.Part.TheVariants.{Key}
use Rattle.blocks.specs.Grammar.{parts_of, within}
use Rattle.reader_leaf.specs.declared.Seen.{Seen}
use Rattle.reader_leaf.specs.declared.Seen.TheVariants.{Nothing, Owners, Types}
use Rattle.reader_leaf.specs.Seen.{Valid, Here}

-- names ascend among owners (37); they are distinct among blocks that begin with a name
unfoldable pub Suits : Seen → ℕ → ℕ → Type 0
Suits Nothing lo hi = Unit
Suits (Owners first count last paths) lo hi = (lo ≡ 37) × (hi ≡ 37)
Suits (Types first count fresh) lo hi = (k : ℕ) → within lo hi k ≡ true → (ps : List Part) × (parts_of k ≡ Key ∷ ps)

pub record Before (s : List ℕ) (seen : Seen) (lo hi at : ℕ) : Type 0 where
  pub valid : Valid s seen
  pub here : Here s seen (at + 6)
  pub suits : Suits seen lo hi

-- What the code says of a whole input: its length, or the refusal.
use Rattle.std.specs.Prelude.{ℕ}
use Rattle.errors.specs.Refusal.{Outcome, done, refused}
use Rattle.blocks.specs.Tree.{Tree}

unfoldable pub input_of : ℕ → Outcome Tree → Outcome ℕ
input_of n (done t) = done n
input_of n (refused r) = refused r

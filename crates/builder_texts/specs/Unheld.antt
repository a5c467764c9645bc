-- Why 18 is given, as far as the builder's texts go.
use Rattle.std.specs.Prelude.{ℕ, ◌<◌, ◌≡◌, List, length}
use Rattle.errors.specs.Refusal.{Refusal, refused}
use Rattle.blocks.specs.Read.{read_layout}

-- 18: "do the output and 65,536 both hold the layout, and would it pass 2 to 6 where it is read?" They do not, or it would not pass a question other than 3.
pub data Unheld (out : ℕ) (bs : List ℕ) : Type 0 where
  output : out < length bs → Unheld out bs
  limit : 65536 < length bs → Unheld out bs
  question : (r : Refusal) → read_layout bs ≡ refused r → (r.number ≡ 3 → ⊥) → Unheld out bs

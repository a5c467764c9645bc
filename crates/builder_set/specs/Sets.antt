-- What building a set's types, and a set, leaves.
use Rattle.std.specs.Prelude.{ℕ, ◌≤◌, ◌≡◌, List, ◌++◌, length, take, drop, leb, Bool, ◌&&◌, Result, Ok, Err}
use Rattle.errors.specs.Refusal.{Outcome, done, refused, answered, ◌>>=◌}
use Rattle.errors.specs.Answer.{built}
use Rattle.errors.specs.declared.Refusal.{Refusal}
use Rattle.errors.specs.Meaning.{refusal_of, length_of}
use Rattle.blocks.specs.Tree.{Tree}
use Rattle.blocks.specs.Write.{write}
use Rattle.blocks.specs.Read.{read_set, read_layout}
use Rattle.resolved.specs.Set.{types_of}
use Rattle.builder.specs.Build.{build_types, write_layout}
use Rattle.ir.specs.Ir.{TypeIr}
use Rattle.ir.specs.Layout.{type_ir_tree, entries_tree}
use Rattle.wire.specs.Poke.{Wrote}

-- an accepted set, and room for the registry with its index
pub record Ready (s ws : List ℕ) : Type 0 where
  pub size : length s ≤ 65536
  pub words : 1663 ≤ length ws
  pub set : (t : Tree) × (read_set s ≡ done t)

-- the type trees' bytes were written, and the next cursor
abbrev pub TypesAt : (xs : List ℕ) (at : ℕ) (ys : List ℕ) (end : ℕ) → List TypeIr → Type 0
TypesAt xs at ys end ts = Wrote xs at (write (entries_tree type_ir_tree ts)) ys end

-- that, or the refusal
pub data BuildsTypes (xs : List ℕ) (at : ℕ) (ys : List ℕ) : Result ℕ Refusal → Outcome (List TypeIr) → Type 0 where
  made : {end : ℕ} (ts : List TypeIr) → TypesAt xs at ys end ts → BuildsTypes xs at ys (Ok end) (done ts)
  not : {r : Refusal} → BuildsTypes xs at ys (Err r) (refused (refusal_of r))

-- 18 of the first n bytes of an output
unfoldable pub holds_at : List ℕ → ℕ → Bool
holds_at out n = (leb n (length out) && leb n 65536) && answered (read_layout (take n out))

-- the layout of a set that was read
unfoldable pub layout_of : ℕ → Tree → Outcome (List ℕ)
layout_of out t = build_types (types_of t) 0 (types_of t) >>= write_layout out

-- what a build answers and leaves in the output xs: the layout's bytes, then what stood behind them; of a refusal nothing is said
pub record Leaves (xs ys : List ℕ) (r : Result ℕ Refusal) (o : Outcome (List ℕ)) : Type 0 where
  pub is : length_of r ≡ built o
  pub left : (bs : List ℕ) → o ≡ done bs → ys ≡ bs ++ drop (length bs) xs

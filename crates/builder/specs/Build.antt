-- builder.rs, `build_type`, and the call that builds every type of a set in set order.
use Rattle.std.specs.Prelude.{ℕ, suc, Bool, ◌&&◌, List, [], ◌∷◌, ◌++◌, leb, length, drop, replicate}
use Rattle.errors.specs.Refusal.{Outcome, done, refused, ◌>>=◌, ask, answered, at_type, plain, enough}
use Rattle.blocks.specs.Read.{small, read_set, read_layout}
use Rattle.blocks.specs.Write.{write}
use Rattle.resolved.specs.Resolved.{ResolvedType}
use Rattle.resolved.specs.Set.{types_of}
use Rattle.ir.specs.Ir.{TypeIr}
use Rattle.ir.specs.Layout.{layout_tree}
use Rattle.builder.specs.BuildType.{build_type_ir}

-- ---- one type

-- `build_type`, from an empty registry
unfoldable pub build_type : List ResolvedType → ResolvedType → Outcome TypeIr
build_type types t = do
  x ← build_type_ir types t []
  done x.0

-- ---- a set

-- the types of a set from place i on
unfoldable pub build_types : List ResolvedType → ℕ → List ResolvedType → Outcome (List TypeIr)
build_types types i [] = done []
build_types types i (t ∷ ts) = do
  x ← at_type i (build_type types t)
  xs ← build_types types (suc i) ts
  done (x ∷ xs)

-- 18: "do the output and 65,536 both hold the layout, and would it pass 2 to 6 where it is read?"
abbrev pub holds : ℕ → List ℕ → Bool
holds out bs = (leb (length bs) out && leb (length bs) 65536) && answered (read_layout bs)

-- "after all types have built"
unfoldable pub write_layout : ℕ → List TypeIr → Outcome (List ℕ)
write_layout out ts = do
  _ ← ask (holds out (write (layout_tree ts))) (plain 18)
  done (write (layout_tree ts))

-- Builds every type of a set in set order: from the number of working words, the output's length and the set's bytes to
-- the layout's bytes. "Each call begins with 19."
unfoldable pub build_set : ℕ → ℕ → List ℕ → Outcome (List ℕ)
build_set words out set = do
  _ ← enough words
  _ ← small set
  t ← read_set set
  ts ← build_types (types_of t) 0 (types_of t)
  write_layout out ts

-- ---- what a call leaves

-- "A refused build zeroes the output; bytes behind a built layout stay."
unfoldable pub output_after : List ℕ → Outcome (List ℕ) → List ℕ
output_after out (done bs) = bs ++ drop (length bs) out
output_after out (refused r) = replicate (length out) 0

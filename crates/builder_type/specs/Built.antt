-- What building a type stands on, and what it leaves.
use Rattle.std.specs.Prelude.{ℕ, ◌^◌, ◌≤◌, ◌<◌, ◌≡◌, List, length, Result}
use Rattle.errors.specs.Refusal.{Outcome, done}
use Rattle.errors.specs.declared.Reason.{Reason}
use Rattle.answers.specs.Answers.{Answers}
use Rattle.blocks.specs.Tree.{Tree}
use Rattle.blocks.specs.Write.{write}
use Rattle.blocks.specs.Read.{read_set}
use Rattle.accepted.specs.Accepted.{Accepted}
use Rattle.ir.specs.Ir.{TypeIr}
use Rattle.ir.specs.Layout.{type_ir_tree}
use Rattle.wire.specs.Poke.{Wrote}
use Rattle.builder_registry.specs.Words.{Standing}

-- the registry, an accepted set, a type in it, and a cursor
pub record Ready (s ws : List ℕ) (n type at : ℕ) : Type 0 where
  pub standing : Standing s ws n
  pub set : (t : Tree) × (read_set s ≡ done t)
  pub type_at : Accepted s 1 7 type
  pub cursor : at < 2 ^ 55

-- the same before the registry is begun: room for it and its index, and no more is known of the words
pub record ReadyWords (s ws : List ℕ) (type at : ℕ) : Type 0 where
  pub size : length s ≤ 65536
  pub words : 1663 ≤ length ws
  pub set : (t : Tree) × (read_set s ≡ done t)
  pub type_at : Accepted s 1 7 type
  pub cursor : at < 2 ^ 55

-- a type tree that was made: its bytes in the output ys, up to the next cursor
pub record TypeIn (xs : List ℕ) (at : ℕ) (ys : List ℕ) (end : ℕ) (x : TypeIr) : Type 0 where
  pub wrote : Wrote xs at (write (type_ir_tree x)) ys end

-- that, or the refusal, of which nothing is said but its reason
abbrev pub BuildsType : (xs : List ℕ) (at : ℕ) (ys : List ℕ) → Result ℕ Reason → Outcome TypeIr → Type 0
BuildsType xs at ys = Answers (TypeIn xs at ys)

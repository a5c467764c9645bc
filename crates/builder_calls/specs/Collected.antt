-- What collecting the arguments of a call stands on, and what it leaves.
use Rattle.std.specs.Prelude.{ℕ, ◌+◌, ◌*◌, ◌^◌, ◌≤◌, ◌<◌, ◌≡◌, List, [], ◌∷◌, ◌++◌, length, Result}
use Rattle.errors.specs.Refusal.{Outcome}
use Rattle.errors.specs.declared.Reason.{Reason}
use Rattle.answers.specs.Answers.{Answers}
use Rattle.blocks.specs.Write.{write}
use Rattle.accepted.specs.Accepted.{Accepted}
use Rattle.resolved.specs.Resolved.{Owner}
use Rattle.ir.specs.Ir.{IrArgument}
use Rattle.ir.specs.Layout.{entries_tree, argument_tree}
use Rattle.builder.specs.Registry.{Registry, Build}
use Rattle.wire.specs.Poke.{Wrote}
use Rattle.resolved_parts.specs.Types.{Named, PathsAt}
use Rattle.builder_registry.specs.Words.{Standing, Indexed, held, entries_of, owner_mark}
use Rattle.builder_calls.specs.declared.Collected.{Collected}

-- how many paths owners have
unfoldable pub paths_in : List Owner → ℕ
paths_in [] = 0
paths_in (o ∷ os) = length o.paths + paths_in os

-- What is collected behind the arguments before: those that are new, their bytes in the output ys and the next cursor, and the
-- entries in the words us with their index. Collecting began at c.
pub record CollectedIn (s xs : List ℕ) (c : Collected) (before : List IrArgument) (us ys : List ℕ) (r : Collected)
    (x : List IrArgument × Registry) : Type 0 where
  pub new : List IrArgument
  pub are : x.0 ≡ before ++ new
  pub made : r.made ≡ length x.0
  pub entries : entries_of s us r.count ≡ x.1
  pub index : Indexed s us r.count
  pub bytes : Wrote xs c.at (write (entries_tree argument_tree new)) ys r.at

-- the same, or the refusal
abbrev pub Collects : List ℕ → List ℕ → Collected → List IrArgument → List ℕ → List ℕ → Result Collected Reason →
    Outcome (List IrArgument × Registry) → Type 0
Collects s xs c before us ys = Answers (CollectedIn s xs c before us ys)

-- what x collects, behind any arguments that are as many as c says
pub record Behind (s xs : List ℕ) (c : Collected) (ws us ys : List ℕ) (r : Result Collected Reason)
    (x : List IrArgument → Build (List IrArgument)) : Type 0 where
  pub collects : (before : List IrArgument) → length before ≡ c.made → Collects s xs c before us ys r (x before (entries_of s ws c.count))

-- where something was collected from c on: an argument has at most 520 bytes, a call at most 512 of them
pub record Fills (c r : Collected) : Type 0 where
  pub low : c.at ≤ r.at
  pub high : r.at + 520 * c.made ≤ c.at + 520 * r.made
  pub more : c.made ≤ r.made
  pub most : r.made ≤ 512
  pub count : r.count ≤ 512

-- the registry, the arguments that are there, and a cursor with room for the others
pub record Room (s ws : List ℕ) (c : Collected) : Type 0 where
  pub standing : Standing s ws c.count
  pub most : c.made ≤ 512
  pub cursor : c.at < 2 ^ 57 + 520 * c.made

-- the names of an owner, with its mark, and of a path
pub record ReadyPath (s ws : List ℕ) (owner mark path : ℕ) (c : Collected) : Type 0 where
  pub room : Room s ws c
  pub owned : Named s owner
  pub marked : mark ≡ owner_mark (held s owner)
  pub named : Named s path

-- the name of an owner, with its mark, and its paths behind their count
pub record ReadyPaths (s ws : List ℕ) (owner mark paths : ℕ) (c : Collected) : Type 0 where
  pub room : Room s ws c
  pub owned : Named s owner
  pub marked : mark ≡ owner_mark (held s owner)
  pub paths_at : PathsAt s paths

-- a block of references
pub record ReadyOwners (s ws : List ℕ) (references : ℕ) (c : Collected) : Type 0 where
  pub room : Room s ws c
  pub references_at : Accepted s 32 32 references

-- the name of a type, and that type in the set
pub record ReadyCall (s ws : List ℕ) (n callee : ℕ) (name : List ℕ) (at : ℕ) : Type 0 where
  pub standing : Standing s ws n
  pub type_at : Accepted s 1 7 callee
  pub short : length name ≤ 255
  pub cursor : at < 2 ^ 56

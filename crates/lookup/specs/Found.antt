-- What a lookup by name says of what was read: that it is there, with the offset where it stands, or that it is not.
use Rattle.std.specs.Prelude.{ℕ, zero, suc, ◌+◌, ◌≤◌, ◌≡◌, cond, List, [], ◌∷◌, length, Option, Some, None}
use Rattle.std.proofs.Math.Option.{some, none}
use Rattle.errors.specs.Refusal.{done, refused, plain, UnknownType}
use Rattle.blocks.specs.Bytes.{le2, le8}
use Rattle.blocks.specs.Name.{Name, same}
use Rattle.blocks.specs.Blocks.{block_at}
use Rattle.accepted.specs.Accepted.{Accepted, tree, name_at}
use Rattle.resolved.specs.Resolved.{ResolvedType, head, get_type_info}
use Rattle.resolved.specs.Set.{type_of}
use Rattle.ir.specs.Ir.{TypeIr}
use Rattle.ir.specs.Layout.{type_ir_of}
use Rattle.interpreter.specs.Eval.{ParamMap, find, lookup_type}
use Rattle.wire.specs.declared.Position.{Position}
use Rattle.lookup.specs.Named.{Placed}

-- how many types stand before the first of a name
unfoldable pub types_before : Name → List ResolvedType → ℕ
types_before n [] = 0
types_before n (t ∷ ts) = cond (same n (head t).name) 0 (types_before n ts + 1)

-- a type in a set: the offset of its block, which is that of the set's first type of the name
pub data TypeFound (s : List ℕ) (n : Name) (ts : List ResolvedType) : Option ℕ → Type 0 where
  at : {o : ℕ} (a : Accepted s 1 7 o) → get_type_info n ts ≡ some (type_of (tree a)) → o ≡ block_at s 8 (types_before n ts) → TypeFound s n ts (Some o)
  missing : get_type_info n ts ≡ none → TypeFound s n ts None

-- a type tree in a layout: the place of the first of the name, and the offset of the block of that place
pub data TreeFound (s : List ℕ) (n : Name) (ts : List TypeIr) : Option Position → Type 0 where
  at : {i o : ℕ} (a : Accepted s 161 161 o) → Placed s i o → lookup_type 0 n ts ≡ done (i, type_ir_of (tree a)) → TreeFound s n ts (Some (record { place = i; at = o }))
  missing : lookup_type 0 n ts ≡ refused (plain UnknownType) → TreeFound s n ts None

-- the offset of the number of the first entry of a name, among so many from an offset on: an entry is a name and the 8 bytes of its number
unfoldable pub first_value : List ℕ → Name → ℕ → ℕ → Option ℕ
first_value s n zero o = None
first_value s n (suc k) o = cond (same n (name_at s o)) (Some (o + 2 + le2 s o)) (first_value s n k (o + 2 + le2 s o + 8))

-- a value: the number at the offset is the one that the context has
pub data ValueFound (s : List ℕ) (n : Name) (γ : ParamMap) : Option ℕ → Type 0 where
  at : {o : ℕ} → o + 8 ≤ length s → find n γ ≡ some (le8 s o) → ValueFound s n γ (Some o)
  missing : find n γ ≡ none → ValueFound s n γ None

-- Where the code finds a key in the registry.
use Rattle.std.specs.Prelude.{ℕ, suc, Bool, cond, List, [], ◌∷◌, ltb, length, Some, None}
use Rattle.std.specs.Prelude as std
use Rattle.std.proofs.Math.Option.{Option, some, none}
use Rattle.blocks.specs.Name.{Name, same}
use Rattle.ir.specs.Ir.{IrParameter}
use Rattle.builder.specs.Names.{normalize_path}
use Rattle.builder.specs.Registry.{Entry, Registry, keyed_by}

-- the place of the first entry of the owner that has the key, or how many entries there are
unfoldable pub place_of : Name → Name → Registry → ℕ
place_of owner key [] = 0
place_of owner key (e ∷ es) = cond (keyed_by owner key e) 0 (suc (place_of owner key es))

-- the answer of a lookup: that place, where there is such an entry
unfoldable pub found_at : Name → Name → Registry → std.Option ℕ
found_at owner key es = cond (ltb (place_of owner key es) (length es)) (Some (place_of owner key es)) None

-- the same for a path, if there is one
abbrev pub found_in : Name → Option Name → Registry → std.Option ℕ
found_in owner none es = None
found_in owner (some path) es = found_at owner (normalize_path owner path) es

-- what an entry adds to the parameters of an owner, where b says whether it is the owner's
unfoldable pub if_owned : Bool → Entry → List IrParameter
if_owned b e = cond b (e.parameter ∷ []) []

unfoldable pub owned : Name → Entry → List IrParameter
owned owner e = if_owned (same owner e.owner) e

-- Under which name a called type finds its value in the caller's context, and what the code's answers say.
use Rattle.std.specs.Prelude.{ℕ, Bool, false, ◌||◌, cond, List, [], ◌∷◌, Option, Some, None}
use Rattle.std.specs.Borrow.{Bor}
use Rattle.std.proofs.Math.Option.{Option as Maybe, some, none}
use Rattle.blocks.specs.Name.{Name, same}
use Rattle.value.specs.declared.Value.{Value}
use Rattle.value.specs.Number.{number_of}
use Rattle.ir.specs.Ir.{IrArgument, IrParameter}

-- an argument's value name where it has the name, else o
abbrev pub chosen : Name → IrArgument → Maybe Name → Maybe Name
chosen n x o = cond (same n x.name) (some x.value) o

-- the value name of the last argument of a name, or else o: "A later argument of the same name wins."
unfoldable pub last_argument : Name → List IrArgument → Maybe Name → Maybe Name
last_argument n [] o = o
last_argument n (x ∷ xs) o = last_argument n xs (chosen n x o)

-- whether parameters list a name
unfoldable pub lists : Name → List IrParameter → Bool
lists n [] = false
lists n (p ∷ ps) = same n p.name || lists n ps

-- an argument's value name; else the name itself, where the callee's parameters list it
abbrev pub callers_name : Name → List IrArgument → List IrParameter → Maybe Name
callers_name n xs ps = last_argument n xs (cond (lists n ps) (some n) none)

-- the name that a slice of the code is
abbrev pub named : Option (Bor Name) → Maybe Name
named None = none
named (Some n) = some n.now

-- what each answer of the code says a context has of a name
abbrev pub found_in : Option Value → Maybe ℕ
found_in None = none
found_in (Some v) = some (number_of v)

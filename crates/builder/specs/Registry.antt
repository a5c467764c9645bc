-- builder.rs, `ParameterRegistry`, as one list of entries in order of entry, and building as actions on it.
use Rattle.std.specs.Prelude.{ℕ, Bool, true, false, ◌&&◌, cond, List, [], ◌∷◌, ◌++◌, leb, ltb, length}
use Rattle.std.proofs.Math.Option.{Option, some, none}
use Rattle.errors.specs.Refusal.{Outcome, done, refused, plain}
use Rattle.errors.specs.Refusal.{◌>>=◌ as ◌and_then◌}
use Rattle.blocks.specs.Name.{Name, same, among}
use Rattle.resolved.specs.Resolved.{Owner}
use Rattle.ir.specs.Ir.{IrParameter}
use Rattle.builder.specs.Names.{canonical_name, normalize_path, alternate_owner_aliases}

-- An entry's keys are its normal path and its aliases. The Rust's map gives a key to the entry that first had it, so a
-- key belongs to the first entry of its owner that has it.
pub record Entry : Type 0 where
  pub owner : Name
  pub keys : List Name
  pub parameter : IrParameter

abbrev pub Registry : Type 0
Registry = List Entry

-- ---- actions

-- an action gives a value and the registry after it, or a refusal
abbrev pub Build : Type 0 → Type 0
Build A = Registry → Outcome (A × Registry)

infixl 20 ◌>>=◌
unfoldable pub ◌>>=◌ : {A B : Type 0} → Build A → (A → Build B) → Build B
◌>>=◌ m k = λ r. ◌and_then◌ (m r) (λ x. k x.0 x.1)

unfoldable pub give : {A : Type 0} → A → Build A
give a = λ r. done (a, r)

unfoldable pub refuse : {A : Type 0} → ℕ → Build A
refuse q = λ r. refused (plain q)

-- a question, and the number if its answer is "no"
unfoldable pub require : Bool → ℕ → Build Unit
require true q = give tt
require false q = refuse q

-- a value, or the number where there is none
unfoldable pub need : {A : Type 0} → Option A → ℕ → Build A
need (some a) q = give a
need none q = refuse q

-- what the registry says
unfoldable pub reads : {A : Type 0} → (Registry → A) → Build A
reads f = λ r. done (f r, r)

unfoldable pub change : (Registry → Registry) → Build Unit
change f = λ r. done (tt, f r)

-- 17: "is each written name or text at most 255 bytes"
abbrev pub short : Name → Bool
short n = leb (length n) 255

-- ---- the registry

abbrev pub keyed_by : Name → Name → Entry → Bool
keyed_by owner key e = same owner e.owner && among key e.keys

-- `lookup.get(&key)`
unfoldable pub find_key : Name → Name → Registry → Option IrParameter
find_key owner key [] = none
find_key owner key (e ∷ es) = elim (keyed_by owner key e) [ true ↦ some e.parameter | false ↦ find_key owner key es ]

-- a new entry; 17: "at most 512 registry entries"
unfoldable pub enter : Entry → Build Unit
enter e = do
  _ ← require (short e.parameter.name) 17
  n ← reads length
  _ ← require (ltb n 512) 17
  change (λ r. r ++ (e ∷ []))

-- `ensure`, which is called with no description and `derived` false
abbrev pub entry_of : Name → Name → Entry
entry_of owner path = record {
  owner = owner;
  keys = normalize_path owner path ∷ alternate_owner_aliases path (normalize_path owner path);
  parameter = record { name = canonical_name owner path; description = none; derived = false };
}

abbrev pub unless_found : Entry → Option IrParameter → Build Unit
unless_found e (some p) = give tt
unless_found e none = enter e

unfoldable pub ensure : Name → Name → Build Unit
ensure owner path = do
  p ← reads (find_key owner (normalize_path owner path))
  unless_found (entry_of owner path) p

unfoldable pub ensure_all : Name → List Name → Build Unit
ensure_all owner [] = give tt
ensure_all owner (p ∷ ps) = do
  _ ← ensure owner p
  ensure_all owner ps

-- `extend_with`
unfoldable pub extend_with : List Owner → Build Unit
extend_with [] = give tt
extend_with (o ∷ os) = do
  _ ← ensure_all o.name o.paths
  extend_with os

-- `lookup_name`
abbrev pub parameter_name : Option IrParameter → Option Name
parameter_name none = none
parameter_name (some p) = some p.name

unfoldable pub lookup_name : Name → Name → Registry → Option Name
lookup_name owner path r = parameter_name (find_key owner (normalize_path owner path) r)

-- `owner_parameters`
unfoldable pub owner_parameters : Name → Registry → List IrParameter
owner_parameters owner [] = []
owner_parameters owner (e ∷ es) = cond (same owner e.owner) (e.parameter ∷ owner_parameters owner es) (owner_parameters owner es)

-- `add_synthetic`, which is called with a name of its own and enters no alias: the name that the key has then
abbrev pub named_or : Entry → Option IrParameter → Build Name
named_or e (some p) = give p.name
named_or e none = do
  _ ← enter e
  give e.parameter.name

unfoldable pub add_synthetic : Name → Name → IrParameter → Build Name
add_synthetic owner path parameter = do
  p ← reads (find_key owner (normalize_path owner path))
  named_or (record { owner = owner; keys = normalize_path owner path ∷ []; parameter = parameter }) p

-- `mark_derived`
abbrev pub derived_entry : Entry → Entry
derived_entry e = record {
  owner = e.owner;
  keys = e.keys;
  parameter = record { name = e.parameter.name; description = e.parameter.description; derived = true };
}

unfoldable pub mark : Name → Name → Registry → Registry
mark owner key [] = []
mark owner key (e ∷ es) = cond (keyed_by owner key e) (derived_entry e ∷ es) (e ∷ mark owner key es)

unfoldable pub mark_derived : Name → Name → Registry → Registry
mark_derived owner path = mark owner (normalize_path owner path)

-- `into_parameters`: "one name is listed", the first
unfoldable pub firsts : List Name → Registry → List IrParameter
firsts seen [] = []
firsts seen (e ∷ es) =
    cond (among e.parameter.name seen) (firsts seen es) (e.parameter ∷ firsts (e.parameter.name ∷ seen) es)

unfoldable pub into_parameters : Registry → List IrParameter
into_parameters = firsts []

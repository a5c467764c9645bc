-- The registry stays fine, and what it says of a parameter is a text.
use mathlib.Core.Bool.{Bool, true, false}
use mathlib.Core.List.{List, [], ◌∷◌}
use mathlib.Core.Option.{Option, some, none}
use lib.Dec.{ltb}
use lib.ListN.{length}
use Rattle.blocks.specs.Name.{Name, same, among}
use Rattle.blocks.proofs.Utf8.{text_well, well_text}
use Rattle.resolved.specs.Resolved.{Owner}
use Rattle.ir.specs.Ir.{IrParameter}
use Rattle.builder.specs.Names.{normalize_path}
use Rattle.builder.specs.Registry.{Entry, Registry, keyed_by, find_key, enter, entry_of, unless_found, ensure, ensure_all, extend_with, parameter_name, lookup_name}
use Rattle.builder.specs.Registry.{owner_parameters, named_or, add_synthetic, derived_entry, mark, mark_derived, firsts, into_parameters, short}
use Rattle.builder_texts.specs.Texts.{IsText}
use Rattle.builder_texts.proofs.All.{All, Maybe, Any, all_append, all_map, either}
use Rattle.builder_texts.proofs.Names.{Well, normalize_path_well, aliases_well, canonical_name_well}
use Rattle.builder_texts.proofs.Types.{OwnerTexts}
use Rattle.builder_texts.proofs.Keeps.{ParameterTexts, EntryFine, Fine, Keeps, gives, says, changes, requires, binds, forgets}

-- texts are well-formed
pub texts_well : {ns : List Name} → All IsText ns → All Well ns
texts_well a = all_map text_well a

-- ---- what the registry says

-- the parameter under a key
find_key_lem : (owner key : Name) {r : Registry} → Fine r → Maybe ParameterTexts (find_key owner key r)
unfolding find_key
find_key_lem owner key All.none = Maybe.none
find_key_lem owner key (All.more {x = e} {xs = es} f fs) = go (keyed_by owner key e) (find_key_lem owner key fs)
  where
    go : (b : Bool) → Maybe ParameterTexts (find_key owner key es) → Maybe ParameterTexts (elim b [ true ↦ some e.parameter | false ↦ find_key owner key es ])
    go true m = Maybe.some f.parameter
    go false m = m

-- its name
parameter_name_lem : {o : Option IrParameter} → Maybe ParameterTexts o → Maybe IsText (parameter_name o)
parameter_name_lem Maybe.none = Maybe.none
parameter_name_lem (Maybe.some p) = Maybe.some p.name

-- `lookup_name`
pub lookup_name_text : (owner path : Name) (r : Registry) → Fine r → Maybe IsText (lookup_name owner path r)
unfolding lookup_name
lookup_name_text owner path r f = parameter_name_lem (find_key_lem owner (normalize_path owner path) f)

-- `owner_parameters`
pub owner_parameters_texts : (owner : Name) {r : Registry} → Fine r → All ParameterTexts (owner_parameters owner r)
unfolding owner_parameters
owner_parameters_texts owner All.none = All.none
owner_parameters_texts owner (All.more {x = e} f fs) =
    either (All ParameterTexts) (same owner e.owner) (All.more f.parameter (owner_parameters_texts owner fs)) (owner_parameters_texts owner fs)

-- `into_parameters`: those of the names that were not seen
firsts_texts : (seen : List Name) {r : Registry} → Fine r → All ParameterTexts (firsts seen r)
unfolding firsts
firsts_texts seen All.none = All.none
firsts_texts seen (All.more {x = e} f fs) =
    either (All ParameterTexts) (among e.parameter.name seen) (firsts_texts seen fs) (All.more f.parameter (firsts_texts (e.parameter.name ∷ seen) fs))

-- all of them
pub into_parameters_texts : (r : Registry) → Fine r → All ParameterTexts (into_parameters r)
unfolding into_parameters
into_parameters_texts r f = firsts_texts [] f

-- ---- entries

-- an entry whose parameter's name has not been measured
record Enterable (e : Entry) : Type 0 where
  owner : Well e.owner
  keys : All Well e.keys
  name : Well e.parameter.name
  description : Maybe IsText e.parameter.description

-- a new entry: its parameter's name is measured first, so it is a text
enter_keeps : (e : Entry) → Enterable e → Keeps (λ _. IsText e.parameter.name) (enter e)
unfolding enter
enter_keeps e h =
    binds (requires (short e.parameter.name) 17) (λ _ s.
    binds (says Any length (λ r f. tt)) (λ n _.
    binds (requires (ltb n 512) 17) (λ _ _.
    let t = well_text e.parameter.name h.name s in
    let fine : EntryFine e = record { owner = h.owner; keys = h.keys; parameter = record { name = t; description = h.description } } in
    changes _ (λ r f. all_append f (All.more fine All.none)) t)))

-- the entry that `ensure` makes
entry_of_lem : (owner path : Name) → Well owner → Well path → Enterable (entry_of owner path)
entry_of_lem owner path v w = record {
  owner = v;
  keys = All.more (normalize_path_well owner path w) (aliases_well path (normalize_path owner path) w);
  name = canonical_name_well owner path v w;
  description = Maybe.none;
}

-- `ensure`
pub ensure_keeps : (owner path : Name) → Well owner → Well path → Keeps Any (ensure owner path)
unfolding ensure
ensure_keeps owner path v w = binds (says Any _ (λ r f. tt)) (λ p _. go p)
  where
    go : (p : Option IrParameter) → Keeps Any (unless_found (entry_of owner path) p)
    go (some p) = gives tt tt
    go none = forgets (enter_keeps (entry_of owner path) (entry_of_lem owner path v w))

-- the paths of an owner
ensure_all_keeps : (owner : Name) {ps : List Name} → Well owner → All Well ps → Keeps Any (ensure_all owner ps)
unfolding ensure_all
ensure_all_keeps owner v All.none = gives tt tt
ensure_all_keeps owner v (All.more {x} p ps) = binds (ensure_keeps owner x v p) (λ _ _. ensure_all_keeps owner v ps)

-- `extend_with`
pub extend_with_keeps : {os : List Owner} → All OwnerTexts os → Keeps Any (extend_with os)
unfolding extend_with
extend_with_keeps All.none = gives tt tt
extend_with_keeps (All.more {x} o os) = binds (ensure_all_keeps x.name (text_well x.name o.name) (texts_well o.paths)) (λ _ _. extend_with_keeps os)

-- `add_synthetic`: the name that the key has then
pub add_synthetic_keeps : (owner path : Name) (p : IrParameter) → Well owner → Well path → Well p.name → Maybe IsText p.description → Keeps IsText (add_synthetic owner path p)
unfolding add_synthetic
add_synthetic_keeps owner path p v w n d = binds (says (Maybe ParameterTexts) _ (λ r f. find_key_lem owner (normalize_path owner path) f)) (λ o m. go m)
  where
    e : Entry
    e = record { owner = owner; keys = normalize_path owner path ∷ []; parameter = p }

    go : {o : Option IrParameter} → Maybe ParameterTexts o → Keeps IsText (named_or e o)
    go (Maybe.some q) = gives _ q.name
    go Maybe.none =
        binds (enter_keeps e (record { owner = v; keys = All.more (normalize_path_well owner path w) All.none; name = n; description = d })) (λ _ t. gives p.name t)

-- `mark_derived`: the flag is no text
mark_fine : (owner key : Name) {r : Registry} → Fine r → Fine (mark owner key r)
unfolding mark
mark_fine owner key All.none = All.none
mark_fine owner key (All.more {x = e} f fs) = either Fine (keyed_by owner key e) (All.more derived fs) (All.more f (mark_fine owner key fs))
  where
    derived : EntryFine (derived_entry e)
    derived = record { owner = f.owner; keys = f.keys; parameter = record { name = f.parameter.name; description = f.parameter.description } }

-- under a path
pub mark_derived_fine : (owner path : Name) (r : Registry) → Fine r → Fine (mark_derived owner path r)
unfolding mark_derived
mark_derived_fine owner path r f = mark_fine owner (normalize_path owner path) f

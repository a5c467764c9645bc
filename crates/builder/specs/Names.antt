-- builder.rs, names: `canonical_name`, `normalize_path`, aliases, `qualify_parent_path`, and the texts that nodes take.
use Rattle.std.specs.Prelude.{ℕ, Bool, true, false, ◌&&◌, ◌||◌, cond, List, [], ◌∷◌, ◌++◌, eqb}
use Rattle.std.proofs.Math.Option.{Option, some, none}
use Rattle.blocks.specs.Name.{Name, ascii, same}

abbrev pub is_empty : Name → Bool
is_empty [] = true
is_empty (x ∷ xs) = false

-- the rest of a name that begins with another
unfoldable pub strip_prefix : Name → Name → Option Name
strip_prefix [] n = some n
strip_prefix (p ∷ ps) [] = none
strip_prefix (p ∷ ps) (x ∷ xs) = elim (eqb p x) [ true ↦ strip_prefix ps xs | false ↦ none ]

-- "Stripping an owner gives back the rest of the caller's own path."
abbrev pub strip_owner : Name → Name → Option Name
strip_owner owner path = strip_prefix (owner ++ ascii ".") path

abbrev pub or_else : {A : Type 0} → A → Option A → A
or_else d none = d
or_else d (some a) = a

abbrev pub is_some : {A : Type 0} → Option A → Bool
is_some none = false
is_some (some a) = true

-- `normalize_path`
unfoldable pub normalize_path : Name → Name → Name
normalize_path owner path = cond (same path owner) [] (or_else path (strip_owner owner path))

-- `canonical_name`
unfoldable pub canonical_name : Name → Name → Name
canonical_name owner path = cond (is_empty path || same path owner) owner (owner ++ (ascii "." ++ or_else path (strip_owner owner path)))

-- `rsplit_once("::")`: what stands before and behind the last `::`
abbrev pub behind : Option Name → Option (Name × Name)
behind none = none
behind (some r) = some ([], r)

unfoldable pub rsplit_once : Name → Option (Name × Name)
rsplit_once [] = none
rsplit_once (x ∷ xs) = elim (rsplit_once xs) [ none ↦ behind (strip_prefix (ascii "::") (x ∷ xs)) | some p ↦ some (x ∷ p.0, p.1) ]

-- `alternate_owner_aliases`: what stands behind the last `::` of a path, unless it is empty or the normal path
abbrev pub alias_unless : Name → Option (Name × Name) → List Name
alias_unless normal none = []
alias_unless normal (some p) = cond (is_empty p.1 || same p.1 normal) [] (p.1 ∷ [])

unfoldable pub alternate_owner_aliases : Name → Name → List Name
alternate_owner_aliases path normal = alias_unless normal (rsplit_once path)

-- `qualify_parent_path`
abbrev pub qualified : Name → Option (Name × Name) → Option Name
qualified path none = none
qualified path (some p) = some (p.0 ++ (ascii "::" ++ path))

unfoldable pub qualify_parent_path : Name → Name → Option Name
qualify_parent_path owner path = qualified path (rsplit_once owner)

-- `path.join(".")`
unfoldable pub join : List Name → Name
join [] = []
join (x ∷ []) = x
join (x ∷ (y ∷ ys)) = x ++ (ascii "." ++ join (y ∷ ys))

-- `ends_with`
unfoldable pub ends_with : Name → Name → Bool
ends_with e [] = same [] e
ends_with e (x ∷ xs) = same (x ∷ xs) e || ends_with e xs

-- `trim_end_matches('.')`
unfoldable pub trim_end : Name → Name
trim_end [] = []
trim_end (x ∷ xs) = cond (is_empty (trim_end xs) && eqb x 0x2E) [] (x ∷ trim_end xs)

-- `extend_element_prefix`: "with `element.` put before paths"
abbrev pub extend_element_prefix : Name → Name
extend_element_prefix prefix = prefix ++ ascii "element."

-- `apply_path_prefix`
unfoldable pub apply_path_prefix : Name → Name → Name
apply_path_prefix prefix path = cond (is_empty prefix) path (cond (is_empty path) (trim_end prefix) (prefix ++ path))

-- `replace("::", ".")`
unfoldable pub replace_colons : Name → Name
replace_colons [] = []
replace_colons (x ∷ []) = x ∷ []
replace_colons (x ∷ (y ∷ ys)) = cond (eqb x 0x3A && eqb y 0x3A) (0x2E ∷ replace_colons ys) (x ∷ replace_colons (y ∷ ys))

-- `split('.')`
abbrev pub onto : ℕ → List Name → List Name
onto x [] = (x ∷ []) ∷ []
onto x (s ∷ ss) = (x ∷ s) ∷ ss

unfoldable pub split : Name → List Name
split [] = [] ∷ []
split (x ∷ xs) = cond (eqb x 0x2E) ([] ∷ split xs) (onto x (split xs))

-- the segment before the first segment `element`, if there is one
unfoldable pub before : Name → List Name → Option Name
before p [] = none
before p (s ∷ ss) = elim (same s (ascii "element")) [ true ↦ some p | false ↦ before s ss ]

unfoldable pub before_element : List Name → Option Name
before_element [] = none
before_element (s ∷ ss) = elim (same s (ascii "element")) [ true ↦ none | false ↦ before s ss ]

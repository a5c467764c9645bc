-- What the code answers, said of the definitions of names.
use Rattle.std.specs.Prelude.{ℕ, ◌+◌, ◌-◌, ◌≤◌, ◌≡◌, Bool, false, ◌&&◌, ◌||◌, List, [], ◌∷◌, ◌++◌, eqb, leb, length, take, drop, Option, Some, None}
use Rattle.std.proofs.Math.Option.{some, none}
use Rattle.std.proofs.Math.Option as math
use denote.Ref.{Bor}
use Rattle.blocks.specs.Name.{Name, ascii, same}
use Rattle.builder.specs.Names.{is_empty, strip_owner, normalize_path, canonical_name, rsplit_once, qualify_parent_path, alternate_owner_aliases}
use Rattle.builder_names.specs.declared.Key.{Key}

-- whether the canonical name is the owner itself
abbrev pub alone : Name → Name → Bool
alone owner path = is_empty path || same path owner

-- what stands behind the owner and a dot in a path, if the path begins with them
abbrev pub Stripped : Name → Name → Option (Bor Name) → Type 0
Stripped owner path None = strip_owner owner path ≡ none
Stripped owner path (Some r) = (strip_owner owner path ≡ some r.now) × (r.now ≡ drop (length owner + 1) path)

-- two names with a dot between them
unfoldable pub dotted : Name → Name → Name
dotted a b = a ++ (ascii "." ++ b)

-- a part of the path that stands behind the owner and a dot in the canonical name
pub record RestIs (owner path rest : Name) : Type 0 where
  pub fits : length rest ≤ length path
  pub is : canonical_name owner path ≡ dotted owner rest

-- whether a name begins with `::`
abbrev pub colons : Name → Bool
colons [] = false
colons (x ∷ []) = false
colons (x ∷ (y ∷ ys)) = eqb x 0x3A && eqb y 0x3A

-- whether `::` stands before the last n bytes of a name
unfoldable pub colons_before : ℕ → Name → Bool
colons_before n s = leb (n + 2) (length s) && colons (drop (length s - (n + 2)) s)

-- the place of the last `::` in what `rsplit_once` gives
abbrev pub place : math.Option (Name × Name) → Option ℕ
place none = None
place (some p) = Some (length p.0)

-- what stands before and behind the `::` at a place
abbrev pub Parts : Name → Option ℕ → Type 0
Parts s (Some i) = (i + 2 ≤ length s) × (rsplit_once s ≡ some (take i s, drop (i + 2) s))
Parts s None = rsplit_once s ≡ none

-- the one alias that there can be, or nothing
abbrev pub first : List Name → Name
first [] = []
first (n ∷ ns) = n

unfoldable pub alias_of : Name → Name → Name
alias_of path normal = first (alternate_owner_aliases path normal)

-- the key of a path, if there is one, in the registry of the owner
abbrev pub key_of : Name → math.Option Name → math.Option Name
key_of owner none = none
key_of owner (some path) = some (normalize_path owner path)

-- a key in two parts: the first bytes of the owner, and the path from a place on; together the key of the path qualified by the owner's
-- parent
pub record KeyParts (owner path : Name) (k : Key) : Type 0 where
  pub head : (a : ℕ) × (a ≤ length owner) × (k.head.now ≡ take a owner)
  pub rest : (b : ℕ) × (b ≤ length path) × (k.rest.now ≡ drop b path)
  pub key : key_of owner (qualify_parent_path owner path) ≡ some (k.head.now ++ k.rest.now)

-- the key, or that the owner has no parent
abbrev pub KeyIs : Name → Name → Option Key → Type 0
KeyIs owner path None = qualify_parent_path owner path ≡ none
KeyIs owner path (Some k) = KeyParts owner path k

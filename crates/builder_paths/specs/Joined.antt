-- The path of a field reference: its segments joined by dots, behind so many `element.`.
use Rattle.std.specs.Prelude.{ℕ, zero, suc, ◌≡◌, Bool, true, false, cond, List, [], ◌∷◌, ◌++◌, ltb, Option, Some, None}
use denote.Ref.{Bor}
use Rattle.blocks.specs.Name.{Name, ascii, same}
use Rattle.builder.specs.Names.{join, extend_element_prefix, apply_path_prefix}

-- the prefix inside so many arrays
unfoldable pub prefix_of : ℕ → Name
prefix_of zero = []
prefix_of (suc k) = extend_element_prefix (prefix_of k)

-- a path inside so many arrays
abbrev pub path_of : ℕ → List Name → Name
path_of depth segments = apply_path_prefix (prefix_of depth) (join segments)

abbrev pub no_names : List Name → Bool
no_names [] = true
no_names (n ∷ ns) = false

-- a segment where so many are left, itself among them: a dot stands behind it unless it is the last
unfoldable pub segment : ℕ → Name → Name
segment left n = n ++ cond (ltb 1 left) (ascii ".") []

-- what a name has behind a part, if it begins with the part: with that the comparison goes on, and else nothing behind the part is the name
abbrev pub Behind : Name → Name → Option (Bor Name) → Type 0
Behind m p None = (u : Name) → same (p ++ u) m ≡ false
Behind m p (Some r) = (u : Name) → same (p ++ u) m ≡ same u r.now

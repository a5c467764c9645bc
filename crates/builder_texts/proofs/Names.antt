-- Names that are put together or cut by the builder stay well-formed: one law for each operation of the builder's Names.
use Prim.Native.Nat.{ℕ}
use native.Mathlib.Omega.{arith}
use mathlib.Core.Path.{◌≡◌, refl, sym, ap, ap₂, subst, ◌∙◌}
use mathlib.Core.Bool.{Bool, true, false, ◌&&◌, ◌||◌, cond}
use mathlib.Core.List.{List, [], ◌∷◌, ◌++◌, append_assoc}
use mathlib.Core.Option.{Option, some, none}
use lib.Dec.{eqb}
use borrow.Author.Tests.{eqb-true}
use Rattle.blocks.specs.Name.{Name, ascii, well_formed, same}
use Rattle.blocks.proofs.Compute.{compute}
use Rattle.blocks.proofs.Name.{and_right}
use Rattle.blocks.proofs.Utf8.{well_join, well_before, well_behind}
use Rattle.builder.specs.Names.{is_empty, strip_prefix, strip_owner, or_else, normalize_path, canonical_name, behind, rsplit_once, alias_unless, alternate_owner_aliases}
use Rattle.builder.specs.Names.{qualified, qualify_parent_path, join, trim_end, extend_element_prefix, apply_path_prefix}
use Rattle.builder.specs.Nodes.{ref_text}
use Rattle.builder_texts.proofs.All.{All, Maybe, either, maybe_map}

-- valid UTF-8 with allowed bytes only, of any length: what every name is until it is measured
abbrev pub Well : Name → Type 0
Well n = well_formed n ≡ true

-- ---- the bytes that the builder puts between names

-- no bytes: used for a prefix that is not there
pub empty_well : Well []
unfolding compute
empty_well = refl

-- between an owner and a path, and between the segments of a path
dot_well : Well (ascii ".")
unfolding compute
dot_well = refl

-- between an owner and a path in a size text
colon_well : Well (ascii ":")
unfolding compute
colon_well = refl

-- between a parent and a path
colons_well : Well (ascii "::")
unfolding compute
colons_well = refl

-- before the paths of an array's element
element_well : Well (ascii "element.")
unfolding compute
element_well = refl

-- two names with a third between them
between : (a m b : Name) → Well a → Well m → Well b → Well (a ++ (m ++ b))
between a m b p q r = well_join a (m ++ b) p (well_join m b q r)

-- ---- an owner stripped from a path

-- what is left stands behind the prefix
stripped : (p n : Name) → Maybe (λ r. n ≡ p ++ r) (strip_prefix p n)
unfolding strip_prefix
stripped [] n = Maybe.some refl
stripped (x ∷ p) [] = Maybe.none
stripped (x ∷ p) (y ∷ n) = go (eqb x y) refl (stripped p n)
  where
    go : (b : Bool) → eqb x y ≡ b → Maybe (λ r. n ≡ p ++ r) (strip_prefix p n) → Maybe (λ r. ◌≡◌ {A = Name} (y ∷ n) (x ∷ (p ++ r))) (elim b [ true ↦ strip_prefix p n | false ↦ none ])
    go true h s = maybe_map (λ r e. ap₂ (λ (a : ℕ) (as' : Name). a ∷ as') (sym (eqb-true x y h)) e) s
    go false h s = Maybe.none

-- `strip_prefix` of an owner and its dot: what is left stands behind the dot, so it is well-formed
pub strip_owner_well : (owner path : Name) → Well path → Maybe Well (strip_owner owner path)
strip_owner_well owner path w =
    maybe_map (λ r e. well_behind owner 0x2E r (omega arith) (subst Well (e ∙ append_assoc owner (ascii ".") r) w)) (stripped (owner ++ ascii ".") path)

-- the path without its owner, or as it is
unowned : (owner path : Name) → Well path → Well (or_else path (strip_owner owner path))
unowned owner path w = go (strip_owner_well owner path w)
  where
    go : {o : Option Name} → Maybe Well o → Well (or_else path o)
    go Maybe.none = w
    go (Maybe.some v) = v

-- `normalize_path`: a key of the registry
pub normalize_path_well : (owner path : Name) → Well path → Well (normalize_path owner path)
unfolding normalize_path
normalize_path_well owner path w = either Well (same path owner) empty_well (unowned owner path w)

-- `canonical_name`: a parameter's or an argument's name
pub canonical_name_well : (owner path : Name) → Well owner → Well path → Well (canonical_name owner path)
unfolding canonical_name
canonical_name_well owner path v w = either Well (is_empty path || same path owner) v (between owner (ascii ".") _ v dot_well (unowned owner path w))

-- ---- a name cut at its last `::`

-- the parts of a name that was cut at `::`
abbrev Cut : Name → Name × Name → Type 0
Cut n p = n ≡ p.0 ++ (ascii "::" ++ p.1)

-- the name is what stands before it, it, and what stands behind it
split_once : (n : Name) → Maybe (Cut n) (rsplit_once n)
unfolding rsplit_once
split_once [] = Maybe.none
split_once (x ∷ xs) = go (split_once xs)
  where
    here : {o : Option Name} → Maybe (λ r. ◌≡◌ {A = Name} (x ∷ xs) (ascii "::" ++ r)) o → Maybe (Cut (x ∷ xs)) (behind o)
    here Maybe.none = Maybe.none
    here (Maybe.some e) = Maybe.some e

    go : {o : Option (Name × Name)} → Maybe (Cut xs) o → Maybe (Cut (x ∷ xs)) (elim o [ none ↦ behind (strip_prefix (ascii "::") (x ∷ xs)) | some p ↦ some (x ∷ p.0, p.1) ])
    go Maybe.none = here (stripped (ascii "::") (x ∷ xs))
    go (Maybe.some e) = Maybe.some (ap (λ (n : Name). x ∷ n) e)

-- both parts are well-formed
abbrev pub BothWell : Name × Name → Type 0
BothWell p = Well p.0 × Well p.1

-- `rsplit_once("::")`: a colon is an ASCII byte, so what stands before and behind it is well-formed
pub rsplit_once_well : (n : Name) → Well n → Maybe BothWell (rsplit_once n)
rsplit_once_well n w = maybe_map (λ p e. cut p.0 p.1 (subst Well e w)) (split_once n)
  where
    cut : (a b : Name) → Well (a ++ (ascii "::" ++ b)) → Well a × Well b
    cut a b w = (well_before a 0x3A (0x3A ∷ b) (omega arith) w, well_behind [] 0x3A b (omega arith) (well_behind a 0x3A (0x3A ∷ b) (omega arith) w))

-- `alternate_owner_aliases`: the other keys of the registry
pub aliases_well : (path normal : Name) → Well path → All Well (alternate_owner_aliases path normal)
unfolding alternate_owner_aliases
aliases_well path normal w = go (rsplit_once_well path w)
  where
    go : {o : Option (Name × Name)} → Maybe BothWell o → All Well (alias_unless normal o)
    go Maybe.none = All.none
    go (Maybe.some {a} m) = either (All Well) (is_empty a.1 || same a.1 normal) All.none (All.more m.1 All.none)

-- `qualify_parent_path`: a path that is looked up
pub qualify_parent_path_well : (owner path : Name) → Well owner → Well path → Maybe Well (qualify_parent_path owner path)
unfolding qualify_parent_path
qualify_parent_path_well owner path v w = go (rsplit_once_well owner v)
  where
    go : {o : Option (Name × Name)} → Maybe BothWell o → Maybe Well (qualified path o)
    go Maybe.none = Maybe.none
    go (Maybe.some {a} m) = Maybe.some (between a.0 (ascii "::") path m.0 colons_well w)

-- ---- the paths of expressions

-- `path.join(".")`
pub join_well : {ps : List Name} → All Well ps → Well (join ps)
unfolding join
join_well All.none = empty_well
join_well (All.more p All.none) = p
join_well (All.more {x} p (All.more {x = y} {xs = ys} q a)) = between x (ascii ".") (join (y ∷ ys)) p dot_well (join_well (All.more q a))

-- a name without the dots at its end: itself, or what stands before a dot
data Trimmed (n t : Name) : Type 0 where
  whole : n ≡ t → Trimmed n t
  cut : (d : Name) → n ≡ t ++ (0x2E ∷ d) → Trimmed n t

-- so it is one of these
trimmed : (n : Name) → Trimmed n (trim_end n)
unfolding trim_end
trimmed [] = Trimmed.whole refl
trimmed (x ∷ xs) = go (is_empty (trim_end xs) && eqb x 0x2E) refl (trimmed xs)
  where
    more : {t : Name} → Trimmed xs t → Trimmed (x ∷ xs) (x ∷ t)
    more (Trimmed.whole e) = Trimmed.whole (ap (λ (n : Name). x ∷ n) e)
    more (Trimmed.cut d e) = Trimmed.cut d (ap (λ (n : Name). x ∷ n) e)

    go : (b : Bool) → (is_empty (trim_end xs) && eqb x 0x2E) ≡ b → Trimmed xs (trim_end xs) → Trimmed (x ∷ xs) (cond b [] (x ∷ trim_end xs))
    go true h s = Trimmed.cut xs (ap (λ (a : ℕ). a ∷ xs) (eqb-true x 0x2E (and_right (is_empty (trim_end xs)) _ h)))
    go false h s = more s

-- `trim_end_matches('.')`: what is left ends before a dot
pub trim_end_well : (n : Name) → Well n → Well (trim_end n)
trim_end_well n w = go (trimmed n)
  where
    go : {t : Name} → Trimmed n t → Well t
    go (Trimmed.whole e) = subst Well e w
    go {t} (Trimmed.cut d e) = well_before t 0x2E d (omega arith) (subst Well e w)

-- `extend_element_prefix`
pub extend_element_prefix_well : (prefix : Name) → Well prefix → Well (extend_element_prefix prefix)
extend_element_prefix_well prefix w = well_join prefix (ascii "element.") w element_well

-- `apply_path_prefix`: the path of a reference
pub apply_path_prefix_well : (prefix path : Name) → Well prefix → Well path → Well (apply_path_prefix prefix path)
unfolding apply_path_prefix
apply_path_prefix_well prefix path v w = either Well (is_empty prefix) w (either Well (is_empty path) (trim_end_well prefix v) (well_join prefix path v w))

-- ---- texts of nodes

-- the size text `owner:path`
pub ref_text_well : (owner path : Name) → Well owner → Well path → Well (ref_text owner path)
ref_text_well owner path v w = between owner (ascii ":") path v colon_well w

-- The name of an entry, and how long names and keys are. Assumes nothing.
use Prim.Native.Nat.{ℕ, ◌+◌, ◌≤◌}
use native.Mathlib.Omega.{arith}
use mathlib.Core.Path.{◌≡◌, refl, sym, ap, ap₂, ◌∙◌}
use mathlib.Core.Bool.{Bool, true, false}
use mathlib.Core.List.{List, ◌++◌}
use Rattle.std.specs.Prelude as std
use Rattle.std.specs.Prelude.{Some, None}
use lib.ListN.{length, drop, length-drop, length-append}
use Rattle.blocks.specs.Name.{Name, same}
use Rattle.builder.specs.Names.{is_some, strip_owner, normalize_path, canonical_name}
use Rattle.builder.specs.Registry.{Entry}
use Rattle.builder_names.specs.Views.{alone}
use Rattle.builder_names.proofs.Strip.{normal_same, normal_rest, normal_whole, dot_length}
use Rattle.builder_names.proofs.Canonical.{canonical_alone, canonical_rest}
use Rattle.builder_registry.specs.Word.{owner_at, path_at, made_of}
use Rattle.builder_registry.specs.Words.{held, flagged, made_derived, made_parameter, made_entry, entry_of, entry_name}
use Rattle.builder_registry.specs.Texts.{made_path, made_end, made_text, describing}
use Rattle.builder_registry.specs.declared.Made.{Made}
use Rattle.builder_registry.specs.declared.Made.TheVariants.{ComputedTag, Variant, PayloadSize}
use Rattle.builder_registry.proofs.Keys.{held_bound, entry_path, entry_made}

-- ---- lengths

-- the normal path is a part of the path
pub normal_part : (o p : Name) → (k : ℕ) × (normalize_path o p ≡ drop k p)
normal_part o p = go (same p o) refl (is_some (strip_owner o p)) refl
  where
    go : (b : Bool) → b ≡ same p o → (t : Bool) → t ≡ is_some (strip_owner o p) → (k : ℕ) × (normalize_path o p ≡ drop k p)
    go true e t f = (length p, normal_same o p true e refl)
    go false e true f = (length o + 1, normal_rest o p false e true refl f refl)
    go false e false f = (0, normal_whole o p false e false refl f refl)

-- so it is no longer
pub normal_short : (o p : Name) → length (normalize_path o p) ≤ length p
normal_short o p = let k = normal_part o p in omega (arith, ap length k.1, length-drop k.0 p)

-- the canonical name has the owner, a dot and the path at the most
pub canonical_short : (o p : Name) → length (canonical_name o p) ≤ length o + 1 + length p
canonical_short o p = go (alone o p) refl
  where
    go : (b : Bool) → b ≡ alone o p → length (canonical_name o p) ≤ length o + 1 + length p
    go true e = omega (arith, ap length (canonical_alone o p true e refl))
    go false e = omega (arith, ap length (canonical_rest o p false e refl), dot_length o (normalize_path o p), normal_short o p)

-- the path of a made parameter
pub made_short : (m : Made) → length (made_path m) ≤ 14
made_short ComputedTag = omega arith
made_short Variant = omega arith
made_short PayloadSize = omega arith

-- the end of its name
pub end_short : (m : Made) → length (made_end m) ≤ 13
end_short ComputedTag = omega arith
end_short Variant = omega arith
end_short PayloadSize = omega arith

-- its description
pub text_short : (m : Made) → length (made_text m) ≤ 80
text_short ComputedTag = omega arith
text_short Variant = omega arith
text_short PayloadSize = omega arith

-- only a computed tag is derived from the start
pub made_flagged : (m : Made) (o : Name) → flagged (made_derived m) (made_entry m o) ≡ made_entry m o
unfolding made_entry made_parameter
made_flagged m o = refl

-- ---- the name of an entry

module _ (s : List ℕ) (w : ℕ) where
  -- the name of a path is the canonical one
  pub name_path : made_of w ≡ None → entry_name s w ≡ canonical_name (held s (owner_at w)) (held s (path_at w))
  name_path e = ap (λ (y : Entry). y.parameter.name) (entry_path s w e)

  -- the name of a made parameter is the owner and the end
  pub name_made : (m : Made) → made_of w ≡ Some m → entry_name s w ≡ held s (owner_at w) ++ made_end m
  unfolding made_entry made_parameter
  name_made m e = ap (λ (y : Entry). y.parameter.name) (entry_made s w m e)

  -- the answers of `name_length`: r is what the word says of its made parameter, o its owner
  module _ {r : std.Option Made} (em : r ≡ made_of w) {o : Name} (f : o ≡ held s (owner_at w)) where
    -- a path: the canonical name is as long
    pub length_path : {p : Name} {k : ℕ} → p ≡ held s (path_at w) → r ≡ None → k ≡ length (canonical_name o p) → k ≡ length (entry_name s w)
    length_path g z e = e ∙ ap length (ap₂ canonical_name f g ∙ sym (name_path (sym em ∙ z)))

    -- a made parameter: the owner and the end are as long
    pub length_made : {m : Made} {t : Name} → r ≡ Some m → t ≡ made_end m → length o + length t ≡ length (entry_name s w)
    length_made {m} {t} z g =
        sym (length-append o t) ∙ ap length (ap₂ (λ (x y : Name). x ++ y) f g ∙ sym (name_made m (sym em ∙ z)))

-- ---- bounds that hold of every word

-- no entry's name has more than 511 bytes
pub entry_short : (s : List ℕ) (w : ℕ) → length (entry_name s w) ≤ 511
entry_short s w = go (made_of w) refl
  where
    go : (m : std.Option Made) → made_of w ≡ m → length (entry_name s w) ≤ 511
    go None h =
        omega (arith, ap length (name_path s w h), canonical_short (held s (owner_at w)) (held s (path_at w)), held_bound s (owner_at w) refl, held_bound s (path_at w) refl)
    go (Some m) h =
        omega (arith, ap length (name_made s w m h), length-append (held s (owner_at w)) (made_end m), end_short m, held_bound s (owner_at w) refl)

pub ruleset name_lengths = (length_path, length_made, entry_short, end_short)

-- ---- the description of an entry

-- what the code writes as the description
pub described : (s : List ℕ) (w : ℕ) → (entry_of s w).parameter.description ≡ describing (made_of w)
unfolding made_entry made_parameter
described s w = go (made_of w) refl
  where
    go : (m : std.Option Made) → made_of w ≡ m → (entry_of s w).parameter.description ≡ describing m
    go None h = ap (λ (y : Entry). y.parameter.description) (entry_path s w h)
    go (Some m) h = ap (λ (y : Entry). y.parameter.description) (entry_made s w m h)

-- A key of more than 255 bytes is in no entry. Assumes nothing.
use Prim.Native.Nat.{ℕ, suc, ◌+◌, ◌≤◌, ◌<◌}
use native.Mathlib.Omega.{arith}
use mathlib.Core.Path.{◌≡◌, refl, sym, ap, ◌∙◌}
use mathlib.Core.Bool.{Bool, true, false, ◌&&◌}
use mathlib.Core.List.{List, [], ◌∷◌, map}
use mathlib.Core.Option.{none}
use lib.ListN.{length, take, length-drop}
use Rattle.std.specs.Prelude as std
use Rattle.std.specs.Prelude.{Some, None}
use Rattle.blocks.specs.Name.{Name, same, among}
use Rattle.blocks.proofs.Name.{same_eq}
use Rattle.wire.proofs.Names.{same_long}
use Rattle.builder.specs.Names.{is_some, strip_owner, normalize_path, alternate_owner_aliases}
use Rattle.builder.specs.Registry.{Entry, keyed_by, find_key, mark, entry_of as path_entry}
use Rattle.builder_names.proofs.Strip.{normal_rest, normal_whole}
use Rattle.builder_names.proofs.Colons.{before_rest}
use Rattle.builder_names.proofs.Qualified.{not_alias}
use Rattle.builder_registry.specs.Word.{owner_at, path_at, made_of}
use Rattle.builder_registry.specs.Words.{held, made_entry, entry_of, entries_of}
use Rattle.builder_registry.specs.Texts.{made_path}
use Rattle.builder_registry.specs.declared.Made.{Made}
use Rattle.builder_registry.specs.Place.{place_of}
use Rattle.builder_registry.proofs.Keys.{held_bound, entry_path, entry_made}
use Rattle.builder_registry.proofs.Names.{normal_short, made_short}
use Rattle.builder_registry.proofs.Places.{find_none, mark_none}

-- ---- a long key

module _ (k : Name) (long : 255 < length k) where
  -- it is not a short name
  not_same : (n : Name) → length n ≤ 255 → same k n ≡ false
  not_same n h = sym (same_long k n (λ e. let z : ⊥ = omega arith in z))

  -- nor the alias of a short path
  not_short_alias : (p n : Name) → length p ≤ 255 → among k (alternate_owner_aliases p n) ≡ false
  not_short_alias p n h = not_alias [] k p n (sym (before_rest p 0 (length k) (omega arith)))

  -- nor a key of an entered path
  not_path : (o p : Name) → length p ≤ 255 → among k (path_entry o p).keys ≡ false
  unfolding among
  not_path o p h = rw (not_same (normalize_path o p) (omega (arith, normal_short o p))) (not_short_alias p (normalize_path o p) h)

  -- nor the key of a made parameter
  not_made : (m : Made) (o : Name) → among k (made_entry m o).keys ≡ false
  unfolding among made_entry
  not_made m o = rw (not_same (normalize_path o (made_path m)) (omega (arith, normal_short o (made_path m), made_short m)))

  -- nor a key of the entry that a word holds
  not_key : (s : List ℕ) (w : ℕ) → among k (entry_of s w).keys ≡ false
  not_key s w = go (made_of w) refl
    where
      go : (m : std.Option Made) → made_of w ≡ m → among k (entry_of s w).keys ≡ false
      go None h =
          ap (λ (y : Entry). among k y.keys) (entry_path s w h) ∙
          not_path (held s (owner_at w)) (held s (path_at w)) (held_bound s (path_at w) refl)
      go (Some m) h = ap (λ (y : Entry). among k y.keys) (entry_made s w m h) ∙ not_made m (held s (owner_at w))

  -- so no word's entry has it under any owner
  not_held : (o : Name) (s : List ℕ) (w : ℕ) → keyed_by o k (entry_of s w) ≡ false
  not_held o s w = ap (λ (b : Bool). same o (entry_of s w).owner && b) (not_key s w) ∙ go (same o (entry_of s w).owner)
    where
      go : (b : Bool) → (b && false) ≡ false
      go true = refl
      go false = refl

  -- and it has no place in any words
  nowhere : (o : Name) (s ws : List ℕ) → place_of o k (map (entry_of s) ws) ≡ length (map (entry_of s) ws)
  unfolding place_of
  nowhere o s [] = refl
  nowhere o s (w ∷ ws) = rw (not_held o s w) (ap suc (nowhere o s ws))

  module _ (o : Name) (s ws : List ℕ) (n : ℕ) where
    -- nothing is found in the first n words
    pub find_long : find_key o k (entries_of s ws n) ≡ none
    unfolding entries_of
    find_long = find_none o k (entries_of s ws n) (omega (arith, nowhere o s (take n ws)))

    -- and nothing is marked in them
    pub mark_long : mark o k (entries_of s ws n) ≡ entries_of s ws n
    unfolding entries_of
    mark_long = mark_none o k (entries_of s ws n) (omega (arith, nowhere o s (take n ws)))

-- the normal path of a long path is long
pub normal_long : (o p : Name) → length o ≤ 255 → 511 < length p → 255 < length (normalize_path o p)
normal_long o p h k = go (same p o) refl (is_some (strip_owner o p)) refl
  where
    go : (b : Bool) → b ≡ same p o → (t : Bool) → t ≡ is_some (strip_owner o p) → 255 < length (normalize_path o p)
    go true e t f = absurd (let z : ⊥ = omega (arith, ap length (same_eq p o (sym e))) in z)
    go false e true f = omega (arith, ap length (normal_rest o p false e true refl f refl), length-drop (length o + 1) p)
    go false e false f = omega (arith, ap length (normal_whole o p false e false refl f refl), length-drop 0 p)

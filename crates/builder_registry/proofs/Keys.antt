-- A word's names and its keys. Assumes nothing.
use Prim.Native.Nat.{ℕ, ◌+◌, ◌-◌, ◌≤◌, ◌<◌}
use native.Mathlib.Omega.{arith}
use mathlib.Core.Path.{◌≡◌, refl, sym, ap, ap₂, ◌∙◌}
use mathlib.Core.Bool.{Bool, true, false, not, ◌&&◌, cond}
use mathlib.Core.List.{List, [], ◌∷◌, ◌++◌}
use lib.Dec.{leb}
use lib.ListN.{length, take, drop, length-take}
use borrow.Author.Tests.{le-leb, lt-leb, leb-true, not-true}
use Rattle.std.specs.Prelude as std
use Rattle.std.specs.Prelude.{Some, None, IfSome}
use Rattle.blocks.specs.Bytes.{le2, name_at}
use Rattle.blocks.specs.Name.{Name, same, among}
use Rattle.blocks.proofs.Name.{same_eq}
use Rattle.builder.specs.Names.{is_empty, normalize_path, alternate_owner_aliases}
use Rattle.builder.specs.Registry.{Entry, keyed_by, entry_of as path_entry}
use Rattle.builder_names.specs.Views.{alias_of, colons_before}
use Rattle.builder_names.proofs.Colons.{aliases_are}
use Rattle.builder_names.proofs.Qualified.{or_false, not_alias}
use Rattle.builder_registry.specs.Word.{owner_at, path_at, made_of, derived_of}
use Rattle.builder_registry.specs.Words.{held, flagged, made_entry, entry_by, entry_of}
use Rattle.builder_registry.specs.Texts.{made_path}
use Rattle.builder_registry.specs.declared.Made.{Made}

-- ---- the name at an offset

module _ (s : List ℕ) (at : ℕ) where
  -- it is never longer than 255 bytes
  pub held_bound : {r : Name} → r ≡ held s at → length r ≤ 255
  unfolding held
  held_bound f = rw f (go (leb (at + 2 + le2 s at) (length s)) (leb (le2 s at) 255) refl)
    where
      go : (a b : Bool) → leb (le2 s at) 255 ≡ b → length (cond (a && b) (name_at s at) []) ≤ 255
      go false b h = omega arith
      go true false h = omega arith
      go true true h = omega (arith, leb-true (le2 s at) 255 h, length-take (le2 s at) (drop (at + 2) s))

  -- no room for its length: it is empty
  pub held_none : length s < at + 2 → [] ≡ held s at
  unfolding held
  held_none h = rw (lt-leb (at + 2 + le2 s at) (length s) (omega arith))

  module _ (n : ℕ) (e : n ≡ le2 s at) where
    -- it does not end inside: it is empty
    pub held_out : length s < at + 2 + n → [] ≡ held s at
    unfolding held
    held_out h = rw (← e, lt-leb (at + 2 + n) (length s) h)

    -- it is longer than any name of a set: it is empty
    pub held_long : at + 2 + n ≤ length s → 255 < n → [] ≡ held s at
    unfolding held
    held_long h k = rw (← e, le-leb (at + 2 + n) (length s) h, lt-leb n 255 k)

    -- it lies inside and is short: the name
    pub held_in : at + 2 + n ≤ length s → n ≤ 255 → take (at + 2 + n - (at + 2)) (drop (at + 2) s) ≡ held s at
    unfolding held
    held_in h k = let q : at + 2 + n - (at + 2) ≡ n = omega arith in rw (← e, le-leb (at + 2 + n) (length s) h, le-leb n 255 k, q)

  -- which is then no longer than 255 bytes
  pub held_short : (n : ℕ) → n ≤ 255 → length (take (at + 2 + n - (at + 2)) (drop (at + 2) s)) ≤ 255
  held_short n h = omega (arith, length-take (at + 2 + n - (at + 2)) (drop (at + 2) s))

-- the name at an offset that is known by another term
pub held_of : (s : List ℕ) {r : Name} {a b : ℕ} → r ≡ held s a → a ≡ b → r ≡ held s b
held_of s f e = f ∙ ap (held s) e

pub ruleset helds = (held_none, held_out, held_long, held_in, held_short)

-- ---- the keys of an entered path

module _ (o p h r n : Name) (e : n ≡ normalize_path o p) (b : Bool) (f : b ≡ same (h ++ r) n) where
  -- the answer of `path_has` where the normal path is the key
  pub keys_normal : b ≡ true → true ≡ among (h ++ r) (path_entry o p).keys
  unfolding among
  keys_normal g = let q : same (h ++ r) (normalize_path o p) ≡ true = ap (same (h ++ r)) (sym e) ∙ (sym f ∙ g) in rw q

  module _ (g : b ≡ false) where
    -- else the aliases decide
    keys_rest : among (h ++ r) (path_entry o p).keys ≡ among (h ++ r) (alternate_owner_aliases p n)
    unfolding among
    keys_rest =
        let q : same (h ++ r) (normalize_path o p) ≡ false = ap (same (h ++ r)) (sym e) ∙ (sym f ∙ g) in
        rw q (ap (λ (x : Name). among (h ++ r) (alternate_owner_aliases p x)) (sym e))

    -- no `::` stands where it would before the key: the key is not the alias
    pub keys_other : (t : Bool) → t ≡ colons_before (length h + length r) p → not t ≡ true → false ≡ among (h ++ r) (path_entry o p).keys
    keys_other t i j = sym (keys_rest ∙ not_alias h r p n (sym i ∙ not-true t j))

    module _ (a : Name) (i : a ≡ alias_of p n) where
      -- the one alias that there can be
      keys_one : among (h ++ r) (path_entry o p).keys ≡ among (h ++ r) (cond (is_empty a) [] (a ∷ []))
      keys_one = keys_rest ∙ ap (among (h ++ r)) (aliases_are p n ∙ ap (λ (x : Name). cond (is_empty x) [] (x ∷ [])) (sym i))

      -- there is none
      pub keys_none : length a ≡ 0 → false ≡ among (h ++ r) (path_entry o p).keys
      unfolding among
      keys_none l = sym (keys_one ∙ go a l)
        where
          go : (a : Name) → length a ≡ 0 → among (h ++ r) (cond (is_empty a) [] (a ∷ [])) ≡ false
          go [] l = refl
          go (x ∷ xs) l = absurd (let z : ⊥ = omega arith in z)

      -- there is one
      pub keys_alias : (t : Bool) → (length a ≡ 0 → ⊥) → t ≡ same (h ++ r) a → t ≡ among (h ++ r) (path_entry o p).keys
      unfolding among
      keys_alias t l j = j ∙ sym (keys_one ∙ go a l)
        where
          go : (a : Name) → (length a ≡ 0 → ⊥) → among (h ++ r) (cond (is_empty a) [] (a ∷ [])) ≡ same (h ++ r) a
          go [] l = absurd (l refl)
          go (x ∷ xs) l = or_false (same (h ++ r) (x ∷ xs))

pub ruleset entered_keys = (keys_normal, keys_other, keys_none, keys_alias)

-- ---- what a word holds

module _ (s : List ℕ) (w : ℕ) where
  -- the owner of the entry that a word holds
  pub owner_is : (entry_of s w).owner ≡ held s (owner_at w)
  unfolding entry_of made_entry
  owner_is = go (made_of w)
    where
      go : (m : std.Option Made) → (entry_by (held s (owner_at w)) (held s (path_at w)) m).owner ≡ held s (owner_at w)
      go None = refl
      go (Some m) = refl

  -- the entry of a word that holds a path
  pub entry_path : made_of w ≡ None → entry_of s w ≡ flagged (derived_of w) (path_entry (held s (owner_at w)) (held s (path_at w)))
  unfolding entry_of
  entry_path e = rw e

  -- the entry of a word that holds a made parameter
  pub entry_made : (m : Made) → made_of w ≡ Some m → entry_of s w ≡ flagged (derived_of w) (made_entry m (held s (owner_at w)))
  unfolding entry_of
  entry_made m e = rw e

  module _ (o k : Name) (t : Bool) (e : t ≡ same o (held s (owner_at w))) where
    -- the answer of `has_key` for another owner
    pub word_other : t ≡ false → false ≡ keyed_by o k (entry_of s w)
    word_other h = let q : same o (entry_of s w).owner ≡ false = ap (same o) owner_is ∙ (sym e ∙ h) in rw q

    module _ (h : t ≡ true) where
      -- of the same owner, the keys decide
      keys_of : keyed_by o k (entry_of s w) ≡ among k (entry_of s w).keys
      keys_of = let q : same o (entry_of s w).owner ≡ true = ap (same o) owner_is ∙ (sym e ∙ h) in rw q

      -- and the owner that is looked for is that of the word
      owner_same : held s (owner_at w) ≡ o
      owner_same = sym (same_eq o (held s (owner_at w)) (sym e ∙ h))

      -- the answer of `has_key` for a path, where r is what the word says of its made parameter
      pub word_path : {r : std.Option Made} {p : Name} {b : Bool} → r ≡ made_of w → r ≡ None → p ≡ held s (path_at w) →
          b ≡ among k (path_entry o p).keys → b ≡ keyed_by o k (entry_of s w)
      word_path em z f g =
          g ∙
          sym (keys_of ∙ (ap (λ (y : Entry). among k y.keys) (entry_path (sym em ∙ z)) ∙ ap₂ (λ (y z : Name). among k (path_entry y z).keys) owner_same (sym f)))

      -- its answer for a made parameter
      pub word_made : {r : std.Option Made} {m : Made} {b : Bool} → r ≡ made_of w → r ≡ Some m → b ≡ same k (normalize_path o (made_path m)) →
          b ≡ keyed_by o k (entry_of s w)
      unfolding among made_entry
      word_made {m = m} em z g =
          g ∙
          sym (keys_of ∙ (ap (λ (y : Entry). among k y.keys) (entry_made m (sym em ∙ z)) ∙
          (or_false (same k (normalize_path (held s (owner_at w)) (made_path m))) ∙
          ap (λ (y : Name). same k (normalize_path y (made_path m))) owner_same)))

pub ruleset word_keys = (word_other, word_path, word_made)

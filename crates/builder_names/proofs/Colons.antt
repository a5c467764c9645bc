-- The last `::` of a name, and the alias of a path. Assumes nothing.
use Prim.Native.Nat.{ℕ, zero, suc, ◌+◌, ◌-◌, ◌≤◌, ◌<◌}
use native.Mathlib.Omega.{arith}
use native.Mathlib.Numerals.{add-one}
use native.Mathlib.Nat.{not-suc-le-zero}
use mathlib.Core.Path.{◌≡◌, refl, sym, ap, ap₂, ◌∙◌}
use mathlib.Core.Bool.{Bool, true, false, cond, ◌&&◌, ◌||◌}
use mathlib.Core.List.{[], ◌∷◌, ◌++◌, append-nil}
use mathlib.Core.Option.{Option, some, none}
use lib.Dec.{eqb}
use lib.ListN.{length, take, drop, get_or, length-drop, drop_of_length-le}
use lib.Seq.{drop-length, length-take-le, drop-cons, drop-drop}
use borrow.Author.Tests.{eq-eqb, ne_eqb, le-leb, lt-leb}
use Rattle.blocks.specs.Name.{Name, ascii, same}
use Rattle.blocks.proofs.Name.{false_true}
use Rattle.wire.proofs.Names.{eqb_comm}
use Rattle.builder.specs.Names.{is_empty, is_some, strip_prefix, rsplit_once, behind, alias_unless, alternate_owner_aliases}
use Rattle.builder_names.specs.Views.{colons, colons_before, place, Parts, first, alias_of}
use Rattle.std.specs.Prelude.{Some, None}
use Rattle.builder_names.proofs.Strip.{none_some, prefix_is, prefix_some, rest_part}

-- ---- `::` in a name

-- the two bytes at a place
pub two : (s : Name) (i : ℕ) → i + 2 ≤ length s → drop i s ≡ get_or s i 0 ∷ (get_or s (i + 1) 0 ∷ drop (i + 2) s)
two s i h =
    let e : suc (suc i) ≡ i + 2 = omega arith in
    drop-cons s i 0 (omega arith) ∙ ap (λ (m : Name). get_or s i 0 ∷ m) (drop-cons s (suc i) 0 (omega arith) ∙ rw (add-one, e) refl)

module _ (s : Name) (i : ℕ) where
  -- no room for two bytes
  pub no_room : i < length s → length s ≤ i + 1 → false ≡ colons (drop i s)
  no_room h l = rw (drop-cons s i 0 h, drop_of_length-le s {i = suc i} (omega arith)) refl

  -- the first byte is another
  pub no_colon : i + 1 < length s → (get_or s i 0 ≡ 0x3A → ⊥) → false ≡ colons (drop i s)
  no_colon h f = rw (two s i (omega arith), ne_eqb (get_or s i 0) 0x3A f) refl

  -- the first byte is a colon: the second decides
  pub colon : i + 1 < length s → get_or s i 0 ≡ 0x3A → eqb (get_or s (i + 1) 0) 0x3A ≡ colons (drop i s)
  colon h f = rw (two s i (omega arith), eq-eqb (get_or s i 0) 0x3A f) refl

pub ruleset colon_tests = (no_room, no_colon, colon)

module _ (s : Name) (h r : ℕ) where
  -- `colons_before`: the rest alone is longer than the name
  pub before_rest : length s < r → false ≡ colons_before (h + r) s
  unfolding colons_before
  before_rest l = rw (lt-leb (h + r + 2) (length s) (omega arith)) refl

  module _ (a : ℕ) (e : a ≡ length s - r) (k : r ≤ length s) where
    -- the head and the rest are
    pub before_head : a < h → false ≡ colons_before (h + r) s
    unfolding colons_before
    before_head l = rw (lt-leb (h + r + 2) (length s) (omega arith)) refl

    module _ (b : ℕ) (f : b ≡ a - h) (m : h ≤ a) where
      -- there is no room for `::` before them
      pub before_none : b < 2 → false ≡ colons_before (h + r) s
      unfolding colons_before
      before_none l = rw (lt-leb (h + r + 2) (length s) (omega arith)) refl

      -- the test at that place decides
      pub before_at : (t : Bool) → 2 ≤ b → t ≡ colons (drop (b - 2) s) → t ≡ colons_before (h + r) s
      unfolding colons_before
      before_at t l g = let q : b - 2 ≡ length s - (h + r + 2) = omega arith in rw (le-leb (h + r + 2) (length s) (omega arith), ← q) g

pub ruleset befores = (before_rest, before_head, before_none, before_at)

-- the definition's test for `::`, by `strip_prefix`, is the test of two bytes
prefix_colons : (s : Name) → is_some (strip_prefix (ascii "::") s) ≡ colons s
unfolding strip_prefix
prefix_colons [] = refl
prefix_colons (x ∷ []) = go (eqb 0x3A x)
  where
    go : (b : Bool) → is_some {A = Name} (elim b [ true ↦ none | false ↦ none ]) ≡ false
    go true = refl
    go false = refl
prefix_colons (x ∷ (y ∷ ys)) = go (eqb 0x3A x) (eqb 0x3A y) ∙ ap₂ ◌&&◌ (eqb_comm 0x3A x) (eqb_comm 0x3A y)
  where
    go : (a b : Bool) → is_some {A = Name} (elim a [ true ↦ elim b [ true ↦ some ys | false ↦ none ] | false ↦ none ]) ≡ (a && b)
    go true true = refl
    go true false = refl
    go false b = refl

-- ---- the last `::`

-- what stands before a place goes to the first part
split_before : (i : ℕ) (s a b : Name) → rsplit_once (drop i s) ≡ some (a, b) → rsplit_once s ≡ some (take i s ++ a, b)
unfolding rsplit_once
split_before zero s a b e = e
split_before (suc i) [] a b e = none_some e
split_before (suc i) (x ∷ xs) a b e = rw (split_before i xs a b e, rsplit_once)

module _ (s : Name) where
  -- where there is no `::` from j + 1 on, the test at j decides
  split_step : (j : ℕ) → j < length s → rsplit_once (drop (suc j) s) ≡ none → rsplit_once (drop j s) ≡ behind (strip_prefix (ascii "::") (drop j s))
  unfolding rsplit_once
  split_step j h e = rw (drop-cons s j 0 h, e, rsplit_once)

  -- a last `::` at j parts the name there
  split_is : (j : ℕ) → rsplit_once (drop j s) ≡ behind (strip_prefix (ascii "::") (drop j s)) → colons (drop j s) ≡ true →
      rsplit_once s ≡ some (take j s, drop (j + 2) s)
  split_is j e h =
      split_before j s [] (drop 2 (drop j s)) (e ∙ ap behind (prefix_some (ascii "::") (drop j s) (prefix_colons (drop j s) ∙ h))) ∙
      rw (append-nil, drop-drop 2 j s)

  -- a `::` has two bytes
  split_long : (j : ℕ) → colons (drop j s) ≡ true → j + 2 ≤ length s
  split_long j h = omega (arith, ap length (prefix_is (ascii "::") (drop j s) (prefix_colons (drop j s) ∙ h)), length-drop j s)

  module _ (i : ℕ) (p : 0 < i) (l : i ≤ length s) (e : rsplit_once (drop i s) ≡ none) (b : Bool) (f : b ≡ colons (drop (i - 1) s)) where
    -- one turn of the loop of `last_colons`
    step : rsplit_once (drop (i - 1) s) ≡ behind (strip_prefix (ascii "::") (drop (i - 1) s))
    step = let q : suc (i - 1) ≡ i = omega arith in split_step (i - 1) (omega arith) (rw q e)

    -- no `::` here: there is none from here on
    pub split_more : b ≡ false → rsplit_once (drop (i - 1) s) ≡ none
    split_more h = step ∙ go (strip_prefix (ascii "::") (drop (i - 1) s)) (prefix_colons (drop (i - 1) s) ∙ sym f ∙ h)
      where
        go : (t : Option Name) → is_some t ≡ false → behind t ≡ none
        go none g = refl
        go (some r) g = false_true (sym g)

    -- a `::` here lies inside the name
    pub split_fits : b ≡ true → i - 1 + 2 ≤ length s
    split_fits h = split_long (i - 1) (sym f ∙ h)

    -- and parts the name
    pub split_found : b ≡ true → rsplit_once s ≡ some (take (i - 1) s, drop (i - 1 + 2) s)
    split_found h = split_is (i - 1) step (sym f ∙ h)

    -- and its place is the answer
    pub place_found : b ≡ true → Some (i - 1) ≡ place (rsplit_once s)
    place_found h = rw (split_found h, length-take-le (i - 1) s (omega arith))

-- behind the last byte there is no `::`
pub split_start : (s : Name) → rsplit_once (drop (length s) s) ≡ none
unfolding rsplit_once
split_start s = rw drop-length

-- the loop came to the first byte: there is none
pub split_missing : (s : Name) (i : ℕ) → i ≤ 0 → rsplit_once (drop i s) ≡ none → rsplit_once s ≡ none
split_missing s zero h e = e
split_missing s (suc i) h e = absurd (not-suc-le-zero h)

-- and the answer is none
pub place_missing : (s : Name) (i : ℕ) → i ≤ 0 → rsplit_once (drop i s) ≡ none → None ≡ place (rsplit_once s)
place_missing s i h e = rw (split_missing s i h e)

pub ruleset splits = (split_start, split_more, split_fits, split_found, place_found, split_missing, place_missing)

-- ---- the alias of a path

module _ (p n : Name) where
  -- a path without `::` has no alias
  pub alias_none : Parts p None → alias_of p n ≡ []
  unfolding alias_of alternate_owner_aliases
  alias_none w = rw w

  -- a path with it: what stands behind it decides
  module _ (i : ℕ) (w : Parts p (Some i)) where
    -- that is the normal path: there is no alias
    pub alias_same : same (drop (i + 2) p) n ≡ true → alias_of p n ≡ []
    unfolding alias_of alternate_owner_aliases
    alias_same h = rw w.1 (go (drop (i + 2) p) h)
      where
        go : (d : Name) → same d n ≡ true → first (cond (is_empty d || same d n) [] (d ∷ [])) ≡ []
        go [] q = refl
        go (y ∷ ys) q = rw q

    -- else it is the alias
    pub alias_rest : same (drop (i + 2) p) n ≡ false → alias_of p n ≡ drop (i + 2) p
    unfolding alias_of alternate_owner_aliases
    alias_rest h = rw w.1 (go (drop (i + 2) p) h)
      where
        go : (d : Name) → same d n ≡ false → first (cond (is_empty d || same d n) [] (d ∷ [])) ≡ d
        go [] q = refl
        go (y ∷ ys) q = rw q

  -- the aliases are the one, where it is not empty
  pub aliases_are : alternate_owner_aliases p n ≡ cond (is_empty (alias_of p n)) [] (alias_of p n ∷ [])
  unfolding alias_of alternate_owner_aliases
  aliases_are = go (rsplit_once p)
    where
      all : (d : Name) (t : Bool) →
          cond (is_empty d || t) [] (d ∷ []) ≡ cond (is_empty (first (cond (is_empty d || t) [] (d ∷ [])))) [] (first (cond (is_empty d || t) [] (d ∷ [])) ∷ [])
      all [] t = refl
      all (y ∷ ys) true = refl
      all (y ∷ ys) false = refl

      go : (t : Option (Name × Name)) → alias_unless n t ≡ cond (is_empty (first (alias_unless n t))) [] (first (alias_unless n t) ∷ [])
      go none = refl
      go (some q) = all q.1 (same q.1 n)

pub ruleset aliases = (alias_none, alias_same, alias_rest, rest_part)

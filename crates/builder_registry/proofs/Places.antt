-- The place of a path in the registry, and what is found there. Assumes nothing.
use Prim.Native.Nat.{ℕ, suc, ◌+◌, ◌≤◌, ◌<◌}
use native.Mathlib.Omega.{arith}
use native.Mathlib.Nat.{add-zero}
use native.Mathlib.Numerals.{add-one}
use mathlib.Core.Path.{◌≡◌, refl, sym, ap, ◌∙◌}
use mathlib.Core.Bool.{Bool, true, false, cond}
use mathlib.Core.List.{List, [], ◌∷◌}
use mathlib.Core.Option.{Option, some, none}
use lib.ListN.{length, take, drop, get_or, set, length-map, get_or-map, drop_of_length-le}
use lib.Seq.{drop-cons, get_or-take, length-take-le}
use lib.Dec.{ltb}
use borrow.Author.Tests.{lt-ltb, le-ltb, ltb-true, ltb-false}
use Rattle.std.specs.Prelude as std
use Rattle.std.specs.Prelude.{Some, None}
use Rattle.std.proofs.lemmas.Option.{cond_some, none-some}
use Rattle.blocks.specs.Name.{Name}
use Rattle.builder.specs.Names.{normalize_path}
use Rattle.builder.specs.Registry.{Entry, Registry, keyed_by, find_key, parameter_name, lookup_name, derived_entry, mark}
use Rattle.builder.specs.Nodes.{lookup_qualified}
use Rattle.builder_names.specs.Views.{key_of}
use Rattle.builder_names.proofs.Strip.{none_some}
use Rattle.builder_registry.specs.Words.{entry_of, entries_of, Looked}
use Rattle.builder_registry.specs.Place.{place_of, found_at, found_in}

-- ---- the entries in the words

module _ (s ws : List ℕ) (n : ℕ) (fit : n ≤ length ws) where
  -- n words hold n entries
  pub entries_length : length (entries_of s ws n) ≡ n
  unfolding entries_of
  entries_length = length-map (take n ws) (entry_of s) ∙ length-take-le n ws fit

  -- the entry at i is that of the word at i
  pub entry_at : (i : ℕ) → i < n → get_or (entries_of s ws n) i (entry_of s 0) ≡ entry_of s (get_or ws i 0)
  unfolding entries_of
  entry_at i l = rw (get_or-map (entry_of s) (take n ws) i 0, get_or-take n ws i 0 l)

  -- from i on: the entry at i, and those behind it
  pub entries_from : (i : ℕ) → i < n → drop i (entries_of s ws n) ≡ entry_of s (get_or ws i 0) ∷ drop (i + 1) (entries_of s ws n)
  entries_from i l = rw (add-one, drop-cons (entries_of s ws n) i (entry_of s 0) (rw entries_length l), entry_at i l)

  -- from n on there is none
  pub entries_end : (i : ℕ) → n ≤ i → drop i (entries_of s ws n) ≡ []
  entries_end i h = drop_of_length-le (entries_of s ws n) {i = i} (omega (arith, entries_length))

  -- ---- none of the entries before i has the key
  module _ (o x : Name) (i : ℕ) (e : place_of o x (entries_of s ws n) ≡ i + place_of o x (drop i (entries_of s ws n))) where
    -- nor has any other: the place is n
    pub place_end : n ≤ i → i ≤ n → n ≡ place_of o x (entries_of s ws n)
    unfolding place_of
    place_end h k = let q : i ≡ n = omega arith in sym (e ∙ rw (entries_end i h, add-zero, q))

    module _ (l : i < n) (b : Bool) (f : b ≡ keyed_by o x (entry_of s (get_or ws i 0))) where
      -- the entry at i has it: the place is i
      pub place_here : b ≡ true → i ≡ place_of o x (entries_of s ws n)
      unfolding place_of
      place_here h = sym (e ∙ rw (entries_from i l, ← f, h, add-zero))

      -- it has another: the place is behind it
      pub place_more : b ≡ false → place_of o x (entries_of s ws n) ≡ i + 1 + place_of o x (drop (i + 1) (entries_of s ws n))
      unfolding place_of
      place_more h = e ∙ rw (entries_from i l, ← f, h) (omega arith)

pub ruleset places = (place_end, place_here, place_more)

-- ---- what stands at the place

-- What holds of every search for a key holds where nothing is left, where the first entry has the key, and, where it has
-- another, of the entries behind it.
pub by_place : (o q : Name) (P : Registry → ℕ → Type 0) → P [] 0 →
    ((e : Entry) (es : Registry) → keyed_by o q e ≡ true → P (e ∷ es) 0) →
    ((e : Entry) (es : Registry) (i : ℕ) → keyed_by o q e ≡ false → P es i → P (e ∷ es) (suc i)) →
    (es : Registry) → P es (place_of o q es)
unfolding place_of
by_place o q P a b c [] = a
by_place o q P a b c (e ∷ es) = go (keyed_by o q e) refl (by_place o q P a b c es)
  where
    go : (t : Bool) → keyed_by o q e ≡ t → P es (place_of o q es) → P (e ∷ es) (cond t 0 (suc (place_of o q es)))
    go true h ih = b e es h
    go false h ih = c e es (place_of o q es) h ih

module _ (o q : Name) where
  -- the first entry's key decides what is found
  find_next : (e : Entry) (es : Registry) {t : Bool} → keyed_by o q e ≡ t →
      find_key o q (e ∷ es) ≡ elim t [ true ↦ some e.parameter | false ↦ find_key o q es ]
  unfolding find_key
  find_next e es h = ap (λ (t : Bool). elim t [ true ↦ some e.parameter | false ↦ find_key o q es ]) h

  -- and what is marked
  mark_next : (e : Entry) (es : Registry) {t : Bool} → keyed_by o q e ≡ t →
      mark o q (e ∷ es) ≡ cond t (derived_entry e ∷ es) (e ∷ mark o q es)
  unfolding mark
  mark_next e es h = ap (λ (t : Bool). cond t (derived_entry e ∷ es) (e ∷ mark o q es)) h

  -- the key is that of the entry at the place
  find_at : (d : Entry) (es : Registry) → place_of o q es < length es →
      find_key o q es ≡ some (get_or es (place_of o q es) d).parameter
  find_at d =
      by_place o q (λ es i. i < length es → find_key o q es ≡ some (get_or es i d).parameter)
      (λ l. absurd (let z : ⊥ = omega arith in z))
      (λ e es h l. find_next e es h)
      (λ e es i h ih l. find_next e es h ∙ ih (omega arith))

  -- no entry has the key
  pub find_none : (es : Registry) → length es ≤ place_of o q es → find_key o q es ≡ none
  unfolding find_key
  find_none =
      by_place o q (λ es i. length es ≤ i → find_key o q es ≡ none)
      (λ l. refl)
      (λ e es h l. absurd (let z : ⊥ = omega arith in z))
      (λ e es i h ih l. find_next e es h ∙ ih (omega arith))

  -- the mark is set in the entry at the place
  mark_at : (d : Entry) (es : Registry) → place_of o q es < length es →
      mark o q es ≡ set es (place_of o q es) (derived_entry (get_or es (place_of o q es) d))
  mark_at d =
      by_place o q (λ es i. i < length es → mark o q es ≡ set es i (derived_entry (get_or es i d)))
      (λ l. absurd (let z : ⊥ = omega arith in z))
      (λ e es h l. mark_next e es h)
      (λ e es i h ih l. mark_next e es h ∙ ap (λ (r : Registry). e ∷ r) (ih (omega arith)))

  -- no mark is set
  pub mark_none : (es : Registry) → length es ≤ place_of o q es → mark o q es ≡ es
  unfolding mark
  mark_none =
      by_place o q (λ es i. length es ≤ i → mark o q es ≡ es)
      (λ l. refl)
      (λ e es h l. absurd (let z : ⊥ = omega arith in z))
      (λ e es i h ih l. mark_next e es h ∙ ap (λ (r : Registry). e ∷ r) (ih (omega arith)))

  -- the place is that of an entry, or behind them
  pub place_within : (g : Registry) → place_of o q g ≤ length g
  place_within = by_place o q (λ es i. i ≤ length es) (omega arith) (λ e es h. omega arith) (λ e es i h ih. omega arith)

-- ---- what the answer r of a search says

module _ (o k : Name) (g : Registry) where
  -- where an entry has the key, its place is the answer
  pub found_some : place_of o k g < length g → found_at o k g ≡ Some (place_of o k g)
  unfolding found_at
  found_some h = rw (lt-ltb (place_of o k g) (length g) h) refl

  -- else there is none
  pub found_nothing : length g ≤ place_of o k g → found_at o k g ≡ None
  unfolding found_at
  found_nothing h = rw (le-ltb (place_of o k g) (length g) h) refl

  -- an answer is the place of an entry
  at_place : {i : ℕ} → found_at o k g ≡ Some i → (i ≡ place_of o k g) × (i < length g)
  unfolding found_at
  at_place {i} e =
      let q = cond_some (ltb (place_of o k g) (length g)) (place_of o k g) i e in
      (sym q.1, omega (arith, ltb-true (place_of o k g) (length g) q.0, q.1))

  -- no answer: the place is behind them
  at_end : found_at o k g ≡ None → length g ≤ place_of o k g
  at_end e = go (ltb (place_of o k g) (length g)) refl
    where
      go : (b : Bool) → ltb (place_of o k g) (length g) ≡ b → length g ≤ place_of o k g
      go true h = absurd (none-some _ (sym e ∙ found_some (ltb-true (place_of o k g) (length g) h)))
      go false h = ltb-false (place_of o k g) (length g) h

module _ (s ws : List ℕ) (n : ℕ) (fit : n ≤ length ws) (o k : Name) {r : std.Option ℕ} (e : r ≡ found_at o k (entries_of s ws n)) where
  -- no entry has the key: it is not found, and nothing is marked
  pub found_none : r ≡ None → find_key o k (entries_of s ws n) ≡ none
  found_none z = find_none o k (entries_of s ws n) (at_end o k (entries_of s ws n) (sym e ∙ z))

  pub marked_none : r ≡ None → mark o k (entries_of s ws n) ≡ entries_of s ws n
  marked_none z = mark_none o k (entries_of s ws n) (at_end o k (entries_of s ws n) (sym e ∙ z))

  -- its place is behind them
  pub none_place : r ≡ None → n ≡ place_of o k (entries_of s ws n)
  none_place z =
      omega (arith, at_end o k (entries_of s ws n) (sym e ∙ z), place_within o k (entries_of s ws n), entries_length s ws n fit)

  module _ {i : ℕ} (z : r ≡ Some i) where
    -- the entry at i has it: that is its place
    pub some_place : i ≡ place_of o k (entries_of s ws n)
    some_place = (at_place o k (entries_of s ws n) (sym e ∙ z)).0

    -- among the n entries
    pub some_within : i < n
    some_within = omega (arith, (at_place o k (entries_of s ws n) (sym e ∙ z)).1, entries_length s ws n fit)

    -- the key is found in that entry
    pub found_entry : find_key o k (entries_of s ws n) ≡ some (entry_of s (get_or ws i 0)).parameter
    found_entry =
        find_at o k (entry_of s 0) (entries_of s ws n) (omega (arith, some_place, some_within, entries_length s ws n fit)) ∙
        rw (← some_place, entry_at s ws n fit i some_within)

    -- the mark is set in it
    pub marked_at : mark o k (entries_of s ws n) ≡ set (entries_of s ws n) i (derived_entry (entry_of s (get_or ws i 0)))
    marked_at =
        mark_at o k (entry_of s 0) (entries_of s ws n) (omega (arith, some_place, some_within, entries_length s ws n fit)) ∙
        rw (← some_place, entry_at s ws n fit i some_within)

  -- so a lookup of a path with this key gives the name of that entry, or none
  pub looked : (x : Option Name) → key_of o x ≡ some k → Looked s ws n r (lookup_qualified o x (entries_of s ws n))
  unfolding lookup_name
  looked none q = none_some q
  looked (some p) q = let z : normalize_path o p ≡ k = cc in rw z (go r refl)
    where
      go : (f : std.Option ℕ) → r ≡ f → Looked s ws n f (parameter_name (find_key o k (entries_of s ws n)))
      go None h = rw (found_none h) Looked.missing
      go (Some i) h = rw (found_entry h) (Looked.at (some_within h))

  -- and this is its place
  pub looked_in : (x : Option Name) → key_of o x ≡ some k → r ≡ found_in o x (entries_of s ws n)
  looked_in none q = none_some q
  looked_in (some p) q = let z : normalize_path o p ≡ k = cc in rw z e

-- where there is no path to look for, nothing is found
pub looked_nothing : (s ws : List ℕ) (n : ℕ) (o : Name) (x : Option Name) → x ≡ none → Looked s ws n None (lookup_qualified o x (entries_of s ws n))
looked_nothing s ws n o x e = rw e Looked.missing

pub nothing_in : (s ws : List ℕ) (n : ℕ) (o : Name) (x : Option Name) → x ≡ none → None ≡ found_in o x (entries_of s ws n)
nothing_in s ws n o x e = rw e refl

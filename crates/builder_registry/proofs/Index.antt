-- The index of the entries: the marks of their slots, what stays of it as the words change, and that the first entry for a key is
-- found by it. Assumes nothing.
use Prim.Native.Nat.{ℕ, zero, suc, ◌+◌, ◌-◌, ◌*◌, ◌/◌, ◌%◌, ◌≤◌, ◌<◌}
use native.Mathlib.Omega.{arith}
use Rattle.std.specs.Prelude as std
use Rattle.std.specs.Prelude.{Some, None, IfSome, is_some}
use mathlib.Core.Path.{◌≡◌, refl, sym, ap, ap₂, ◌∙◌}
use mathlib.Core.Bool.{Bool, true, false, ◌&&◌, ◌||◌, cond}
use mathlib.Core.List.{List, [], ◌∷◌, ◌++◌, map, append-nil}
use lib.Dec.{eqb, leb, ltb}
use lib.ListN.{length, take, drop, get_or, set, length-set, length-drop, drop_of_length-le}
use lib.Seq.{take_all, take-take, take-set-le, drop-set-lt, drop_at, length-take-le, get_or-take, get_or-set_same, get_or-set_other}
use borrow.Rule.Slice.PartMut.{put_mid, take_put, same_len_mid}
use borrow.Author.Tests.{eqb-true, eqb-false, leb-true, leb-false, lt-ltb, le-ltb}
use Rattle.marks.specs.Mark.{mark_of}
use Rattle.marks.specs.Table.{Linked, Table, Prior}
use Rattle.marks.proofs.Marks.{mark_append}
use Rattle.marks.proofs.Tables.{linked_over, linked_marks}
use Rattle.marks.proofs.Walks.{Walk, walk_last, walk_before, walk_end, walk_more}
use Rattle.blocks.specs.Name.{Name, same, among}
use Rattle.blocks.proofs.Name.{false_true, and_left, and_right, same_refl, same_eq}
use Rattle.builder.specs.Names.{is_empty, normalize_path}
use Rattle.builder.specs.Registry.{Entry, Registry, keyed_by}
use Rattle.builder_names.specs.Views.{alias_of}
use Rattle.builder_names.proofs.Colons.{aliases_are}
use Rattle.builder_names.proofs.Qualified.{or_false}
use Rattle.builder_registry.specs.declared.Made.{Made}
use Rattle.builder_registry.specs.Word.{owner_at, path_at, made_of, word_of, derived_word}
use Rattle.builder_registry.specs.Texts.{made_path}
use Rattle.builder_registry.specs.Words.{held, made_entry, entry_by, entry_of, entries_of, path_by, alias_by}
use Rattle.builder_registry.specs.Words.{key_in, alias_in, owner_mark, key_mark, alias_mark, slot_of, slot_mark, Indexed, Sought, Marked, AliasIs, Linking}
use Rattle.builder_registry.specs.Place.{place_of, found_at}
use Rattle.builder_registry.proofs.Word.{word_owner, word_path, word_made, still_owner, still_path, still_made}
use Rattle.builder_registry.proofs.Keys.{owner_is}
use Rattle.builder_registry.proofs.Places.{entries_length, entry_at, by_place, found_some, found_nothing, none_place, some_place, some_within}

-- ---- the keys of the entry that a word holds

-- those of a path, or of a made parameter
keys_by : (m : std.Option Made) (o p : Name) →
    (entry_by o p m).keys ≡
    normalize_path o (path_by p m) ∷
    cond (is_empty (alias_by p (normalize_path o (path_by p m)) m)) [] (alias_by p (normalize_path o (path_by p m)) m ∷ [])
unfolding made_entry
keys_by None o p = ap (λ (x : List Name). normalize_path o p ∷ x) (aliases_are p (normalize_path o p))
keys_by (Some m) o p = refl

-- the first key, and the alias where there is one
keys_are : (s : List ℕ) (w : ℕ) → (entry_of s w).keys ≡ key_in s w ∷ cond (is_empty (alias_in s w)) [] (alias_in s w ∷ [])
unfolding entry_of key_in alias_in
keys_are s w = keys_by (made_of w) (held s (owner_at w)) (held s (path_at w))

-- ---- the marks of slots

module _ (s ws : List ℕ) (e : ℕ) where
  -- the first slot of an entry has the mark of its normal path
  slot_first : slot_mark s ws (2 * e) ≡ key_mark (held s (owner_at (get_or ws e 0))) (key_in s (get_or ws e 0))
  unfolding slot_mark slot_of
  slot_first = let q : 2 * e / 2 ≡ e = omega arith in let r : 2 * e % 2 ≡ 0 = omega arith in rw (q, r)

  -- the second that of its alias
  slot_second : slot_mark s ws (2 * e + 1) ≡ alias_mark (entries_of s ws e) (held s (owner_at (get_or ws e 0))) (alias_in s (get_or ws e 0))
  unfolding slot_mark slot_of
  slot_second = let q : (2 * e + 1) / 2 ≡ e = omega arith in let r : (2 * e + 1) % 2 ≡ 1 = omega arith in rw (q, r)

-- ---- words that begin alike

module _ (s us ws : List ℕ) (m : ℕ) (e : take m us ≡ take m ws) where
  -- they begin so with fewer words
  take_fewer : (k : ℕ) → k ≤ m → take k us ≡ take k ws
  take_fewer k h = sym (take-take k m us h) ∙ (ap (take k) e ∙ take-take k m ws h)

  -- they have the same entries there
  pub entries_same : (k : ℕ) → k ≤ m → entries_of s us k ≡ entries_of s ws k
  unfolding entries_of
  entries_same k h = ap (map (entry_of s)) (take_fewer k h)

  -- the same words
  pub word_same : (k : ℕ) → k < m → get_or us k 0 ≡ get_or ws k 0
  word_same k h = sym (get_or-take m us k 0 h) ∙ (ap (λ (l : List ℕ). get_or l k 0) e ∙ get_or-take m ws k 0 h)

  -- and the same marks of slots
  slot_same : (k : ℕ) → k < 2 * m → slot_mark s us k ≡ slot_mark s ws k
  unfolding slot_mark
  slot_same k h = ap₂ (λ (g : Registry) (w : ℕ). slot_of s g w (k % 2)) (entries_same (k / 2) (omega arith)) (word_same (k / 2) (omega arith))

-- ---- the part of the words behind the entries, which is lent

module _ (ws : List ℕ) (h : 512 ≤ length ws) where
  -- it goes to their end
  pub part_all : take (length ws - 512) (drop 512 ws) ≡ drop 512 ws
  part_all = take_all (length ws - 512) (drop 512 ws) (omega (arith, length-drop 512 ws))

  module _ (ys : List ℕ) where
    -- with ys in its place the entries stay
    pub put_take : take 512 (put_mid 512 (length ws - 512) ws ys) ≡ take 512 ws
    put_take = take_put 512 (length ws - 512) ws ys h

    -- and ys stand behind them
    pub put_drop : drop 512 (put_mid 512 (length ws - 512) ws ys) ≡ ys
    put_drop =
        drop_at (take 512 ws) (ys ++ drop (length ws - 512) (drop 512 ws)) 512 (length-take-le 512 ws h) ∙
        (ap (λ (l : List ℕ). ys ++ l) (drop_of_length-le (drop 512 ws) {i = length ws - 512} (omega (arith, length-drop 512 ws))) ∙ append-nil ys)

-- ---- the slots of an entry

module _ (ws : List ℕ) (h : 1663 ≤ length ws) (n key : ℕ) (ys : List ℕ)
    (first : (f : ℕ → ℕ) → Linked (take (length ws - 512) (drop 512 ws)) f (2 * n) → f (2 * n) ≡ key → Linked ys f (2 * n + 1)) where
  -- the answer of `link` for an entry with an alias
  pub linking_both : (zs : List ℕ) (mark : ℕ) → ((f : ℕ → ℕ) → Linked ys f (2 * n + 1) → f (2 * n + 1) ≡ mark → Linked zs f (2 * n + 1 + 1)) →
      (a : std.Option ℕ) → a ≡ Some mark → Linking ws n key a (put_mid 512 (length ws - 512) ws zs)
  linking_both zs mark second a e =
      let q : 2 * n + 1 + 1 ≡ 2 * n + 2 = omega arith in
      rw e (record {
        same = put_take ws (omega arith) zs;
        linked = λ f l k m. rw (put_drop ws (omega arith) zs, ← q) (second f (first f (rw (part_all ws (omega arith)) l) k) m);
      })

  -- for one whose alias is left out
  pub linking_one : length ys ≡ length (take (length ws - 512) (drop 512 ws)) → n < 512 →
      (a : std.Option ℕ) → a ≡ None → Linking ws n key a (put_mid 512 (length ws - 512) ws ys)
  linking_one g few a e =
      let q : 2 * n + 1 + 1 ≡ 2 * n + 2 = omega arith in
      rw e (record {
        same = put_take ws (omega arith) ys;
        linked = λ f l k m. rw (put_drop ws (omega arith) ys, ← q)
            (linked_over (first f (rw (part_all ws (omega arith)) l) k) m (rw (g, part_all ws (omega arith)) (omega (arith, length-drop 512 ws))));
      })

-- ---- an entry more

-- no entry
pub index_none : (ws ys : List ℕ) → 1663 ≤ length ws → length ys ≡ length (take (length ws - 512) (drop 512 ws)) → ((f : ℕ → ℕ) → Linked ys f 0) →
    (s : List ℕ) → Indexed s (put_mid 512 (length ws - 512) ws ys) 0
index_none ws ys h g l s = record {
  room = rw (same_len_mid 512 (length ws - 512) ws ys g) h;
  linked = rw (put_drop ws (omega arith) ys) (l (slot_mark s (put_mid 512 (length ws - 512) ws ys)));
}

module _ (s ws us : List ℕ) (n w key : ℕ) (alias : std.Option ℕ) (few : n < 512) (room : 1663 ≤ length ws) (l : Linking (set ws n w) n key alias us) where
  -- the entries before it stay
  before : take n us ≡ take n ws
  before = take_fewer s us (set ws n w) 512 l.same n (omega arith) ∙ take-set-le n ws n w (omega arith)

  -- its word stands behind them
  pub word_here : get_or us n 0 ≡ w
  word_here = word_same s us (set ws n w) 512 l.same n few ∙ get_or-set_same ws n w 0 (omega arith)

  -- the words hold the entries of the words with it
  pub entries_here : entries_of s us (n + 1) ≡ entries_of s (set ws n w) (n + 1)
  entries_here = entries_same s us (set ws n w) 512 l.same (n + 1) (omega arith)

  -- its slots are linked
  pub index_more : Indexed s ws n → length us ≡ length ws → key ≡ key_mark (held s (owner_at w)) (key_in s w) →
      AliasIs (alias_mark (entries_of s ws n) (held s (owner_at w)) (alias_in s w)) alias → Indexed s us (n + 1)
  index_more x same_length k a =
      let q : 2 * (n + 1) ≡ 2 * n + 2 = omega arith in
      record { room = rw same_length room; linked = rw q (l.linked (slot_mark s us) old first second) }
    where
      old : Linked (drop 512 (set ws n w)) (slot_mark s us) (2 * n)
      old = rw (drop-set-lt 512 ws n w few) (linked_marks (λ k h. sym (slot_same s us ws n before k h)) x.linked)

      first : slot_mark s us (2 * n) ≡ key
      first = slot_first s us n ∙ (ap (λ (v : ℕ). key_mark (held s (owner_at v)) (key_in s v)) word_here ∙ sym k)

      second : AliasIs (slot_mark s us (2 * n + 1)) alias
      second = rw (slot_second s us n, word_here, entries_same s us ws n before n (omega arith)) a

-- ---- a derived entry

module _ (s : List ℕ) (w : ℕ) where
  -- its first key stays
  derived_key : key_in s (derived_word w) ≡ key_in s w
  unfolding key_in
  derived_key = rw (still_owner w, still_path w, still_made w)

  -- its alias stays
  derived_alias : alias_in s (derived_word w) ≡ alias_in s w
  unfolding alias_in
  derived_alias = rw (still_path w, still_made w, derived_key)

  -- so that it has the same keys
  derived_keyed : (o x : Name) → keyed_by o x (entry_of s (derived_word w)) ≡ keyed_by o x (entry_of s w)
  derived_keyed o x =
      ap₂ (λ (n : Name) (ks : List Name). same o n && among x ks)
      (owner_is s (derived_word w) ∙ (ap (held s) (still_owner w) ∙ sym (owner_is s w)))
      (keys_are s (derived_word w) ∙
      (ap₂ (λ (k a : Name). k ∷ cond (is_empty a) [] (a ∷ [])) derived_key derived_alias ∙ sym (keys_are s w)))

-- no key is found elsewhere
derived_place : (s ws : List ℕ) (i e : ℕ) (o x : Name) →
    place_of o x (entries_of s (set ws i (derived_word (get_or ws i 0))) e) ≡ place_of o x (entries_of s ws e)
unfolding place_of entries_of
derived_place s [] i e o x = refl
derived_place s (w ∷ ws) i zero o x = refl
derived_place s (w ∷ ws) zero (suc e) o x =
    ap (λ (b : Bool). cond b 0 (suc (place_of o x (map (entry_of s) (take e ws))))) (derived_keyed s w o x)
derived_place s (w ∷ ws) (suc i) (suc e) o x =
    ap (λ (k : ℕ). cond (keyed_by o x (entry_of s w)) 0 (suc k)) (derived_place s ws i e o x)

module _ (s ws : List ℕ) (n i : ℕ) (fit : n ≤ length ws) (l : i < n) where
  -- the words with the entry derived
  abbrev marked : List ℕ
  marked = set ws i (derived_word (get_or ws i 0))

  -- an alias is left out as before
  derived_alias_mark : (e : ℕ) → e ≤ n → (o a : Name) → alias_mark (entries_of s marked e) o a ≡ alias_mark (entries_of s ws e) o a
  unfolding alias_mark
  derived_alias_mark e h o a =
      ap₂ (λ (k m : ℕ). cond (is_empty a || ltb k m) 18446744073709551616 (key_mark o a))
      (derived_place s ws i e o a)
      (entries_length s marked e (rw length-set (omega arith)) ∙ sym (entries_length s ws e (omega arith)))

  -- the entry's slots keep their marks, behind any entries
  derived_slot : (g : Registry) (b : ℕ) → slot_of s g (derived_word (get_or ws i 0)) b ≡ slot_of s g (get_or ws i 0) b
  unfolding slot_of
  derived_slot g b = rw (still_owner (get_or ws i 0), derived_key s (get_or ws i 0), derived_alias s (get_or ws i 0))

  -- and so do the others
  derived_slots : (k : ℕ) → k < 2 * n → slot_mark s marked k ≡ slot_mark s ws k
  unfolding slot_mark slot_of
  derived_slots k h =
      go (eqb (k / 2) i) refl ∙
      ap (λ (m : ℕ). cond (eqb (k % 2) 0) (key_mark (held s (owner_at (get_or ws (k / 2) 0))) (key_in s (get_or ws (k / 2) 0))) m)
      (derived_alias_mark (k / 2) (omega arith) (held s (owner_at (get_or ws (k / 2) 0))) (alias_in s (get_or ws (k / 2) 0)))
    where
      go : (b : Bool) → eqb (k / 2) i ≡ b →
          slot_of s (entries_of s marked (k / 2)) (get_or marked (k / 2) 0) (k % 2) ≡ slot_of s (entries_of s marked (k / 2)) (get_or ws (k / 2) 0) (k % 2)
      go true e =
          rw (eqb-true (k / 2) i e, get_or-set_same ws i (derived_word (get_or ws i 0)) 0 (omega arith))
          (derived_slot (entries_of s marked i) (k % 2))
      go false e =
          ap (λ (w : ℕ). slot_of s (entries_of s marked (k / 2)) w (k % 2))
          (get_or-set_other ws i (k / 2) (derived_word (get_or ws i 0)) 0 (eqb-false (k / 2) i e))

  -- the index stays
  pub index_marked : n ≤ 512 → Indexed s ws n → Indexed s marked n
  index_marked h x = record {
    room = rw length-set x.room;
    linked = rw (drop-set-lt 512 ws i (derived_word (get_or ws i 0)) (omega arith)) (linked_marks (λ k q. sym (derived_slots k q)) x.linked);
  }

-- ---- a key's place, by its slot

module _ (o x : Name) where
  -- the entry at the place has the key
  place_at : (d : Entry) (g : Registry) → place_of o x g < length g → keyed_by o x (get_or g (place_of o x g) d) ≡ true
  place_at d =
      by_place o x (λ es i. i < length es → keyed_by o x (get_or es i d) ≡ true)
      (λ l. absurd (let z : ⊥ = omega arith in z))
      (λ e es h l. h)
      (λ e es i h ih l. ih (omega arith))

  -- none of those before it has
  place_take : (g : Registry) → place_of o x (take (place_of o x g) g) ≡ place_of o x g
  unfolding place_of
  place_take =
      by_place o x (λ es i. place_of o x (take i es) ≡ i)
      refl
      (λ e es h. refl)
      (λ e es i h ih. rw h (ap suc ih))

  -- an entry that has it does not stand before the place
  place_le : (d : Entry) (g : Registry) (i : ℕ) → i < length g → keyed_by o x (get_or g i d) ≡ true → place_of o x g ≤ i
  unfolding place_of
  place_le d [] i l h = absurd (let z : ⊥ = omega arith in z)
  place_le d (e ∷ es) zero l h = rw h (omega arith)
  place_le d (e ∷ es) (suc i) l h = go (keyed_by o x e) (place_le d es i (omega arith) h)
    where
      go : (b : Bool) → place_of o x es ≤ i → cond b 0 (suc (place_of o x es)) ≤ suc i
      go true k = omega arith
      go false k = omega arith

-- fewer entries
take_entries : (s ws : List ℕ) (n k : ℕ) → k ≤ n → take k (entries_of s ws n) ≡ entries_of s ws k
unfolding entries_of
take_entries s ws n k h = take_map (entry_of s) k (take n ws) ∙ ap (map (entry_of s)) (take-take k n ws h)
  where
    take_map : {A B : Type 0} (f : A → B) (k : ℕ) (l : List A) → take k (map f l) ≡ map f (take k l)
    take_map f zero l = refl
    take_map f (suc k) [] = refl
    take_map {B = B} f (suc k) (a ∷ l) = ap (λ (z : List B). f a ∷ z) (take_map f k l)

module _ (s ws : List ℕ) (n : ℕ) (fit : n ≤ length ws) (o x : Name) (mark : ℕ) (em : mark ≡ key_mark o x) where
  -- the place of the key
  abbrev spot : ℕ
  spot = place_of o x (entries_of s ws n)

  -- no entry before the place has the key
  spot_first : spot ≤ n → place_of o x (entries_of s ws spot) ≡ spot
  spot_first h = ap (place_of o x) (sym (take_entries s ws n spot h)) ∙ place_take o x (entries_of s ws n)

  module _ (h : spot < n) where
    -- the word at the place
    abbrev word : ℕ
    word = get_or ws spot 0

    -- its entry has the key
    keyed : keyed_by o x (entry_of s word) ≡ true
    keyed =
        ap (keyed_by o x) (sym (entry_at s ws n fit spot h)) ∙
        place_at o x (entry_of s 0) (entries_of s ws n) (omega (arith, entries_length s ws n fit))

    -- so that its owner is the one
    owner_here : held s (owner_at word) ≡ o
    owner_here = sym (owner_is s word) ∙ sym (same_eq o (entry_of s word).owner (and_left (same o (entry_of s word).owner) _ keyed))

    -- and the key its first one, or its alias
    key_here : (same x (key_in s word) || among x (cond (is_empty (alias_in s word)) [] (alias_in s word ∷ []))) ≡ true
    unfolding among
    key_here = rw (keys_are s word) at (and_right (same o (entry_of s word).owner) (among x (entry_of s word).keys) keyed)

    -- where it is the first one, the first slot has the mark
    slot_of_first : same x (key_in s word) ≡ true → slot_mark s ws (2 * spot) ≡ mark
    slot_of_first e =
        slot_first s ws spot ∙
        (ap₂ (λ (a b : Name). key_mark a b) owner_here (sym (same_eq x (key_in s word) e)) ∙ sym em)

    -- where it is the alias, the second: no entry before has that key
    slot_of_alias : among x (cond (is_empty (alias_in s word)) [] (alias_in s word ∷ [])) ≡ true → slot_mark s ws (2 * spot + 1) ≡ mark
    unfolding among alias_mark
    slot_of_alias e =
        slot_second s ws spot ∙
        (ap (λ (a : Name). alias_mark (entries_of s ws spot) a (alias_in s word)) owner_here ∙ go (alias_in s word) e)
      where
        go : (a : Name) → among x (cond (is_empty a) [] (a ∷ [])) ≡ true → alias_mark (entries_of s ws spot) o a ≡ mark
        go [] e = false_true e
        go (b ∷ bs) e =
            let q : x ≡ b ∷ bs = same_eq x (b ∷ bs) (sym (or_false (same x (b ∷ bs))) ∙ e) in
            rw (← q)
            (rw (le-ltb (place_of o x (entries_of s ws spot)) (length (entries_of s ws spot))
            (omega (arith, spot_first (omega arith), entries_length s ws spot (omega arith)))) (sym em))

    -- one of its slots has the mark
    pub spot_slot : {A : Type 0} → (slot_mark s ws (2 * spot) ≡ mark → A) → (slot_mark s ws (2 * spot + 1) ≡ mark → A) → A
    spot_slot {A} first second = go (same x (key_in s word)) refl key_here
      where
        go : (b : Bool) → same x (key_in s word) ≡ b → (b || among x (cond (is_empty (alias_in s word)) [] (alias_in s word ∷ []))) ≡ true → A
        go true e k = first (slot_of_first e)
        go false e k = second (slot_of_alias k)

-- ---- the search

-- the table that is searched
pub index_linked : {s ws : List ℕ} {n : ℕ} → Indexed s ws n → Linked (take (length ws - 512) (drop 512 ws)) (slot_mark s ws) (2 * n)
index_linked {s} {ws} {n} x = rw (part_all ws (omega (arith, x.room))) x.linked

-- as the search takes it
abbrev pub index_table : {s ws : List ℕ} {n : ℕ} → Indexed s ws n → Table (take (length ws - 512) (drop 512 ws))
index_table {s} {ws} {n} x = record { marks = slot_mark s ws; count = 2 * n; linked = index_linked x }

-- an entry was kept, and e does not stand before it
abbrev pub Kept_before : std.Option ℕ → ℕ → Type 0
Kept_before None e = ⊥
Kept_before (Some found) e = found ≤ e

-- an entry of a slot that was asked, if it has the key, does not stand before the one that was kept
abbrev pub Kept_first : List ℕ → List ℕ → Name → Name → std.Option ℕ → ℕ → Type 0
Kept_first s ws o x found k = keyed_by o x (entry_of s (get_or ws (k / 2) 0)) ≡ true → Kept_before found (k / 2)

-- the search among n entries: the entry that was kept has the key, and the walk stands before slot j
pub record Searching (s ws : List ℕ) (n : ℕ) (o x : Name) (mark : ℕ) (found : std.Option ℕ) (j : ℕ) : Type 0 where
  pub within : IfSome found (λ e. e < n)
  pub keyed : IfSome found (λ e. keyed_by o x (entry_of s (get_or ws e 0)) ≡ true)
  pub walk : Walk (slot_mark s ws) mark (2 * n) (Kept_first s ws o x found) j

module _ {s ws : List ℕ} {n : ℕ} {o x : Name} {mark : ℕ} where
  -- it begins with none
  pub searching_first : {r : ℕ} → Prior (slot_mark s ws) mark (2 * n) r → Searching s ws n o x mark None r
  searching_first q = record { within = tt; keyed = tt; walk = walk_last q }

  module _ {found : std.Option ℕ} {j r : ℕ} (w : Searching s ws n o x mark found j) (z : 0 < j) (q : Prior (slot_mark s ws) mark (j - 1) r)
      {b : Bool} (f : b ≡ keyed_by o x (entry_of s (get_or (take n ws) ((j - 1) / 2) 0))) where
    -- the test of the slot's entry
    tested : b ≡ keyed_by o x (entry_of s (get_or ws ((j - 1) / 2) 0))
    tested = f ∙ ap (λ (v : ℕ). keyed_by o x (entry_of s v)) (get_or-take n ws ((j - 1) / 2) 0 (omega (arith, w.walk.within)))

    -- the entry of the slot has the key: it is kept, since it does not stand behind one that was
    pub searching_hit : b ≡ true → Searching s ws n o x mark (Some ((j - 1) / 2)) r
    searching_hit e = record {
      within = omega (arith, w.walk.within);
      keyed = sym tested ∙ e;
      walk = (walk_before {P = Kept_first s ws o x (Some ((j - 1) / 2))} (walk_more (λ k h p g. omega arith) w.walk) z (λ g. omega arith) q).0;
    }

    -- it has not
    pub searching_miss : b ≡ false → Searching s ws n o x mark found r
    searching_miss e = record {
      within = w.within;
      keyed = w.keyed;
      walk = (walk_before w.walk z (λ g. false_true (sym e ∙ (tested ∙ g))) q).0;
    }

  module _ {j : ℕ} (fit : n ≤ length ws) (em : mark ≡ key_mark o x) (z : j ≤ 0) where
    -- at the end of the walk, a slot of the place's entry was asked
    asked : {found : std.Option ℕ} → Searching s ws n o x mark found j → place_of o x (entries_of s ws n) < n →
        Kept_before found (place_of o x (entries_of s ws n))
    asked w l =
        let p = place_of o x (entries_of s ws n) in
        let q : 2 * p / 2 ≡ p = omega arith in
        let r : (2 * p + 1) / 2 ≡ p = omega arith in
        let k = keyed s ws n fit o x mark em l in
        spot_slot s ws n fit o x mark em l
        (λ f. rw q at (walk_end w.walk z (2 * p) (omega arith) f (rw q k)))
        (λ f. rw r at (walk_end w.walk z (2 * p + 1) (omega arith) f (rw r k)))

    -- so what was kept is the first that has the key, if any has
    pub searching_end : (found : std.Option ℕ) → Searching s ws n o x mark found j → found ≡ found_at o x (entries_of s ws n)
    searching_end None w = sym (found_nothing o x (entries_of s ws n) (go (leb n (place_of o x (entries_of s ws n))) refl))
      where
        go : (b : Bool) → leb n (place_of o x (entries_of s ws n)) ≡ b → length (entries_of s ws n) ≤ place_of o x (entries_of s ws n)
        go true e = omega (arith, leb-true n (place_of o x (entries_of s ws n)) e, entries_length s ws n fit)
        go false e = absurd (asked w (leb-false n (place_of o x (entries_of s ws n)) e))
    searching_end (Some e) w =
        let low : place_of o x (entries_of s ws n) ≤ e =
        place_le o x (entry_of s 0) (entries_of s ws n) e (omega (arith, w.within, entries_length s ws n fit))
        (ap (keyed_by o x) (entry_at s ws n fit e w.within) ∙ w.keyed) in
        let high : e ≤ place_of o x (entries_of s ws n) = asked w (omega (arith, w.within)) in
        let same : e ≡ place_of o x (entries_of s ws n) = omega arith in
        ap Some same ∙ sym (found_some o x (entries_of s ws n) (omega (arith, w.within, entries_length s ws n fit)))

-- ---- what is searched for

-- the key of an owner whose name stands at an offset
pub sought_at : {s : List ℕ} {m h at : ℕ} {o k : Name} → m ≡ mark_of h k → h ≡ owner_mark o → o ≡ held s at → Sought s m (Some at) o k
sought_at {o = o} {k = k} e f g = record {
  mark = e ∙ ap (λ (x : ℕ). mark_of x k) f;
  owner = sym (ap (same o) (sym g) ∙ same_refl o);
}

-- of an owner whose offset is not known
pub sought_any : {s : List ℕ} {m h : ℕ} {o k : Name} → m ≡ mark_of h k → h ≡ owner_mark o → Sought s m None o k
sought_any {k = k} e f = record { mark = e ∙ ap (λ (x : ℕ). mark_of x k) f; owner = tt }

-- the same of a key in two parts
pub sought_joined : {s : List ℕ} {m h g : ℕ} {o : Name} (a b : Name) → m ≡ mark_of h b → h ≡ mark_of g a → g ≡ owner_mark o → Sought s m None o (a ++ b)
sought_joined {g = g} a b e f i = sought_any (e ∙ (ap (λ (x : ℕ). mark_of x b) f ∙ sym (mark_append g a b))) i

-- ---- the alias of a word's entry

-- as the code finds it
pub alias_is : (s : List ℕ) (w : ℕ) {r : std.Option Made} {o p n a : Name} → r ≡ made_of w → is_some r ≡ false → o ≡ held s (owner_at w) →
    p ≡ held s (path_at w) → n ≡ normalize_path o p → a ≡ alias_of p n → a ≡ alias_in s w
unfolding alias_in key_in
alias_is s w {r = None} em z eo ep en ea = rw (← em, ← eo, ← ep, ← en) ea
alias_is s w {r = Some m} em z eo ep en ea = absurd (false_true (sym z))

-- a made parameter has none
pub alias_made : (s : List ℕ) (w : ℕ) (g : Registry) (r : std.Option Made) → r ≡ made_of w → is_some r ≡ true →
    18446744073709551616 ≤ alias_mark g (held s (owner_at w)) (alias_in s w)
unfolding alias_in alias_mark
alias_made s w g None em z = false_true z
alias_made s w g (Some m) em z = rw (← em) (omega arith)

-- nor has a path whose alias is empty
pub alias_none : (s : List ℕ) (w : ℕ) (g : Registry) (a : Name) → a ≡ alias_in s w → length a ≡ 0 →
    18446744073709551616 ≤ alias_mark g (held s (owner_at w)) (alias_in s w)
unfolding alias_mark
alias_none s w g a e l = rw (← e) (go a l)
  where
    go : (a : Name) → length a ≡ 0 →
        18446744073709551616 ≤ cond (is_empty a || ltb (place_of (held s (owner_at w)) a g) (length g)) 18446744073709551616 (key_mark (held s (owner_at w)) a)
    go [] l = omega arith
    go (x ∷ xs) l = absurd (let z : ⊥ = omega arith in z)

module _ (s ws : List ℕ) (n w : ℕ) (fit : n ≤ length ws) (o : Name) (eo : o ≡ held s (owner_at w)) {a : Name} (ea : a ≡ alias_in s w) where
  -- an alias that is a key of an entry before is left out
  pub alias_known : (r : std.Option ℕ) → r ≡ found_at o a (entries_of s ws n) → is_some r ≡ true →
      18446744073709551616 ≤ alias_mark (entries_of s ws n) (held s (owner_at w)) (alias_in s w)
  unfolding alias_mark
  alias_known None e l = false_true l
  alias_known (Some i) e l =
      let q : ltb (place_of o a (entries_of s ws n)) (length (entries_of s ws n)) ≡ true =
      lt-ltb (place_of o a (entries_of s ws n)) (length (entries_of s ws n))
      (omega (arith, some_place s ws n fit o a e refl, some_within s ws n fit o a e refl, entries_length s ws n fit)) in
      rw (← ea, ← eo, q) (go (is_empty a))
    where
      go : (b : Bool) → 18446744073709551616 ≤ cond (b || true) 18446744073709551616 (key_mark o a)
      go true = omega arith
      go false = omega arith

  -- any other has its mark
  pub alias_new : (r : std.Option ℕ) {m h : ℕ} → (length a ≡ 0 → ⊥) → r ≡ found_at o a (entries_of s ws n) → is_some r ≡ false → m ≡ mark_of h a →
      h ≡ owner_mark (held s (owner_at w)) → alias_mark (entries_of s ws n) (held s (owner_at w)) (alias_in s w) ≡ m
  unfolding alias_mark
  alias_new (Some i) z e l em eh = absurd (false_true (sym l))
  alias_new None {m} {h} z e l em eh =
      let q : ltb (place_of o a (entries_of s ws n)) (length (entries_of s ws n)) ≡ false =
      le-ltb (place_of o a (entries_of s ws n)) (length (entries_of s ws n))
      (omega (arith, none_place s ws n fit o a e refl, entries_length s ws n fit)) in
      rw (← ea, ← eo, q) (go a z ∙ sym (em ∙ ap (λ (x : ℕ). mark_of x a) (eh ∙ ap owner_mark (sym eo))))
    where
      go : (a : Name) → (length a ≡ 0 → ⊥) → cond (is_empty a || false) 18446744073709551616 (key_mark o a) ≡ key_mark o a
      go [] z = absurd (z refl)
      go (x ∷ xs) z = refl

-- ---- the marks of a new entry

-- of a path
pub marked_path : {s : List ℕ} {owner path w h m : ℕ} {o p k : Name} → w ≡ word_of owner path None → owner < 65536 → path < 65536 →
    o ≡ held s owner → p ≡ held s path → h ≡ owner_mark (held s owner) → k ≡ normalize_path o p → m ≡ mark_of h k → Marked s w h m
unfolding key_in
marked_path {s} {owner} {path} {w} {h} {m} {o} {p} {k} ew a b eo ep eh ek em =
    let x : owner_at w ≡ owner = ap owner_at ew ∙ word_owner owner path None a b in
    let y : path_at w ≡ path = ap path_at ew ∙ word_path owner path None a b in
    let z : made_of w ≡ None = ap made_of ew ∙ word_made owner path None a b in
    record { owner = rw x eh; key = rw (x, z, y, ← eo, ← ep, ← ek) (em ∙ ap (λ (u : ℕ). mark_of u k) (eh ∙ ap owner_mark (sym eo))) }

-- of a made parameter
pub marked_made : (s : List ℕ) (owner : ℕ) (made : Made) (w : ℕ) {h m : ℕ} {o p k : Name} → ((t : List ℕ) → entry_of t w ≡ made_entry made (held t owner)) →
    o ≡ held s owner → p ≡ made_path made → h ≡ owner_mark o → k ≡ normalize_path o p → m ≡ mark_of h k → Marked s w h m
unfolding made_entry
marked_made s owner made w {h} {m} {o} {p} {k} e eo ep eh ek em =
    let x : held s (owner_at w) ≡ o = sym (owner_is s w) ∙ (ap (λ (y : Entry). y.owner) (e s) ∙ sym eo) in
    let y : key_in s w ∷ cond (is_empty (alias_in s w)) [] (alias_in s w ∷ []) ≡ normalize_path (held s owner) (made_path made) ∷ [] =
    sym (keys_are s w) ∙ ap (λ (y : Entry). y.keys) (e s) in
    let z : key_in s w ≡ k = headed y ∙ sym (ek ∙ ap₂ normalize_path eo ep) in
    record { owner = rw x eh; key = rw (x, z) (em ∙ ap (λ (u : ℕ). mark_of u k) eh) }
  where
    first : Name → List Name → Name
    first d [] = d
    first d (x ∷ xs) = x

    headed : {a b : Name} {cs ds : List Name} → a ∷ cs ≡ b ∷ ds → a ≡ b
    headed {a} q = ap (first a) q

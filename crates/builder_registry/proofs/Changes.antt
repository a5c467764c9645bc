-- What a word more enters, and what a mark changes. Assumes nothing.
use Prim.Native.Nat.{ℕ, zero, suc, ◌+◌, ◌≤◌, ◌<◌}
use native.Mathlib.Omega.{arith}
use native.Mathlib.Numerals.{add-one}
use mathlib.Core.Path.{◌≡◌, refl, sym, ap, ◌∙◌}
use mathlib.Core.Bool.{Bool, true, false}
use mathlib.Core.List.{List, [], ◌∷◌, ◌++◌, map}
use mathlib.Core.Option.{some, none}
use Rattle.std.specs.Prelude as std
use Rattle.std.specs.Prelude.{Some, None, is_some, Result, Ok, Err}
use lib.ListN.{length, take, get_or, set}
use lib.Seq.{take-suc-set, take-set-lt, set-get_or}
use borrow.Author.Tests.{lt-ltb, le-ltb, le-leb, lt-leb}
use Rattle.errors.specs.Refusal.{done, refused, plain}
use Rattle.errors.specs.Refusal.{◌>>=◌ as ◌and_then◌}
use Rattle.errors.specs.declared.Reason.{Reason}
use Rattle.errors.specs.declared.Reason.TheVariants.{LimitExceeded}
use Rattle.answers.specs.Answers.{AnswersIn}
use Rattle.answers.proofs.Laws.{refuses, makes, passes, goes}
use Rattle.blocks.proofs.Name.{false_true}
use Rattle.blocks.specs.Name.{Name}
use Rattle.ir.specs.Ir.{IrParameter}
use Rattle.builder.specs.Names.{normalize_path}
use Rattle.builder.specs.Registry.{Entry, Registry, ◌>>=◌, give, refuse, require, reads, change, find_key, enter, ensure, add_synthetic, derived_entry, mark_derived, entry_of as path_entry}
use Rattle.builder_registry.specs.declared.Made.{Made}
use Rattle.builder_registry.specs.declared.Made.TheVariants.{ComputedTag, Variant, PayloadSize}
use Rattle.builder_registry.specs.Texts.{made_path}
use Rattle.builder_registry.specs.Word.{owner_at, made_of, derived_of, word_of, derived_word}
use Rattle.builder_registry.specs.Words.{held, made_derived, made_parameter, made_entry, entry_of, entries_of, entry_name, key_in, alias_in, key_mark, alias_mark, Indexed, AliasIs, Linking, Kept, Tags}
use Rattle.builder_registry.specs.Place.{place_of, found_at}
use Rattle.builder_registry.proofs.Word.{word_owner, word_path, word_made, word_plain, still_owner, still_path, still_made, now_derived}
use Rattle.builder_registry.proofs.Index.{word_here, entries_here, index_more, index_marked}
use Rattle.builder_registry.proofs.Places.{entries_length, entry_at, found_entry, found_none, some_place, some_within, none_place, marked_at, marked_none}

-- ---- the definition, by its tests

module _ (e : Entry) (g : Registry) where
  -- the definition refuses a name of more than 255 bytes
  enter_long : 255 < length e.parameter.name → enter e g ≡ refused (plain 17)
  unfolding enter ◌>>=◌ ◌and_then◌ give refuse require reads change
  enter_long h = rw (lt-leb (length e.parameter.name) 255 h)

  -- it refuses a 513th entry
  enter_full : length e.parameter.name ≤ 255 → 512 ≤ length g → enter e g ≡ refused (plain 17)
  unfolding enter ◌>>=◌ ◌and_then◌ give refuse require reads change
  enter_full h k = rw (le-leb (length e.parameter.name) 255 h, le-ltb (length g) 512 k)

  -- else the entry goes behind the others
  enter_room : length e.parameter.name ≤ 255 → length g < 512 → enter e g ≡ done (tt, g ++ (e ∷ []))
  unfolding enter ◌>>=◌ ◌and_then◌ give refuse require reads change
  enter_room h k = rw (le-leb (length e.parameter.name) 255 h, lt-ltb (length g) 512 k)

module _ (o p : Name) (g : Registry) where
  -- a key that is there is not entered again
  ensure_found : (x : IrParameter) → find_key o (normalize_path o p) g ≡ some x → ensure o p g ≡ done (tt, g)
  unfolding ensure ◌>>=◌ ◌and_then◌ reads give
  ensure_found x h = rw h

  -- a new one is entered
  ensure_new : find_key o (normalize_path o p) g ≡ none → ensure o p g ≡ enter (path_entry o p) g
  unfolding ensure ◌>>=◌ ◌and_then◌ reads
  ensure_new h = rw h

  module _ (q : IrParameter) where
    -- the same for a made parameter: the name is that of the entry that is there
    synthetic_found : (x : IrParameter) → find_key o (normalize_path o p) g ≡ some x → add_synthetic o p q g ≡ done (x.name, g)
    unfolding add_synthetic ◌>>=◌ ◌and_then◌ reads give
    synthetic_found x h = rw h

    -- or that of the new entry
    synthetic_new : find_key o (normalize_path o p) g ≡ none →
        add_synthetic o p q g ≡ ◌and_then◌ (enter (record { owner = o; keys = normalize_path o p ∷ []; parameter = q }) g) (λ x. done (q.name, x.1))
    unfolding add_synthetic ◌>>=◌ ◌and_then◌ reads give
    synthetic_new h = rw h

-- ---- one word more

-- an image with one element more
map_last : {A B : Type 0} (f : A → B) (xs : List A) (y : A) → map f (xs ++ (y ∷ [])) ≡ map f xs ++ (f y ∷ [])
map_last f [] y = refl
map_last {B = B} f (x ∷ xs) y = ap (λ (z : List B). f x ∷ z) (map_last f xs y)

-- a word behind n words is an entry behind n entries
pushed : (s ws : List ℕ) (n w : ℕ) → n < length ws → entries_of s (set ws n w) (n + 1) ≡ entries_of s ws n ++ (entry_of s w ∷ [])
unfolding entries_of
pushed s ws n w h = rw (add-one, take-suc-set ws n w h, map_last (entry_of s) (take n ws) w)

module _ (s ws : List ℕ) (n w l : ℕ) (fit : n ≤ length ws) (e : l ≡ length (entry_name s w)) where
  -- the answer of `enter` for a long name
  pub entered_long : (us : List ℕ) → 255 < l → Kept s us (Err LimitExceeded) (enter (entry_of s w) (entries_of s ws n))
  entered_long us h = refuses (enter_long (entry_of s w) (entries_of s ws n) (omega arith))

  -- its answer where there is no room
  pub entered_full : (us : List ℕ) → l ≤ 255 → 512 ≤ n → Kept s us (Err LimitExceeded) (enter (entry_of s w) (entries_of s ws n))
  entered_full us h k = refuses (enter_full (entry_of s w) (entries_of s ws n) (omega arith) (omega (arith, entries_length s ws n fit)))

  module _ (us : List ℕ) (key : ℕ) (alias : std.Option ℕ) (k : n < 512) (x : Indexed s ws n) (q : Linking (set ws n w) n key alias us) where
    -- its answer else, where the word's slots are linked
    pub entered : l ≤ 255 → length us ≡ length ws → key ≡ key_mark (held s (owner_at w)) (key_in s w) →
        AliasIs (alias_mark (entries_of s ws n) (held s (owner_at w)) (alias_in s w)) alias → Kept s us (Ok (n + 1)) (enter (entry_of s w) (entries_of s ws n))
    entered h same_length ek ea =
        makes _ (enter_room (entry_of s w) (entries_of s ws n) (omega arith) (omega (arith, entries_length s ws n fit)))
        (record {
          entries = entries_here s ws us n w key alias k x.room q ∙ pushed s ws n w (omega (arith, x.room));
          index = index_more s ws us n w key alias k x.room q x same_length ek ea;
        })

    -- and where the new word stands
    pub entered_here : get_or us n 0 ≡ w
    entered_here = word_here s ws us n w key alias k x.room q

-- ---- a path

-- the word of a path holds its entry
packed : (s : List ℕ) (a b : ℕ) → a < 65536 → b < 65536 → entry_of s (word_of a b None) ≡ path_entry (held s a) (held s b)
unfolding entry_of
packed s a b h k =
    rw (word_owner a b None h k, word_path a b None h k, word_made a b None h k, word_plain a b None h k) refl

module _ (s ws : List ℕ) (n owner path : ℕ) (fit : n ≤ length ws) (o p : Name) (f : o ≡ held s owner) (g : p ≡ held s path)
    {k : Name} (ek : k ≡ normalize_path o p) {r : std.Option ℕ} (ec : r ≡ found_at o k (entries_of s ws n)) where
  -- what was searched for is the path's key
  path_found : r ≡ found_at o (normalize_path o p) (entries_of s ws n)
  path_found = ec ∙ ap (λ (x : Name). found_at o x (entries_of s ws n)) ek

  -- the answer of `ensure` where the key is there
  pub ensure_has : is_some r ≡ true → Indexed s ws n → Kept s ws (Ok n) (ensure (held s owner) (held s path) (entries_of s ws n))
  ensure_has h x = go r refl h
    where
      go : (q : std.Option ℕ) → r ≡ q → is_some q ≡ true → Kept s ws (Ok n) (ensure (held s owner) (held s path) (entries_of s ws n))
      go None z h = false_true h
      go (Some i) z h =
          rw (← f, ← g)
          (makes _ (ensure_found o p (entries_of s ws n) _ (found_entry s ws n fit o (normalize_path o p) path_found z)) (record { entries = refl; index = x }))

  -- it is not: its word is entered
  pub ensure_more : {us : List ℕ} {q : Result ℕ Reason} {w : ℕ} → w ≡ word_of owner path None → is_some r ≡ false → owner < 65536 → path < 65536 →
      Kept s us q (enter (entry_of s w) (entries_of s ws n)) → Kept s us q (ensure (held s owner) (held s path) (entries_of s ws n))
  ensure_more {us} {q} {w} ew h a b m = go r refl h
    where
      go : (f : std.Option ℕ) → r ≡ f → is_some f ≡ false → Kept s us q (ensure (held s owner) (held s path) (entries_of s ws n))
      go (Some i) z h = absurd (false_true (sym h))
      go None z h =
          rw (← f, ← g, ensure_new o p (entries_of s ws n) (found_none s ws n fit o (normalize_path o p) path_found z), f, g, ← packed s owner path a b, ← ew) m

-- ---- a made parameter

-- the word of a made parameter holds its entry, given its fields
made_is : (s : List ℕ) {a : ℕ} {m : Made} (w : ℕ) → owner_at w ≡ a → made_of w ≡ Some m → derived_of w ≡ made_derived m → entry_of s w ≡ made_entry m (held s a)
unfolding entry_of made_entry made_parameter
made_is s w e f g = rw (f, e, g) refl

module _ (s : List ℕ) (a : ℕ) (m : Made) (h : a < 65536) {w : ℕ} (ew : w ≡ word_of a 0 (Some m)) where
  -- a computed tag, whose word is made a derived one
  pub made_one : {r : ℕ} → r ≡ derived_word w → m ≡ ComputedTag → entry_of s r ≡ made_entry m (held s a)
  made_one er e = rw (er, ew) (made_is s (derived_word (word_of a 0 (Some m)))
      (still_owner (word_of a 0 (Some m)) ∙ word_owner a 0 (Some m) h (omega arith))
      (still_made (word_of a 0 (Some m)) ∙ word_made a 0 (Some m) h (omega arith))
      (now_derived (word_of a 0 (Some m)) (word_plain a 0 (Some m) h (omega arith)) ∙ ap made_derived (sym e)))

  -- the others
  pub made_other : (m ≡ ComputedTag → ⊥) → entry_of s w ≡ made_entry m (held s a)
  made_other k = rw ew (made_is s (word_of a 0 (Some m))
      (word_owner a 0 (Some m) h (omega arith))
      (word_made a 0 (Some m) h (omega arith))
      (word_plain a 0 (Some m) h (omega arith) ∙ sym (plain m k)))
    where
      plain : (m : Made) → (m ≡ ComputedTag → ⊥) → made_derived m ≡ false
      plain ComputedTag k = absurd (k refl)
      plain Variant k = refl
      plain PayloadSize k = refl

pub ruleset made_words = (word_plain, made_one, made_other)

module _ (s ws : List ℕ) (n owner : ℕ) (made : Made) (fit : n ≤ length ws) (o p : Name) (f : o ≡ held s owner) (g : p ≡ made_path made)
    {x : Name} (ex : x ≡ normalize_path o p) {r : std.Option ℕ} (ec : r ≡ found_at o x (entries_of s ws n)) where
  -- what was searched for is the key
  made_found : r ≡ found_at o (normalize_path o p) (entries_of s ws n)
  made_found = ec ∙ ap (λ (y : Name). found_at o y (entries_of s ws n)) ex

  -- the place of the first entry that has the key, of the names as the contract has them
  pub synthetic_at : {i : ℕ} → r ≡ Some i → i ≡ place_of (held s owner) (normalize_path (held s owner) (made_path made)) (entries_of s ws n)
  synthetic_at z = rw (← f, ← g) (some_place s ws n fit o (normalize_path o p) made_found z)

  -- and that of the new entry
  pub synthetic_last : r ≡ None → n ≡ place_of (held s owner) (normalize_path (held s owner) (made_path made)) (entries_of s ws n)
  synthetic_last z = rw (← f, ← g) (none_place s ws n fit o (normalize_path o p) made_found z)

  -- the answer of `add_synthetic` where the key is there: the first entry that has it
  pub synthetic_has : {i : ℕ} → r ≡ Some i → Indexed s ws n →
      Tags s ws (Ok (record { at = i; count = n })) (add_synthetic (held s owner) (made_path made) (made_parameter made (held s owner)) (entries_of s ws n))
  synthetic_has z x =
      rw (← f, ← g)
      (makes _ (synthetic_found o p (entries_of s ws n) (made_parameter made o) _ (found_entry s ws n fit o (normalize_path o p) made_found z))
      (record { named = refl; entries = refl; within = some_within s ws n fit o (normalize_path o p) made_found z; index = x }))

  module _ (z : r ≡ None) (w : ℕ) (m : (t : List ℕ) → entry_of t w ≡ made_entry made (held t owner)) where
    -- it is not: the entry is made, and then its name answered
    synthetic_is : add_synthetic (held s owner) (made_path made) (made_parameter made (held s owner)) (entries_of s ws n) ≡
        ◌and_then◌ (enter (entry_of s w) (entries_of s ws n)) (λ y. done ((made_parameter made (held s owner)).name, y.1))
    unfolding made_entry
    synthetic_is =
        rw (m s) (synthetic_new (held s owner) (made_path made) (entries_of s ws n) (made_parameter made (held s owner)) none_found)
      where
        none_found : find_key (held s owner) (normalize_path (held s owner) (made_path made)) (entries_of s ws n) ≡ none
        none_found = rw (← f, ← g) (found_none s ws n fit o (normalize_path o p) made_found z)

    -- where the word is not entered, it is refused
    pub synthetic_stop : {us : List ℕ} {x : Reason} → Kept s us (Err x) (enter (entry_of s w) (entries_of s ws n)) →
        Tags s us (Err x) (add_synthetic (held s owner) (made_path made) (made_parameter made (held s owner)) (entries_of s ws n))
    synthetic_stop k = rw synthetic_is (passes _ k)

    -- where it is entered, the new entry stands behind the others
    pub synthetic_more : {us : List ℕ} {k : ℕ} → Kept s us (Ok k) (enter (entry_of s w) (entries_of s ws n)) → k ≡ n + 1 → get_or us n 0 ≡ w →
        Tags s us (Ok (record { at = n; count = k })) (add_synthetic (held s owner) (made_path made) (made_parameter made (held s owner)) (entries_of s ws n))
    unfolding made_entry
    synthetic_more {us} k l q =
        rw synthetic_is
        (goes _ k (λ y i. AnswersIn.made _ (record {
          named = sym (ap (entry_name s) q ∙ ap (λ (y : Entry). y.parameter.name) (m s));
          entries = i.entries;
          within = omega (arith, l);
          index = i.index;
        })))

-- ---- a mark

module _ (s : List ℕ) (w : ℕ) where
  -- a word made a derived one holds the derived entry
  mark_word : derived_of w ≡ false → entry_of s (derived_word w) ≡ derived_entry (entry_of s w)
  unfolding entry_of
  mark_word h = rw (still_owner w, still_path w, still_made w, now_derived w h)

  -- a derived word holds a derived entry
  marked_word : derived_of w ≡ true → derived_entry (entry_of s w) ≡ entry_of s w
  unfolding entry_of
  marked_word h = rw h

-- an image with one element changed
map_set : {A B : Type 0} (f : A → B) (xs : List A) (i : ℕ) (y : A) → map f (set xs i y) ≡ set (map f xs) i (f y)
map_set f [] i y = refl
map_set f (x ∷ xs) zero y = refl
map_set {B = B} f (x ∷ xs) (suc i) y = ap (λ (z : List B). f x ∷ z) (map_set f xs i y)

-- a word changed among n words is an entry changed among n entries
changed : (s ws : List ℕ) (n i w : ℕ) → i < n → entries_of s (set ws i w) n ≡ set (entries_of s ws n) i (entry_of s w)
unfolding entries_of
changed s ws n i w h = rw (take-set-lt n ws i w h) (map_set (entry_of s) (take n ws) i w)

module _ (s ws : List ℕ) (n : ℕ) (fit : n ≤ length ws) (o p : Name) {r : std.Option ℕ} (e : r ≡ found_at o (normalize_path o p) (entries_of s ws n)) where
  -- no entry has the key: nothing is marked
  pub mark_nothing : r ≡ None → entries_of s ws n ≡ mark_derived o p (entries_of s ws n)
  unfolding mark_derived
  mark_nothing z = sym (marked_none s ws n fit o (normalize_path o p) e z)

  module _ {i : ℕ} (z : r ≡ Some i) (b : Bool) (f : b ≡ derived_of (get_or ws i 0)) where
    -- the entry is derived already
    pub mark_again : b ≡ true → entries_of s ws n ≡ mark_derived o p (entries_of s ws n)
    unfolding mark_derived
    mark_again d =
        sym (marked_at s ws n fit o (normalize_path o p) e z ∙
        (ap (set (entries_of s ws n) i) (marked_word s (get_or ws i 0) (sym f ∙ d) ∙ sym (entry_at s ws n fit i (some_within s ws n fit o (normalize_path o p) e z))) ∙
        set-get_or (entries_of s ws n) i (entry_of s 0)))

    module _ {w : ℕ} (er : w ≡ derived_word (get_or ws i 0)) where
      -- its word is made a derived one
      pub mark_first : b ≡ false → entries_of s (set ws i w) n ≡ mark_derived o p (entries_of s ws n)
      unfolding mark_derived
      mark_first d =
          changed s ws n i w (some_within s ws n fit o (normalize_path o p) e z) ∙
          (ap (set (entries_of s ws n) i) (ap (entry_of s) er ∙ mark_word s (get_or ws i 0) (sym f ∙ d)) ∙ sym (marked_at s ws n fit o (normalize_path o p) e z))

      -- and the index stays
      pub mark_index : n ≤ 512 → Indexed s ws n → Indexed s (set ws i w) n
      mark_index few x = rw er (index_marked s ws n i fit (some_within s ws n fit o (normalize_path o p) e z) few x)

-- The entries that are listed: each law in the form in which the code has it.
use mathlib.Core.Path.{◌≡◌, refl, sym, ◌∙◌, ap, subst}
use mathlib.Core.Bool.{Bool, true, false, not, ◌&&◌, ◌||◌, cond}
use mathlib.Core.List.{List, [], ◌∷◌, map}
use mathlib.Core.Option.{some, none}
use Prim.Native.Nat.{ℕ, zero, suc, ◌+◌, ◌-◌, ◌≤◌, ◌<◌}
use native.Mathlib.Numerals.{add-one}
use native.Mathlib.Omega.{arith}
use lib.Dec.{eqb}
use lib.ListN.{length, take, drop, get_or}
use lib.Seq.{drop-cons}
use Rattle.blocks.specs.Bytes.{bytes}
use borrow.Author.Tests.{eqb-true, eqb-false}
use Rattle.blocks.specs.Name.{Name, same, among}
use Rattle.blocks.specs.Write.{write}
use Rattle.blocks.proofs.Name.{same_eq, false_true}
use Rattle.resolved.specs.Resolved.{ResolvedType, kind_of}
use Rattle.ir.specs.Ir.{IrParameter}
use Rattle.ir.specs.Layout.{parameter_tree, list_tree, entries_tree}
use Rattle.wire.specs.Poke.{Wrote}
use Rattle.wire.proofs.Laws.{parts, no_parts}
use Rattle.builder.specs.Names.{replace_colons, split, before_element}
use Rattle.builder.specs.Registry.{Registry, firsts, into_parameters}
use Rattle.builder.specs.BuildType.{fields_of, has_jagged, jagged_before, is_jagged_element_parameter, filter_jagged_element_parameters}
use Rattle.marks.specs.Mark.{mark_of}
use Rattle.builder_registry.specs.Words.{Standing, entry_of, entries_of}
use Rattle.builder_registry.proofs.Puts.{counted_last as list_counted_last}
use Rattle.builder_parameters.specs.Listed.{name_in, names, lists, marks_of}

-- ---- a name among the earlier ones

module _ (s ws : List ℕ) (m : Name) where
  -- one of the first i entries has the name
  among_met : (i k : ℕ) → k < i → same m (name_in s ws k) ≡ true → among m (names s ws i) ≡ true
  unfolding names among
  among_met zero k h e = absurd (omega arith)
  among_met (suc i) k h e = go (eqb k i) refl (same m (name_in s ws i)) refl (λ l. among_met i k l e)
    where
      go : (a : Bool) → eqb k i ≡ a → (b : Bool) → same m (name_in s ws i) ≡ b → (k < i → among m (names s ws i) ≡ true) → (b || among m (names s ws i)) ≡ true
      go a f true g ih = refl
      go true f false g ih = false_true (sym g ∙ ap (λ (j : ℕ). same m (name_in s ws j)) (sym (eqb-true k i f)) ∙ e)
      go false f false g ih = ih (omega (arith, eqb-false k i f))

  -- none of them has it
  among_none : (i : ℕ) → ((k : ℕ) → k < i → same m (name_in s ws k) ≡ false) → among m (names s ws i) ≡ false
  unfolding names among
  among_none zero h = refl
  among_none (suc i) h = rw (h i (omega arith)) (among_none i (λ k l. h k (omega arith)))

-- the entry at k does not have the name of the entry at i
abbrev pub Other : List ℕ → List ℕ → ℕ → ℕ → Type 0
Other s ws i k = same (name_in s ws i) (name_in s ws k) ≡ false

module _ (s ws : List ℕ) (i : ℕ) where
  -- an earlier entry has the name: it is not new
  pub not_new : (k : ℕ) {r : Bool} → k < i → r ≡ same (name_in s ws i) (name_in s ws k) → r ≡ true → false ≡ not (among (name_in s ws i) (names s ws i))
  not_new k h e t = sym (ap not (among_met s ws (name_in s ws i) i k h (sym e ∙ t)))

  -- no earlier entry of its mark has it: no earlier one has it
  pub new : {mark : ℕ} → mark ≡ marks_of s ws i → ((k : ℕ) → k < i → marks_of s ws k ≡ mark → Other s ws i k) →
      true ≡ not (among (name_in s ws i) (names s ws i))
  new e h = sym (ap not (among_none s ws (name_in s ws i) i (λ k l. go k l (same (name_in s ws i) (name_in s ws k)) refl)))
    where
      go : (k : ℕ) → k < i → (b : Bool) → same (name_in s ws i) (name_in s ws k) ≡ b → b ≡ false
      go k l false f = refl
      go k l true f = sym f ∙ h k l (ap (mark_of 0) (sym (same_eq (name_in s ws i) (name_in s ws k) f)) ∙ sym e)

-- ---- an element of a jagged array

module _ {m : Name} (n : Name) (f : m ≡ replace_colons n) (t : ResolvedType) where
  -- the segment before `element`, in the name with `.` for `::`
  segment_is : before_element (split m) ≡ before_element (split (replace_colons n))
  segment_is = ap (λ (z : Name). before_element (split z)) f

  -- there is one: whether the struct has a jagged array of that name
  pub element_yes : {p : Name} {r : Bool} → before_element (split m) ≡ some p → r ≡ has_jagged p (fields_of (kind_of t)) →
      r ≡ is_jagged_element_parameter t n
  unfolding is_jagged_element_parameter
  element_yes w q = q ∙ ap (jagged_before (fields_of (kind_of t))) (sym (sym segment_is ∙ w))

  -- there is none: the entry is no element
  pub element_no : before_element (split m) ≡ none → false ≡ is_jagged_element_parameter t n
  unfolding is_jagged_element_parameter
  element_no w = ap (jagged_before (fields_of (kind_of t))) (sym (sym segment_is ∙ w))

-- ---- whether an entry is listed

module _ (t : ResolvedType) (s ws : List ℕ) (i : ℕ) {f : Bool} (e : f ≡ not (among (name_in s ws i) (names s ws i))) where
  -- an entry whose name an earlier one has is not listed
  pub not_first : f ≡ false → f ≡ lists t s ws i
  not_first h = h ∙ ap (λ (b : Bool). b && not (is_jagged_element_parameter t (name_in s ws i))) (sym h ∙ e)

  -- another one is listed if it is no element of a jagged array
  pub first_listed : {r : Bool} → f ≡ true → r ≡ is_jagged_element_parameter t (name_in s ws i) → not r ≡ lists t s ws i
  first_listed {r} h g =
      ap not g ∙ ap (λ (b : Bool). b && not (is_jagged_element_parameter t (name_in s ws i))) (sym h ∙ e)

-- ---- one entry after another

-- what is listed of the k entries from i on
unfoldable pub listed : ResolvedType → List ℕ → List ℕ → ℕ → ℕ → List IrParameter
listed t s ws i zero = []
listed t s ws i (suc k) = cond (lists t s ws i) ((entry_of s (get_or ws i 0)).parameter ∷ listed t s ws (i + 1) k) (listed t s ws (i + 1) k)

module _ (t : ResolvedType) (s ws : List ℕ) {i n : ℕ} where
  -- what is listed from i on: the entry at i, if it is, and the rest
  listed_step : i < n →
      listed t s ws i (n - i) ≡ cond (lists t s ws i) ((entry_of s (get_or ws i 0)).parameter ∷ listed t s ws (i + 1) (n - (i + 1))) (listed t s ws (i + 1) (n - (i + 1)))
  unfolding listed
  listed_step h =
      let e : n - i ≡ suc (n - (i + 1)) = omega arith in
      ap (listed t s ws i) e

  module _ {r : Bool} (h : i < n) (e : r ≡ lists t s ws i) where
    -- it is not
    pub listed_no : r ≡ false → listed t s ws i (n - i) ≡ listed t s ws (i + 1) (n - (i + 1))
    listed_no f = rw (listed_step h, ← e, f) refl

    -- it is
    pub listed_yes : r ≡ true → listed t s ws i (n - i) ≡ (entry_of s (get_or ws i 0)).parameter ∷ listed t s ws (i + 1) (n - (i + 1))
    listed_yes f = rw (listed_step h, ← e, f) refl

  -- behind the last entry nothing is
  pub listed_end : n ≤ i → listed t s ws i (n - i) ≡ []
  unfolding listed
  listed_end h =
      let e : n - i ≡ 0 = omega arith in
      ap (listed t s ws i) e

-- ---- the definition

-- the names that were seen are those of the earlier entries
record Seen (seen : List Name) (s ws : List ℕ) (i : ℕ) : Type 0 where
  is : (m : Name) → among m seen ≡ among m (names s ws i)

module _ {s ws : List ℕ} {seen : List Name} {i : ℕ} (c : Seen seen s ws i) where
  -- a name that was seen already
  seen_again : among (name_in s ws i) seen ≡ true → Seen seen s ws (i + 1)
  unfolding names among
  seen_again h = record { is = λ m. rw add-one (c.is m ∙ go m (same m (name_in s ws i)) refl) }
    where
      go : (m : Name) (b : Bool) → same m (name_in s ws i) ≡ b → among m (names s ws i) ≡ (b || among m (names s ws i))
      go m true e = ap (λ (z : Name). among z (names s ws i)) (same_eq m (name_in s ws i) e) ∙ sym (c.is (name_in s ws i)) ∙ h
      go m false e = refl

  -- a new one
  seen_new : Seen (name_in s ws i ∷ seen) s ws (i + 1)
  unfolding names among
  seen_new = record { is = λ m. rw add-one (ap (λ (b : Bool). same m (name_in s ws i) || b) (c.is m)) }

-- a test turned round
turned : {A : Type 0} (b : Bool) (x y : A) → cond b x y ≡ cond (not b) y x
turned true x y = refl
turned false x y = refl

-- from entry i on the definition lists what the code does, with the names of the earlier entries as those that were seen
listed_from : (t : ResolvedType) (s ws : List ℕ) (k i : ℕ) (seen : List Name) → i + k ≤ length ws → Seen seen s ws i →
    filter_jagged_element_parameters t (firsts seen (map (entry_of s) (take k (drop i ws)))) ≡ listed t s ws i k
unfolding firsts filter_jagged_element_parameters listed
listed_from t s ws zero i seen h c = refl
listed_from t s ws (suc k) i seen h c =
    let d : drop i ws ≡ get_or ws i 0 ∷ drop (i + 1) ws = drop-cons ws i 0 (omega arith) ∙ rw add-one refl in
    ap (λ (l : List ℕ). filter_jagged_element_parameters t (firsts seen (map (entry_of s) (take (suc k) l)))) d ∙
    go (among (name_in s ws i) seen) refl (λ l w. listed_from t s ws k (i + 1) l (omega arith) w)
  where
    p : IrParameter
    p = (entry_of s (get_or ws i 0)).parameter

    es : Registry
    es = map (entry_of s) (take k (drop (i + 1) ws))

    rest : List IrParameter
    rest = listed t s ws (i + 1) k

    picked : Bool → List IrParameter
    picked b = cond (not b && not (is_jagged_element_parameter t (name_in s ws i))) (p ∷ rest) rest

    go : (b : Bool) → among (name_in s ws i) seen ≡ b → ((l : List Name) → Seen l s ws (i + 1) → filter_jagged_element_parameters t (firsts l es) ≡ rest) →
        filter_jagged_element_parameters t (cond b (firsts seen es) (p ∷ firsts (name_in s ws i ∷ seen) es)) ≡ cond (lists t s ws i) (p ∷ rest) rest
    go true e ih = ih seen (seen_again c e) ∙ ap picked (sym e ∙ c.is (name_in s ws i))
    go false e ih =
        ap (λ (l : List IrParameter). cond (is_jagged_element_parameter t (name_in s ws i)) l (p ∷ l)) (ih (name_in s ws i ∷ seen) (seen_new c))
        ∙ turned (is_jagged_element_parameter t (name_in s ws i)) rest (p ∷ rest)
        ∙ ap picked (sym e ∙ c.is (name_in s ws i))

-- so it does from the first on
pub listed_is : (t : ResolvedType) (s ws : List ℕ) (n : ℕ) → n ≤ length ws →
    filter_jagged_element_parameters t (into_parameters (entries_of s ws n)) ≡ listed t s ws 0 n
unfolding into_parameters entries_of names among
listed_is t s ws n h = listed_from t s ws n 0 [] (omega arith) (record { is = λ m. refl })

-- ---- what is written

-- the parameters that are left, one behind another
abbrev pub left : ResolvedType → List ℕ → List ℕ → ℕ → ℕ → List ℕ
left t s ws i n = write (entries_tree parameter_tree (listed t s ws i (n - i)))

module _ {xs ys : List ℕ} {p q : ℕ} (t : ResolvedType) (s ws : List ℕ) {i n : ℕ} {r : Bool} (h : i < n) (e : r ≡ lists t s ws i) where
  -- an entry that is not listed writes nothing
  pub pass : r ≡ false → Wrote xs p (left t s ws (i + 1) n) ys q → Wrote xs p (left t s ws i n) ys q
  pass f w = rw (listed_no t s ws h e f) w

  -- one that is listed is written in front of the rest
  pub put : {zs : List ℕ} {u : ℕ} → r ≡ true → Wrote xs p (write (parameter_tree (entry_of s (get_or ws i 0)).parameter)) ys q →
      Wrote ys q (left t s ws (i + 1) n) zs u → Wrote xs p (left t s ws i n) zs u
  unfolding entries_tree
  put f v w =
      rw (listed_yes t s ws h e f)
      (parts (parameter_tree (entry_of s (get_or ws i 0)).parameter) (entries_tree parameter_tree (listed t s ws (i + 1) (n - (i + 1)))) v w)

-- nothing is left
pub all_put : (xs : List ℕ) (p : ℕ) (t : ResolvedType) (s ws : List ℕ) {i n : ℕ} → n ≤ i → Wrote xs p (left t s ws i n) xs p
unfolding entries_tree
all_put xs p t s ws h = rw (listed_end t s ws h) (no_parts xs p)

-- before the loop all is left
pub from_first : {xs ys : List ℕ} {p q : ℕ} (t : ResolvedType) (s ws : List ℕ) (n : ℕ) → Wrote xs p (left t s ws 0 n) ys q →
    Wrote xs p (write (entries_tree parameter_tree (listed t s ws 0 n))) ys q
from_first {xs} {ys} {p} {q} t s ws n w =
    let e : n - 0 ≡ n = omega arith in
    subst (λ (k : ℕ). Wrote xs p (write (entries_tree parameter_tree (listed t s ws 0 k))) ys q) e w

-- ---- their count

-- how many of the n entries are listed, i of which were passed
abbrev pub Counts : ResolvedType → List ℕ → List ℕ → ℕ → ℕ → ℕ → Type 0
Counts t s ws n i k = k + length (listed t s ws i (n - i)) ≡ length (listed t s ws 0 n)

-- before the loop nothing is counted
pub count_none : (t : ResolvedType) (s ws : List ℕ) (n : ℕ) → Counts t s ws n 0 0
count_none t s ws n =
    let e : n - 0 ≡ n = omega arith in
    let l = ap (λ (k : ℕ). length (listed t s ws 0 k)) e in
    omega arith

module _ (t : ResolvedType) (s ws : List ℕ) {i n : ℕ} (k : ℕ) (c : Counts t s ws n i k) where
  module _ {r : Bool} (h : i < n) (e : r ≡ lists t s ws i) where
    -- an entry that is not listed is not counted
    pub count_pass : r ≡ false → Counts t s ws n (i + 1) k
    count_pass f = let l = ap (λ (l : List IrParameter). length l) (listed_no t s ws h e f) in omega arith

    -- one that is listed is
    pub count_more : r ≡ true → Counts t s ws n (i + 1) (k + 1)
    count_more f = let l = ap (λ (l : List IrParameter). length l) (listed_yes t s ws h e f) in omega arith

  -- at the end all that are listed are counted
  pub count_end : n ≤ i → k ≡ length (listed t s ws 0 n)
  count_end h = let l = ap (λ (l : List IrParameter). length l) (listed_end t s ws h) in omega arith

-- the count is written last, behind it the parameters stand already
pub counted_last : {xs ys zs : List ℕ} {p q u : ℕ} (t : ResolvedType) (s ws : List ℕ) (n : ℕ) {k : ℕ} → n ≤ length ws →
    k ≡ length (listed t s ws 0 n) → Wrote xs (p + 2) (write (entries_tree parameter_tree (listed t s ws 0 n))) ys u →
    Wrote ys p (bytes 2 k) zs q →
    Wrote xs p (write (list_tree parameter_tree (filter_jagged_element_parameters t (into_parameters (entries_of s ws n))))) zs u
counted_last t s ws n h e w v = rw (listed_is t s ws n h) (list_counted_last (listed t s ws 0 n) w v e)

-- ---- where an entry stands

-- an entry has a place in the words
pub placed : {s ws : List ℕ} {n i : ℕ} → Standing s ws n → i < n → (i < 512) × (i < length ws)
placed a h = let k = a.count in let w = a.words in (omega (arith, h, k), omega (arith, h, k, w))

-- the entries have their places in the words
pub all_placed : {s ws : List ℕ} {n : ℕ} → Standing s ws n → n ≤ length ws
all_placed a = let k = a.count in let w = a.words in omega (arith, k, w)

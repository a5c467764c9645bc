-- The first value of a name, among entries that were accepted.
use mathlib.Core.Path.{◌≡◌, refl, sym, ◌∙◌, ap, subst}
use mathlib.Core.Bool.{Bool, true, false}
use mathlib.Core.List.{List, []}
use mathlib.Core.Option.{some}
use Prim.Native.Nat.{ℕ, zero, suc, ◌+◌, ◌-◌, ◌≤◌, ◌<◌}
use native.Mathlib.Numerals.{sub-one}
use native.Mathlib.Omega.{arith}
use lib.Dec.{leb}
use lib.ListN.{length}
use borrow.Author.Tests.{leb-true, leb-false}
use Rattle.blocks.specs.Bytes.{le2, le8}
use Rattle.blocks.specs.Name.{Name, same}
use Rattle.blocks.specs.Grammar.{parts_of, find_row, grammar, node_table}
use Rattle.blocks.specs.Tree.{Tree, name, num, cons, entries}
use Rattle.blocks.specs.Read.{Earlier}
use Rattle.accepted.specs.Accepted.{Accepted, tree, Item, Entries, name_at, Counted}
use Rattle.accepted.proofs.Laws.{Sole, sole, sole_earlier, After, value_entry, none_left}
use Rattle.interpreter.specs.Eval.{ParamMap, find}
use Rattle.interpreter.specs.Validate.{binding_of, values_of}
use Rattle.std.specs.Prelude.{Option, Some, None}
use Rattle.lookup.specs.Found.{ValueFound, first_value}

-- ---- the block

-- the block at b is a list of values
pub listed : {s : List ℕ} {b : ℕ} (a : Accepted s 192 192 b) → Sole a Item.values 512
unfolding parts_of find_row grammar node_table
listed a = sole a refl Counted.values

-- ascending names are asked of it, from its first entry on: what the order of its entries rests on
pub listed_ascending : {s : List ℕ} {b : ℕ} (a : Accepted s 192 192 b) → (listed a).list.earlier ≡ Earlier.ascending [] 0
unfolding listed parts_of find_row grammar node_table
listed_ascending a = sole_earlier a refl Counted.values

-- the values are those of that list
values_are : {s : List ℕ} {b : ℕ} (a : Accepted s 192 192 b) → values_of (tree a) ≡ entries binding_of (listed a).list.got.0
unfolding values_of
values_are a = ap (entries binding_of) (listed a).tree

-- the list's count lies in the bytes
pub inside : {s : List ℕ} {b : ℕ} → Accepted s 192 192 b → b + 6 + 2 ≤ length s
inside a = (listed a).inside

-- ---- the offset of the first entry of a name

module _ (s : List ℕ) (n : Name) (at : ℕ) where
  -- an entry of another name is passed over
  value_behind : (left : ℕ) → 0 < left → same n (name_at s at) ≡ false → first_value s n left at ≡ first_value s n (left - 1) (at + 2 + le2 s at + 8)
  unfolding first_value
  value_behind zero h f = absurd (omega arith)
  value_behind (suc k) h f = rw (f, sub-one)

  -- an entry of the name is the first of it
  value_here : (left : ℕ) → 0 < left → same n (name_at s at) ≡ true → first_value s n left at ≡ Some (at + 2 + le2 s at)
  unfolding first_value
  value_here zero h f = absurd (omega arith)
  value_here (suc k) h f = rw f

  -- where no entry is left, there is none of the name
  value_nowhere : (left : ℕ) → left ≤ 0 → first_value s n left at ≡ None
  unfolding first_value
  value_nowhere zero h = refl
  value_nowhere (suc k) h = absurd (omega arith)

-- ---- the loop

-- Of m entries from an offset on, `left` are left, from `at` on, and none of those before has the name.
pub record Passed (s : List ℕ) (n : Name) (m from left at : ℕ) : Type 0 where
  pub here : Entries s Item.values left at
  pub first : first_value s n m from ≡ first_value s n left at

module _ {s : List ℕ} {n : Name} {m from : ℕ} where
  -- the loop begins with all of them
  pub passed_none : Entries s Item.values m from → Passed s n m from m from
  passed_none l = record { here = l; first = refl }

  -- where it ends, none has the name
  pub passed_all : {left at : ℕ} → left ≤ 0 → Passed s n m from left at → None ≡ first_value s n m from
  passed_all {left} {at} h c = sym (c.first ∙ value_nowhere s n at left h)

  module _ {left at : ℕ} (h : 0 < left) (c : Passed s n m from left at) where
    -- the next entry lies in the bytes
    pub next_one : at + 2 + le2 s at + 8 ≤ length s
    next_one = let a = (value_entry c.here h).2 in omega (arith, a.inside, c.here.fits)

    module _ {r : Bool} {u : ℕ} (e : r ≡ same n (name_at s at)) where
      -- it has another name: the loop goes on behind it
      pub passed_one : u ≡ at + 2 + le2 s at + 8 → r ≡ false → Passed s n m from (left - 1) u
      passed_one g f =
          subst (Passed s n m from (left - 1)) (sym g)
          (record { here = (value_entry c.here h).2.rest; first = c.first ∙ value_behind s n at left h (sym e ∙ f) })

      -- it has the name: it is the answer
      pub passed_hit : u ≡ at + 2 + le2 s at → r ≡ true → Some u ≡ first_value s n m from
      passed_hit g f = ap Some g ∙ sym (c.first ∙ value_here s n at left h (sym e ∙ f))

-- ---- the value at that offset

-- the entry at an offset
abbrev entry_at : List ℕ → ℕ → Tree
entry_at s at = cons (name (name_at s at)) (num 8 (le8 s (at + 2 + le2 s at)))

-- the test of its name decides
tested : (n : Name) (s : List ℕ) (at : ℕ) (u : Tree) {t : Bool} → same n (name_at s at) ≡ t →
    find n (entries binding_of (cons (entry_at s at) u)) ≡ elim t [ true ↦ some (le8 s (at + 2 + le2 s at)) | false ↦ find n (entries binding_of u) ]
unfolding find entries
tested n s at u h = ap (λ (t : Bool). elim t [ true ↦ some (le8 s (at + 2 + le2 s at)) | false ↦ find n (entries binding_of u) ]) h

-- a value that one context has is that of another which has the same under the name
found_as : {s : List ℕ} {n : Name} {γ δ : ParamMap} {r : Option ℕ} → find n γ ≡ find n δ → ValueFound s n δ r → ValueFound s n γ r
found_as e (ValueFound.at h g) = ValueFound.at h (e ∙ g)
found_as e (ValueFound.missing g) = ValueFound.missing (e ∙ g)

module _ (s : List ℕ) (n : Name) {left at : ℕ} (l : Entries s Item.values left at) where
  -- the number behind the first entry of the name is the one that the entries have
  Finds : Type 0
  Finds = ValueFound s n (entries binding_of l.got.0) (first_value s n left at)

  -- there is none where no entry is left
  found_none : left ≤ 0 → Finds
  unfolding Finds find entries
  found_none h =
      subst (ValueFound s n (entries binding_of l.got.0)) (sym (value_nowhere s n at left h))
      (ValueFound.missing (ap (λ (x : Tree × ℕ). find n (entries binding_of x.0)) (none_left l h)))

  module _ (h : 0 < left) where
    -- the first entry, and those behind it
    behind : After l (entry_at s at) (at + 2 + le2 s at + 8)
    behind = (value_entry l h).2

    -- what the entries have of the name, by the first of them
    tells : {t : Bool} → same n (name_at s at) ≡ t →
        find n (entries binding_of l.got.0) ≡ elim t [ true ↦ some (le8 s (at + 2 + le2 s at)) | false ↦ find n (entries binding_of behind.rest.got.0) ]
    tells e = ap (λ (x : Tree). find n (entries binding_of x)) behind.tree ∙ tested n s at behind.rest.got.0 e

    -- it has the name, or the rest decides
    found_here : same n (name_at s at) ≡ true → Finds
    unfolding Finds
    found_here e =
        subst (ValueFound s n (entries binding_of l.got.0)) (sym (value_here s n at left h e))
        (ValueFound.at (omega (arith, behind.inside, l.fits)) (tells e))

    found_behind : same n (name_at s at) ≡ false → ValueFound s n (entries binding_of behind.rest.got.0) (first_value s n (left - 1) (at + 2 + le2 s at + 8)) → Finds
    unfolding Finds
    found_behind e r = subst (ValueFound s n (entries binding_of l.got.0)) (sym (value_behind s n at left h e)) (found_as (tells e) r)

-- so of all entries, of which there are at most k
found_in : (s : List ℕ) (n : Name) (k : ℕ) {left at : ℕ} (l : Entries s Item.values left at) → left ≤ k → Finds s n l
unfolding Finds
found_in s n zero l h = found_none s n l h
found_in s n (suc k) {left} {at} l h = go (leb left 0) refl (same n (name_at s at)) refl (λ z. found_in s n k (behind s n l z).rest (omega arith))
  where
    go : (b : Bool) → leb left 0 ≡ b → (t : Bool) → same n (name_at s at) ≡ t → ((z : 0 < left) → Finds s n (behind s n l z).rest) → Finds s n l
    go true f t e more = found_none s n l (leb-true left 0 f)
    go false f true e more = found_here s n l (leb-false left 0 f) e
    go false f false e more = let z = leb-false left 0 f in found_behind s n l z e (more z)

module _ {s : List ℕ} (b : ℕ) (n : Name) (a : Accepted s 192 192 b) where
  -- so it is with the block's, for whoever finds the first of the name
  pub first_found : {r : Option ℕ} → r ≡ first_value s n (le2 s (b + 6)) (b + 6 + 2) → ValueFound s n (values_of (tree a)) r
  unfolding Finds
  first_found e =
      subst (ValueFound s n (values_of (tree a))) (sym e)
      (found_as (ap (find n) (values_are a)) (found_in s n (le2 s (b + 6)) (listed a).list (omega arith)))

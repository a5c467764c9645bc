-- Names that none before them has: what the code finds of a list's blocks before it reads them, by comparing and by marks. Assumes nothing.
use mathlib.Core.Path.{◌≡◌, refl, sym, ◌∙◌, ap}
use mathlib.Core.Bool.{Bool, true, false, not}
use mathlib.Core.List.{List}
use Prim.Native.Nat.{ℕ, ◌+◌, ◌<◌, ◌≤◌}
use native.Mathlib.Numerals.{add-one}
use native.Mathlib.Omega.{arith}
use lib.Dec.{eqb}
use lib.ListN.{replicate, length-replicate, get_or-replicate}
use borrow.Author.Tests.{eqb-true, eqb-false}
use Rattle.blocks.specs.Bytes.{le4}
use Rattle.blocks.specs.Name.{Name, same, among}
use Rattle.blocks.specs.Read.{Earlier, in_order}
use Rattle.blocks.proofs.Name.{same_eq}
use Rattle.marks.specs.Table.{Linked, Prior}
use Rattle.marks.proofs.Tables.{linked_none}
use Rattle.name_marks.specs.Mark.{mark_of}
use Rattle.reader_leaf.specs.Mark.{mark_in}
use Rattle.reader_leaf.specs.Seen.{name_at, NameIn, behind, names_before, Fresh, Stand}
use Rattle.reader_leaf.proofs.Laws.{among_none, owners_last, owners_order, key_free, key_alike}

-- ---- one block more

module _ (s : List ℕ) (first count at : ℕ) (h : at ≡ behind s first count) where
  -- one name more lies inside
  pub stand_more : Stand s first count → NameIn s (at + 6) → Stand s first (count + 1)
  unfolding Stand
  stand_more d g k l = go (eqb k count) refl
    where
      go : (b : Bool) → eqb k count ≡ b → NameIn s (behind s first k + 6)
      go true e = let z : k ≡ count = eqb-true k count e in rw (z, ← h) g
      go false e = d k (omega (arith, eqb-false k count e))

  -- the next block begins where this one ends
  pub behind_more : {m : ℕ} → m ≡ at + 4 + le4 s at → m ≡ behind s first (count + 1)
  unfolding behind
  behind_more e = rw (e, add-one count, ← h)

  -- one name more that none before it has
  fresh_more : Fresh s first count → among (name_at s (at + 6)) (names_before s first count) ≡ false → Fresh s first (count + 1)
  unfolding Fresh
  fresh_more d g k l = go (eqb k count) refl
    where
      go : (b : Bool) → eqb k count ≡ b → among (name_at s (behind s first k + 6)) (names_before s first k) ≡ false
      go true e = let z : k ≡ count = eqb-true k count e in rw (z, ← h) g
      go false e = d k (omega (arith, eqb-false k count e))

module _ (s : List ℕ) (first : ℕ) where
  -- no name stands before the first block
  pub stand_none : Stand s first 0
  unfolding Stand
  stand_none k l = absurd (omega arith)

  -- the first block's name is that of none before
  pub fresh_few : (n : ℕ) → n < 2 → Fresh s first n
  unfolding Fresh names_before among
  fresh_few n h k l = let z : k ≡ 0 = omega arith in rw z

  -- such a name is in order
  pub fresh_order : (fresh count at : ℕ) → Fresh s first fresh → count < fresh → at ≡ behind s first count + 6
      → true ≡ in_order (Earlier.distinct (names_before s first count)) (name_at s at)
  unfolding Fresh in_order
  fresh_order fresh count at f l e = rw (e, f count l)

-- all that a name needs of what is kept of those before it
pub ruleset seen_keys = (owners_last, owners_order, key_free, key_alike, fresh_order)

-- ---- a search from the first block on

-- it has passed `count` blocks, whose names none before them has, and stands at the next
pub record Known (s : List ℕ) (first count at : ℕ) : Type 0 where
  pub here : at ≡ behind s first count
  pub stand : Stand s first count
  pub fresh : Fresh s first count

module _ (s : List ℕ) (first : ℕ) where
  -- before the first block it has passed none
  pub known_none : Known s first 0 first
  unfolding behind
  known_none = record { here = refl; stand = stand_none s first; fresh = fresh_few s first 0 (omega arith) }

  -- a block whose name none before it has is passed
  pub known_more : {count at next end : ℕ} → Known s first count at → (next ≡ at + 4 + le4 s at) × (next ≤ end) × NameIn s (at + 6)
      → among (name_at s (at + 6)) (names_before s first count) ≡ false → Known s first (count + 1) next
  known_more {count} {at} k n g = record {
    here = behind_more s first count at k.here n.0;
    stand = stand_more s first count at k.here k.stand n.2;
    fresh = fresh_more s first count at k.here k.fresh g;
  }

-- a name that was compared with all before it, and differs
pub told : (t b : Bool) → b ≡ not t → b ≡ true → t ≡ false
told true b e h = sym h ∙ e
told false b e h = refl

-- a test whose negation is false holds
pub not_not : (b : Bool) → not b ≡ false → b ≡ true
not_not true e = refl
not_not false e = sym e

-- ---- the table of marks

-- a table of zeros has no slot
pub none_linked : (n : ℕ) (f : ℕ → ℕ) → 127 ≤ n → Linked (replicate n 0) f 0
none_linked n f h = linked_none f (omega (arith, length-replicate {A = ℕ} n 0)) (λ p l. get_or-replicate n p 0 0 (omega arith))

module _ (s : List ℕ) (apart first count : ℕ) where
  module _ (at : ℕ) {m : Name} {mark : ℕ} (e : m ≡ name_at s at) (f : mark ≡ mark_of apart m) where
    -- where no slot has the mark of the name at `at`, none of the blocks begins with it
    pub unmarked : {r : ℕ} → r ≡ 0 → Prior (mark_in s apart first) mark count r → among (name_at s at) (names_before s first count) ≡ false
    unfolding mark_in
    unmarked {r} z p = among_none s (name_at s at) first count (λ k l. go k l (same (name_at s at) (name_at s (behind s first k + 6))) refl)
      where
        go : (k : ℕ) → k < count → (b : Bool) → same (name_at s at) (name_at s (behind s first k + 6)) ≡ b → b ≡ false
        go k l true q = absurd (p.passed k (omega arith) l (ap (mark_of apart) (sym (e ∙ same_eq (name_at s at) (name_at s (behind s first k + 6)) q)) ∙ sym f))
        go k l false q = refl

    -- it is the mark of block `count` if that begins with the name
    pub mark_here : at ≡ behind s first count + 6 → mark_in s apart first count ≡ mark
    unfolding mark_in
    mark_here h = rw (← h, f, e)

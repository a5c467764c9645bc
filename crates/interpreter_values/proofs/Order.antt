-- The entries of an accepted block of values ascend by their names: question 6 asks it of each entry and the one before
-- it. So two entries of different places have different names.
use Prim.Native.Nat.{ℕ, zero, suc, ◌+◌, ◌<◌}
use native.Mathlib.Omega.{arith}
use native.Mathlib.Nat.{le_antisymm}
use mathlib.Core.Path.{◌≡◌, refl, sym, ◌∙◌, ap}
use mathlib.Core.Bool.{Bool, true, false}
use mathlib.Core.List.{List, ◌∷◌}
use lib.Dec.{ltb}
use borrow.Author.Tests.{ltb-true, ltb-false}
use Rattle.blocks.specs.Bytes.{le2, le8, name_at}
use Rattle.blocks.specs.Name.{Name, same, less}
use Rattle.blocks.specs.Tree.{Tree, name, num, cons}
use Rattle.blocks.specs.Read.{Earlier, in_order, name_of, paths_of, met}
use Rattle.blocks.proofs.Name.{same_eq, less_irrefl, less_trans}
use Rattle.accepted.specs.Accepted.{Accepted, Item, Entries}
use Rattle.accepted.proofs.Laws.{value_entry, value_met}
use Rattle.lookup.proofs.Values.{listed, listed_ascending}
use Rattle.interpreter_values.specs.Entries.{entry_at}
use Rattle.interpreter_values.proofs.Entries.{entry_behind}

-- ---- a list of which ascending names are asked

-- the entry at an offset, as it is read
abbrev read_at : List ℕ → ℕ → Tree
read_at s at = cons (name (name_at s at)) (num 8 (le8 s (at + 2 + le2 s at)))

-- behind the first entry its name is the last one met: carries the order from one entry to the next
met_next : {s : List ℕ} {n at p : ℕ} {ms : List Name} (l : Entries s Item.values n at) (h : 0 < n) → l.earlier ≡ Earlier.ascending ms p →
    (value_entry l h).2.rest.earlier ≡ Earlier.ascending (name_at s at ∷ ms) (p + paths_of (read_at s at))
unfolding name_of
met_next {s} {at} l h e = value_met l h ∙ ap (λ (f : Earlier). met f (read_at s at)) e

-- the first entry's name is greater than the last name before the list: what question 6 asked
above_first : {s : List ℕ} {n at p : ℕ} {m : Name} {ms : List Name} (l : Entries s Item.values n at) → 0 < n → l.earlier ≡ Earlier.ascending (m ∷ ms) p → less m (name_at s at) ≡ true
unfolding in_order
above_first {s} {at} l h e = ap (λ (f : Earlier). in_order f (name_at s at)) (sym e) ∙ (value_entry l h).1

-- and so is the name of every entry, by way of those between
above : (s : List ℕ) (k : ℕ) {n first p : ℕ} {m : Name} {ms : List Name} (l : Entries s Item.values n first) →
    l.earlier ≡ Earlier.ascending (m ∷ ms) p → k < n → less m (name_at s (entry_at s first k)) ≡ true
unfolding entry_at
above s zero l e h = above_first l h e
above s (suc k) {n} {first} {m} l e h =
    let o : 0 < n = omega arith in
    let r = above s k (value_entry l o).2.rest (met_next l o e) (omega arith) in
    less_trans m (name_at s first) _ (above_first l o e) (ap (λ (q : ℕ). less (name_at s first) (name_at s q)) (entry_behind s first k) ∙ r)

-- of two entries the later one's name is greater, whatever was met before the list
ascend : (s : List ℕ) (i j : ℕ) {n first p : ℕ} {ms : List Name} (l : Entries s Item.values n first) →
    l.earlier ≡ Earlier.ascending ms p → i < j → j < n → less (name_at s (entry_at s first i)) (name_at s (entry_at s first j)) ≡ true
unfolding entry_at
ascend s i zero l e g h = absurd (omega arith)
ascend s zero (suc j) {n} {first} l e g h =
    let o : 0 < n = omega arith in
    ap (λ (q : ℕ). less (name_at s first) (name_at s q)) (entry_behind s first j) ∙ above s j (value_entry l o).2.rest (met_next l o e) (omega arith)
ascend s (suc i) (suc j) {n} {first} l e g h =
    let o : 0 < n = omega arith in
    rw (entry_behind s first i, entry_behind s first j) (ascend s i j (value_entry l o).2.rest (met_next l o e) (omega arith) (omega arith))

-- ---- an accepted block of values

module _ {s : List ℕ} {block : ℕ} (a : Accepted s 192 192 block) where
  -- of two entries the later one's name is greater: for a search of a name by halves
  pub entry_ascends : (i j : ℕ) → i < j → j < le2 s (block + 6) →
      less (name_at s (entry_at s (block + 6 + 2) i)) (name_at s (entry_at s (block + 6 + 2) j)) ≡ true
  entry_ascends i j g h = ascend s i j (listed a).list (listed_ascending a) g h

  -- so the two have different names: one half of the law below
  entry_other : (i j : ℕ) → i < j → j < le2 s (block + 6) →
      name_at s (entry_at s (block + 6 + 2) i) ≡ name_at s (entry_at s (block + 6 + 2) j) → ⊥
  entry_other i j g h e = less_irrefl _ (ap (λ (m : Name). less m (name_at s (entry_at s (block + 6 + 2) j))) (sym e) ∙ entry_ascends i j g h)

  -- two entries of one name are one entry: whichever entry of a name is found, it is the first of that name
  pub entry_alone : (i j : ℕ) → i < le2 s (block + 6) → j < le2 s (block + 6) →
      same (name_at s (entry_at s (block + 6 + 2) i)) (name_at s (entry_at s (block + 6 + 2) j)) ≡ true → i ≡ j
  entry_alone i j g h e = go (same_eq _ _ e) (ltb i j) refl (ltb j i) refl
    where
      go : name_at s (entry_at s (block + 6 + 2) i) ≡ name_at s (entry_at s (block + 6 + 2) j) →
          (b : Bool) → ltb i j ≡ b → (c : Bool) → ltb j i ≡ c → i ≡ j
      go f true x c y = absurd (entry_other i j (ltb-true i j x) h f)
      go f false x true y = absurd (entry_other j i (ltb-true j i y) g (sym f))
      go f false x false y = le_antisymm (ltb-false j i y) (ltb-false i j x)

-- The entries of an accepted block of values: they lie in the bytes, and the first of a name is the first value of it.
use Rattle.std.specs.Prelude.{Some}
use Prim.Native.Nat.{ℕ, zero, suc, ◌+◌, ◌-◌, ◌≤◌, ◌<◌}
use native.Mathlib.Numerals.{add-one}
use native.Mathlib.Nat.{sub-zero}
use native.Mathlib.Omega.{arith}
use mathlib.Core.Path.{◌≡◌, refl, sym, ◌∙◌, ap, subst}
use mathlib.Core.Bool.{true, false}
use mathlib.Core.List.{List}
use lib.ListN.{length}
use Rattle.blocks.specs.Bytes.{le2, name_at}
use Rattle.blocks.specs.Name.{Name, same}
use Rattle.accepted.specs.Accepted.{Accepted, Item, Entries}
use Rattle.accepted.proofs.Laws.{value_entry}
use Rattle.lookup.specs.Found.{first_value}
use Rattle.lookup.proofs.Values.{listed}
use Rattle.name_marks.specs.Mark.{sum_mark_of}
use Rattle.interpreter_values.specs.Entries.{entry_at, entry_mark, First, Spans, Leaves}
use Rattle.interpreter_values.specs.declared.Sought.TheVariants.{At as SoughtAt, Among}
use Rattle.interpreter_values.specs.declared.Span.{Span}

-- ---- where they stand

module _ (s : List ℕ) (first : ℕ) where
  -- the first one
  pub entry_first : first ≡ entry_at s first 0
  unfolding entry_at
  entry_first = refl

  -- the one behind entry k
  pub entry_next : (k : ℕ) {at next : ℕ} → at ≡ entry_at s first k → next ≡ at + 2 + le2 s at + 8 → next ≡ entry_at s first (k + 1)
  unfolding entry_at
  entry_next k e f = rw (f, add-one k, ← e)

  -- those behind the first are counted from where the second begins
  pub entry_behind : (k : ℕ) → entry_at s first (suc k) ≡ entry_at s (first + 2 + le2 s first + 8) k
  unfolding entry_at
  entry_behind zero = refl
  entry_behind (suc k) = ap (λ (o : ℕ). o + 2 + le2 s o + 8) (entry_behind k)

-- name and number of an entry lie in the bytes
abbrev EntryIn : List ℕ → ℕ → Type 0
EntryIn s at = at + 2 + le2 s at + 8 ≤ length s

-- those of every entry of an accepted list do
entries_in : (s : List ℕ) (k : ℕ) {n first : ℕ} → Entries s Item.values n first → k < n → EntryIn s (entry_at s first k)
unfolding entry_at
entries_in s zero l h = let a = (value_entry l (omega arith)).2 in omega (arith, a.inside, l.fits)
entries_in s (suc k) {n} {first} l h =
    let a = (value_entry l (omega arith)).2 in
    subst (EntryIn s) (sym (entry_behind s first k)) (entries_in s k a.rest (omega arith))

-- those behind the first k were accepted too
entries_behind : (s : List ℕ) (k : ℕ) {n first : ℕ} → Entries s Item.values n first → k ≤ n → Entries s Item.values (n - k) (entry_at s first k)
unfolding entry_at
entries_behind s zero {n} {first} l h = subst (λ (z : ℕ). Entries s Item.values z first) (sym (sub-zero n)) l
entries_behind s (suc k) {n} {first} l h =
    let a = (value_entry l (omega arith)).2 in
    let e : n - 1 - k ≡ n - suc k = omega arith in
    subst (λ (o : ℕ). Entries s Item.values (n - suc k) o) (sym (entry_behind s first k))
    (subst (λ (z : ℕ). Entries s Item.values z (entry_at s (first + 2 + le2 s first + 8) k)) e (entries_behind s k a.rest (omega arith)))

module _ {s : List ℕ} {block : ℕ} (a : Accepted s 192 192 block) where
  -- an accepted block has at most 512 entries
  pub few : le2 s (block + 6) ≤ 512
  few = (listed a).few

  -- and each lies in the bytes
  pub entry_in : (k : ℕ) → k < le2 s (block + 6) → EntryIn s (entry_at s (block + 6 + 2) k)
  entry_in k h = entries_in s k (listed a).list h

  -- those from place m on were accepted too
  pub entries_from : (m : ℕ) → m ≤ le2 s (block + 6) → Entries s Item.values (le2 s (block + 6) - m) (entry_at s (block + 6 + 2) m)
  entries_from m h = entries_behind s m (listed a).list h

-- ---- a loop over them

-- it stands at the entry at place i, before place `to`
pub record Standing (s : List ℕ) (block to i at : ℕ) : Type 0 where
  pub most : to ≤ le2 s (block + 6)
  pub within : i ≤ to
  pub here : at ≡ entry_at s (block + 6 + 2) i

module _ {s : List ℕ} {block : ℕ} where
  -- it begins at the first of a span
  pub standing_first : {p : Span} → Spans s block p → Standing s block p.to p.from p.at
  standing_first h = record { most = h.most; within = h.within; here = h.here }

  module _ {to i at : ℕ} (w : Standing s block to i at) (h : i < to) where
    -- the entry lies in the bytes
    pub standing_in : Accepted s 192 192 block → EntryIn s at
    standing_in a = subst (EntryIn s) (sym w.here) (entry_in a i (omega (arith, w.most)))

    -- it goes on behind it
    pub standing_next : {next : ℕ} → next ≡ at + 2 + le2 s at + 8 → Standing s block to (i + 1) next
    standing_next e = record { most = w.most; within = omega arith; here = entry_next s (block + 6 + 2) i w.here e }

  -- at its end it has passed all of the span
  pub standing_end : {to i at : ℕ} → Standing s block to i at → to ≤ i → i ≡ to
  standing_end w h = omega (arith, w.within)

  -- the mark of its name
  pub standing_mark : {to i at mark : ℕ} {m : Name} → Standing s block to i at → m ≡ name_at s at → mark ≡ sum_mark_of m → entry_mark s (block + 6 + 2) i ≡ mark
  unfolding entry_mark
  standing_mark w e f = rw (← w.here, f, e)

-- ---- the first entry of a name

module _ (s : List ℕ) (m : Name) where
  -- behind an entry of another name it is the first of those that are left
  first_behind : {first n k : ℕ} → First s m first (suc n) (suc k) → First s m (first + 2 + le2 s first + 8) n k
  first_behind {first} {n} {k} f = record {
    within = omega (arith, f.within);
    named = λ h. subst (λ (o : ℕ). same m (name_at s o) ≡ true) (entry_behind s first k) (f.named (omega arith));
    before = λ i h. subst (λ (o : ℕ). same m (name_at s o) ≡ false) (entry_behind s first i) (f.before (suc i) (omega arith));
  }

  -- the number behind it is the first value of the name
  first_number : (n : ℕ) {first : ℕ} (k : ℕ) → First s m first n k → k < n →
      Some (entry_at s first k + 2 + le2 s (entry_at s first k)) ≡ first_value s m n first
  unfolding entry_at first_value
  first_number zero k f h = absurd (omega arith)
  first_number (suc n) zero f h = rw (f.named (omega arith))
  first_number (suc n) {first} (suc k) f h =
      rw (f.before 0 (omega arith))
      (ap (λ (o : ℕ). Some (o + 2 + le2 s o)) (entry_behind s first k) ∙ first_number n k (first_behind f) (omega arith))

  -- the first among some is the first among more
  pub first_more : {first k n j : ℕ} → First s m first k j → j < k → k ≤ n → First s m first n j
  first_more f h l = record { within = omega arith; named = λ z. f.named h; before = f.before }

  -- as it is found: o is the offset of the entry, u of the number
  pub first_there : (n : ℕ) {first k o u : ℕ} → First s m first n k → k < n → o ≡ entry_at s first k → u ≡ o + 2 + le2 s o →
      Some u ≡ first_value s m n first
  first_there n {first} {k} f h e g = ap Some (g ∙ ap (λ (i : ℕ). i + 2 + le2 s i) e) ∙ first_number n k f h

  -- where none of the first k has it, it is the first value of the others
  pub first_rest : (n k : ℕ) {first j : ℕ} → k ≤ n → First s m first k j → k ≤ j → first_value s m n first ≡ first_value s m (n - k) (entry_at s first k)
  unfolding entry_at first_value
  first_rest n zero {first} l f h = ap (λ (z : ℕ). first_value s m z first) (sym (sub-zero n))
  first_rest zero (suc k) l f h = absurd (omega arith)
  first_rest (suc n) (suc k) {first} {j = zero} l f h = absurd (omega arith)
  first_rest (suc n) (suc k) {first} {j = suc j} l f h =
      let e : suc n - suc k ≡ n - k = omega arith in
      rw (f.before 0 (omega arith), e)
      (first_rest n k (omega arith) (first_behind f) (omega arith) ∙ ap (λ (o : ℕ). first_value s m (n - k) o) (sym (entry_behind s first k)))

-- ---- what is known of the first value of a name

module _ {s : List ℕ} {block : ℕ} (a : Accepted s 192 192 block) (m : Name) where
  -- before anything is asked, all entries are left
  pub leaves_all : {n : ℕ} → n ≡ le2 s (block + 6) → Leaves s block m (Among (block + 6 + 2) n)
  leaves_all e = subst (λ (n : ℕ). Leaves s block m (Among (block + 6 + 2) n)) (sym e) (Leaves.among (listed a).list refl)

  -- where none of the first k has the name, those behind them are
  pub leaves_rest : {k j n o : ℕ} → k ≤ le2 s (block + 6) → First s m (block + 6 + 2) k j → k ≤ j → n ≡ le2 s (block + 6) → o ≡ entry_at s (block + 6 + 2) k →
      Leaves s block m (Among o (n - k))
  leaves_rest {k} {n = n} l f h e g =
      subst (λ (o : ℕ). Leaves s block m (Among o (n - k))) (sym g)
      (subst (λ (n : ℕ). Leaves s block m (Among (entry_at s (block + 6 + 2) k) (n - k))) (sym e)
      (Leaves.among (entries_from a k l) (first_rest s m (le2 s (block + 6)) k l f h)))

-- a value that was found
pub left_at : {s : List ℕ} {block o : ℕ} {m : Name} → Leaves s block m (SoughtAt o) →
    Some o ≡ first_value s m (le2 s (block + 6)) (block + 6 + 2)
left_at (Leaves.at h) = h

-- entries that are left
pub left_among : {s : List ℕ} {block o n : ℕ} {m : Name} → Leaves s block m (Among o n) →
    Entries s Item.values n o × (first_value s m (le2 s (block + 6)) (block + 6 + 2) ≡ first_value s m n o)
left_among (Leaves.among l h) = (l, h)

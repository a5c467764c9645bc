-- The chosen paths, counted and found one by one.
use mathlib.Core.Path.{◌≡◌, refl, sym, ap, subst, ◌∙◌}
use mathlib.Core.Bool.{Bool, true, false, cond}
use mathlib.Core.List.{List, [], ◌∷◌}
use Rattle.std.specs.Int.{from_bool}
use Prim.Native.Nat.{ℕ, zero, suc, ◌+◌, ◌-◌, ◌≤◌, ◌<◌}
use native.Mathlib.Numerals.{sub-one}
use native.Mathlib.Omega.{arith}
use lib.ListN.{length, get_or}
use lib.Dec.{ltb}
use borrow.Author.Tests.{lt-ltb}
use Rattle.blocks.specs.Bytes.{le2, name_at}
use Rattle.blocks.specs.Name.{Name}
use Rattle.blocks.specs.Tree.{entries}
use Rattle.accepted.specs.Accepted.{Item, Entries}
use Rattle.accepted.proofs.Laws.{none_left, name_entry}
use Rattle.builder.specs.Nodes.{payload_paths}
use Rattle.resolved_parts.specs.Types.{Named, PathsAt, texts_of}
use Rattle.resolved_parts.proofs.Laws.{entry_named}
use Rattle.builder_sums.specs.Ready.{chosen, some_name}
use Rattle.builder_sums.specs.Paths.{names_at, taken, picks}

-- ---- names of a list

-- an accepted list of names is the names that stand there
names_are : {s : List ℕ} (n q : ℕ) (l : Entries s Item.names n q) → texts_of l.got.0 ≡ names_at s n q
unfolding names_at entries
names_are zero q l = rw (none_left l (omega arith))
names_are {s} (suc n) q l =
    let e = (name_entry l (omega arith)).2 in
    let f : (p : ℕ) (r : Entries s Item.names (suc n - 1) p) → texts_of r.got.0 ≡ names_at s n p = rw sub-one (names_are n) in
    rw e.tree (ap (λ (ns : List Name). name_at s q ∷ ns) (f (q + 2 + le2 s q) e.rest))

-- the chosen ones of an accepted list of paths are those that the code reads
pub picks_are : {s : List ℕ} {q : ℕ} (only : Bool) (p : PathsAt s q) → chosen only (texts_of p.list.got.0) ≡ picks s only q
picks_are {s} {q} only p = ap (chosen only) (names_are (le2 s q) (q + 2) p.list)

-- ---- one more name

-- of no names none is chosen
chosen_none : (only : Bool) → chosen only [] ≡ []
unfolding payload_paths
chosen_none true = refl
chosen_none false = refl

-- the first name is among the chosen ones if it is taken
chosen_more : (only : Bool) (n : Name) (ns : List Name) → chosen only (n ∷ ns) ≡ cond (taken only n) (n ∷ chosen only ns) (chosen only ns)
unfolding payload_paths
chosen_more true n ns = refl
chosen_more false n ns = refl

-- the same where the names stand in the set: the first of those that are left, then the rest
names_more : (s : List ℕ) (only : Bool) (left q : ℕ) {p : ℕ} → 0 < left → p ≡ q + 2 + le2 s q →
    chosen only (names_at s left q) ≡ cond (taken only (name_at s q)) (name_at s q ∷ chosen only (names_at s (left - 1) p)) (chosen only (names_at s (left - 1) p))
unfolding names_at
names_more s only zero q h e = absurd (omega arith)
names_more s only (suc n) q h e = rw (sub-one, e) (chosen_more only (name_at s q) (names_at s n (q + 2 + le2 s q)))

-- behind the first name the rest of the list stands
next : {s : List ℕ} {left q p : ℕ} → 0 < left → p ≡ q + 2 + le2 s q → Entries s Item.names left q → Entries s Item.names (left - 1) p
next h e l = rw e (name_entry l h).2.rest

-- ---- counting

-- m of the paths are chosen so far, and `left` are left, from q on
pub record Counting (s : List ℕ) (only : Bool) (paths left q m : ℕ) : Type 0 where
  pub here : Entries s Item.names left q
  pub most : m + left ≤ 64
  pub is : length (picks s only paths) ≡ m + length (chosen only (names_at s left q))

-- before the loop nothing is counted
pub count_begin : {s : List ℕ} {paths left : ℕ} (only : Bool) → PathsAt s paths → left ≡ le2 s paths → Counting s only paths left (paths + 2) 0
count_begin only p e = rw e (record { here = p.list; most = omega (arith, p.few); is = omega arith })

-- a chosen name adds one to the length
counted : (b : Bool) (n : Name) (ns : List Name) → length (cond b (n ∷ ns) ns) ≡ cond b 1 0 + length ns
counted true n ns = omega arith
counted false n ns = omega arith

-- a weight is at most 1, so that the count stays within the number of paths
weight_one : (b : Bool) → cond b 1 0 ≤ 1
weight_one true = omega arith
weight_one false = omega arith

-- the code's number of a test
from_one : (b : Bool) → from_bool b ≡ cond b 1 0
from_one true = refl
from_one false = refl

-- one path more is counted by its weight
pub count_more : {s : List ℕ} {only : Bool} {paths left k q p m w : ℕ} {b : Bool} → 0 < left → left - 1 ≡ k → b ≡ taken only (name_at s q) → w ≡ from_bool b →
    p ≡ q + 2 + le2 s q → Counting s only paths left q m → Counting s only paths k p (m + w)
count_more {s} {only} {paths} {left} {q = q} {p} {m} {b = b} h z e g f c = rw (← z, g, from_one b, e) (record {
  here = next h f c.here;
  most = omega (arith, weight_one (taken only (name_at s q)), c.most);
  is = omega (
    arith,
    c.is,
    ap length (names_more s only left q h f),
    counted (taken only (name_at s q)) (name_at s q) (chosen only (names_at s (left - 1) p)),
  );
})

-- behind the last path the count is that of the chosen ones
pub count_end : {s : List ℕ} {only : Bool} {paths left q m : ℕ} → left ≤ 0 → Counting s only paths left q m → (m ≡ length (picks s only paths)) × (m ≤ 64)
unfolding names_at
count_end {only} {left = zero} {m} h c = (omega (arith, c.is, ap length (chosen_none only)), omega (arith, c.most))
count_end {left = suc n} h c = absurd (omega arith)

-- there is a name if there are more than 0
some_if : (ns : List Name) → some_name ns ≡ ltb 0 (length ns)
some_if [] = refl
some_if (n ∷ ns) = sym (lt-ltb 0 (suc (length ns)) (omega arith))

-- whether a path ends in `.payload_size`, by the count of those that do
pub payload_is : {s : List ℕ} {q m : ℕ} → m ≡ length (picks s true q) → (p : PathsAt s q) → ltb 0 m ≡ some_name (payload_paths (texts_of p.list.got.0))
payload_is {s} {q} e p = ap (ltb 0) e ∙ sym (some_if (picks s true q)) ∙ ap some_name (sym (picks_are true p))

-- ---- finding

-- the chosen path i is the chosen path j of those that are left
pub record Seeking (s : List ℕ) (only : Bool) (paths i left q j : ℕ) : Type 0 where
  pub here : Entries s Item.names left q
  pub within : j < length (chosen only (names_at s left q))
  pub is : get_or (chosen only (names_at s left q)) j [] ≡ get_or (picks s only paths) i []

-- before the loop all paths are left
pub seek_begin : {s : List ℕ} {only : Bool} {paths left i : ℕ} → PathsAt s paths → i < length (picks s only paths) → left ≡ le2 s paths →
    Seeking s only paths i left (paths + 2) i
seek_begin p h e = rw e (record { here = p.list; within = h; is = refl })

-- a name with a weight of at most j is passed: the one at j is at j less its weight behind it
passed : (b : Bool) (n : Name) (ns : List Name) (j : ℕ) → cond b 1 0 ≤ j →
    (get_or (cond b (n ∷ ns) ns) j [] ≡ get_or ns (j - cond b 1 0) []) × (j < length (cond b (n ∷ ns) ns) → j - cond b 1 0 < length ns)
passed true n ns zero h = absurd (omega arith)
passed true n ns (suc j) h = rw sub-one (refl, λ l. omega arith)
passed false n ns j h = let z : j - 0 ≡ j = omega arith in rw z (refl, λ l. l)

-- the path was not this one: it is among those behind it
pub seek_more : {s : List ℕ} {only : Bool} {paths i left k q p j w : ℕ} {b : Bool} → 0 < left → left - 1 ≡ k → b ≡ taken only (name_at s q) → w ≡ from_bool b →
    w ≤ j → p ≡ q + 2 + le2 s q → Seeking s only paths i left q j → Seeking s only paths i k p (j - w)
seek_more {s} {only} {left = left} {q = q} {p} {j} {b = b} h z e d g f c =
    let y = passed (taken only (name_at s q)) (name_at s q) (chosen only (names_at s (left - 1) p)) j (rw (d, from_one b, e) at g) in
    rw (← z, d, from_one b, e) (record {
      here = next h f c.here;
      within = y.1 (subst (λ (ns : List Name). j < length ns) (names_more s only left q h f) c.within);
      is = sym y.0 ∙ sym (ap (λ (ns : List Name). get_or ns j []) (names_more s only left q h f)) ∙ c.is;
    })

-- the name whose weight is over j is the one at j
first_chosen : (b : Bool) (n : Name) (ns : List Name) (j : ℕ) → j < cond b 1 0 → get_or (cond b (n ∷ ns) ns) j [] ≡ n
first_chosen true n ns zero g = refl
first_chosen true n ns (suc j) g = absurd (omega arith)
first_chosen false n ns j g = absurd (omega arith)

-- the path is this one
pub seek_hit : {s : List ℕ} {only : Bool} {paths i left q j w : ℕ} {b : Bool} → 0 < left → b ≡ taken only (name_at s q) → w ≡ from_bool b → j < w →
    Seeking s only paths i left q j → Named s q × (name_at s q ≡ get_or (picks s only paths) i [])
seek_hit {s} {only} {left = left} {q} {j} {b = b} h e d g c = (
  entry_named c.here h,
  sym (first_chosen (taken only (name_at s q)) (name_at s q) (chosen only (names_at s (left - 1) (q + 2 + le2 s q))) j (rw (d, from_one b, e) at g))
      ∙ sym (ap (λ (ns : List Name). get_or ns j []) (names_more s only left q h refl))
      ∙ c.is,
)

-- the path is among those that are left, so the loop does not end without it
pub seek_never : {X : Type 0} {s : List ℕ} {only : Bool} {paths i left q j : ℕ} → left ≤ 0 → Seeking s only paths i left q j → X
unfolding names_at
seek_never {only} {left = zero} h c = absurd (omega (arith, c.within, ap length (chosen_none only)))
seek_never {left = suc n} h c = absurd (omega arith)

-- A walk over the slots that may have a mark, from the last one back. Assumes nothing.
use Prim.Native.Nat.{ℕ, ◌+◌, ◌-◌, ◌/◌, ◌%◌, ◌≤◌, ◌<◌}
use native.Mathlib.Omega.{arith}
use mathlib.Core.Path.{◌≡◌, refl, sym, ◌∙◌, ap}
use mathlib.Core.Bool.{Bool, true, false}
use mathlib.Core.List.{List}
use lib.Dec.{eqb, leb}
use lib.ListN.{length, get_or}
use borrow.Author.Tests.{eqb-true, eqb-false, leb-true, leb-false}
use Rattle.marks.specs.Table.{Placed, Last, Slot, Linked, Table, Chain, Prior}

-- ---- the code's own walk, by the links

-- before the first slot nothing is passed over
pub prior_none : {ws : List ℕ} {mark j : ℕ} (c : Chain ws mark j) → Prior c.table.marks mark j j
prior_none c = record { within = omega arith; place = c.place; passed = λ k h l e. absurd (let z : ⊥ = omega arith in z) }

module _ {ws : List ℕ} {mark j i : ℕ} (low : mark < 18446744073709551616) (c : Chain ws mark j) (q : Prior c.table.marks mark j i) (z : 0 < i) where
  -- the word of the slot before i
  here : Slot c.table.marks (i - 1) (get_or ws (126 + i) 0)
  here =
      let e : 127 + (i - 1) ≡ 126 + i = omega arith in
      rw e at (c.table.linked.slots (i - 1) (omega (arith, q.within, c.within)) (q.place z).0)

  -- its link leads to the last slot of the place before it
  link : Last c.table.marks (mark % 127) (i - 1) (get_or ws (126 + i) 0 % 65536)
  link = rw (q.place z).1 at here.link

  -- the word lies in the table
  pub word_within : 126 + i < length ws
  word_within = omega (arith, q.within, c.within, c.table.linked.room)

  -- the link leads back
  pub link_less : get_or ws (126 + i) 0 % 65536 < i
  link_less = omega (arith, link.within)

  -- the slot before i has another mark: it is passed over too
  pub prior_more : (get_or ws (126 + i) 0 / 65536 ≡ mark % 281474976710656 → ⊥) → Prior c.table.marks mark j (get_or ws (126 + i) 0 % 65536)
  prior_more o = record {
    within = omega (arith, link.within, q.within);
    place = link.place;
    passed = λ k h l e. go k h l e (leb i k) refl (eqb k (i - 1)) refl;
  }
    where
      go : (k : ℕ) → get_or ws (126 + i) 0 % 65536 ≤ k → k < j → c.table.marks k ≡ mark → (a : Bool) → leb i k ≡ a → (b : Bool) → eqb k (i - 1) ≡ b → ⊥
      go k h l e true x b y = q.passed k (leb-true i k x) l e
      go k h l e false x true y =
          o (here.bits ∙ ap (λ (m : ℕ). m % 281474976710656) (ap c.table.marks (sym (eqb-true k (i - 1) y)) ∙ e))
      go k h l e false x false y =
          let below : k < i - 1 = omega (arith, leb-false i k x, eqb-false k (i - 1) y) in
          let w : k < get_or ws (126 + i) 0 % 65536 = link.last k below (rw e (low, refl)) in
          omega arith

-- where the walk begins: the last slot of the mark's place
pub first : {ws : List ℕ} (mark : ℕ) (t : Table ws) → Last t.marks (mark % 127) t.count (get_or ws (mark % 127) 0)
first mark t = t.linked.heads (mark % 127) (omega arith)

-- so that it can begin there
abbrev pub chain_first : {ws : List ℕ} (mark : ℕ) (t : Table ws) → Chain ws mark (get_or ws (mark % 127) 0)
chain_first mark t = record { table = t; within = (first mark t).within; place = (first mark t).place }

-- what comes from a place's last slot comes from the end of the slots: those behind it have another place
pub prior_last : {f : ℕ → ℕ} {mark n j r : ℕ} → mark < 18446744073709551616 → Last f (mark % 127) n j → Prior f mark j r → Prior f mark n r
prior_last {f} {mark} {n} {j} {r} low l q = record {
  within = omega (arith, l.within, q.within);
  place = q.place;
  passed = λ k h b e. q.passed k h (l.last k b (rw e (low, refl))) e;
}

-- where the walk goes on: at the link of the slot before j
pub linked : {ws : List ℕ} {mark j : ℕ} (low : mark < 18446744073709551616) (z : 0 < j) (c : Chain ws mark j) →
    Last c.table.marks (mark % 127) (j - 1) (get_or ws (126 + j) 0 % 65536)
linked low z c = link low c (prior_none c) z

-- it lies in the table
pub linked_within : {ws : List ℕ} {mark j : ℕ} (low : mark < 18446744073709551616) (z : 0 < j) (c : Chain ws mark j) →
    get_or ws (126 + j) 0 % 65536 ≤ c.table.count
linked_within low z c = omega (arith, (linked low z c).within, c.within)

-- so that it can go on there
abbrev pub chain_link : {ws : List ℕ} {mark j : ℕ} → mark < 18446744073709551616 → 0 < j → (c : Chain ws mark j) → Chain ws mark (get_or ws (126 + j) 0 % 65536)
chain_link low z c = record { table = c.table; within = linked_within low z c; place = (linked low z c).place }

-- what comes from that link comes from the slots before j - 1
pub prior_link : {ws : List ℕ} {mark j r : ℕ} (low : mark < 18446744073709551616) (z : 0 < j) (c : Chain ws mark j) →
    Prior c.table.marks mark (get_or ws (126 + j) 0 % 65536) r → Prior c.table.marks mark (j - 1) r
prior_link low z c q = prior_last low (linked low z c) q

-- ---- a client's walk

-- A walk over the slots below n for a mark, which stands before j: P holds of each slot from j on that has the mark.
pub record Walk (f : ℕ → ℕ) (mark n : ℕ) (P : ℕ → Type 0) (j : ℕ) : Type 0 where
  pub within : j ≤ n
  pub place : 0 < j → Placed (f (j - 1)) (mark % 127)
  pub asked : (k : ℕ) → j ≤ k → k < n → f k ≡ mark → P k

module _ {f : ℕ → ℕ} {mark n : ℕ} {P : ℕ → Type 0} where
  -- `last` begins it
  pub walk_last : {r : ℕ} → Prior f mark n r → Walk f mark n P r
  walk_last q = record { within = q.within; place = q.place; asked = λ k h l e. absurd (q.passed k h l e) }

  module _ {j : ℕ} (w : Walk f mark n P j) where
    -- what `before` requires
    abbrev pub walk_chain : {ws : List ℕ} → Linked ws f n → Chain ws mark j
    walk_chain l = record { table = record { marks = f; count = n; linked = l }; within = w.within; place = w.place }

    -- P holds of the slot before j: `before` goes on, and leads back
    pub walk_before : {r : ℕ} → 0 < j → P (j - 1) → Prior f mark (j - 1) r → Walk f mark n P r × (r < j)
    walk_before {r} z p q = (
      record { within = omega (arith, q.within, w.within); place = q.place; asked = λ k h l e. go k h l e (leb j k) refl (eqb k (j - 1)) refl },
      omega (arith, q.within),
    )
      where
        go : (k : ℕ) → r ≤ k → k < n → f k ≡ mark → (a : Bool) → leb j k ≡ a → (b : Bool) → eqb k (j - 1) ≡ b → P k
        go k h l e true x b y = w.asked k (leb-true j k x) l e
        go k h l e false x true y = rw (eqb-true k (j - 1) y) p
        go k h l e false x false y = absurd (q.passed k h (omega (arith, leb-false j k x, eqb-false k (j - 1) y)) e)

    -- at its end P holds of every slot that has the mark
    pub walk_end : j ≤ 0 → (k : ℕ) → k < n → f k ≡ mark → P k
    walk_end z k l e = w.asked k (omega arith) l e

-- the same walk with another P, which follows of the slots that were asked
pub walk_more : {f : ℕ → ℕ} {mark n j : ℕ} {P Q : ℕ → Type 0} → ((k : ℕ) → j ≤ k → P k → Q k) → Walk f mark n P j → Walk f mark n Q j
walk_more g w = record { within = w.within; place = w.place; asked = λ k h l e. g k h (w.asked k h l e) }

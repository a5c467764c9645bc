-- A table with a slot more. Assumes nothing.
use Prim.Native.Nat.{ℕ, ◌+◌, ◌-◌, ◌*◌, ◌/◌, ◌%◌, ◌≤◌, ◌<◌}
use native.Mathlib.Omega.{arith}
use mathlib.Core.Path.{◌≡◌, refl, sym, ◌∙◌, ap}
use mathlib.Core.Bool.{Bool, true, false}
use mathlib.Core.List.{List, ◌++◌}
use lib.Dec.{eqb}
use Rattle.std.proofs.lemmas.Grind.{common_steps}
use lib.ListN.{length, get_or, set, length-set, length-append, length-replicate, replicate}
use lib.Seq.{get_or-set_same, get_or-set_other}
use borrow.Author.Tests.{eqb-true, eqb-false}
use Rattle.marks.specs.Table.{Placed, Last, Slot, Linked}

-- ---- no slot

-- of no slot none has a place
last_none : {f : ℕ → ℕ} {p : ℕ} → Last f p 0 0
last_none = record { within = omega arith; place = λ z. absurd (omega arith); last = λ k l e. absurd (omega arith) }

-- words whose heads are zeros are a table without slots
pub linked_none : {ws : List ℕ} (f : ℕ → ℕ) → 127 ≤ length ws → ((p : ℕ) → p < 127 → get_or ws p 0 ≡ 0) → Linked ws f 0
linked_none f r z = record {
  room = omega arith;
  heads = λ p h. rw (z p h) last_none;
  slots = λ k h l. absurd (omega arith);
}

-- so are 127 zeros and any words behind them
pub linked_clear : (f : ℕ → ℕ) (us ws : List ℕ) (n : ℕ) → n ≡ 127 → us ≡ replicate n 0 → Linked (us ++ ws) f 0
linked_clear f us ws n h e =
    let l : length us ≡ n = rw e (length-replicate {A = ℕ} n 0) in
    linked_none f (simp length-append (omega arith)) (λ p g. grind (arith, common_steps))

-- ---- a slot more that does not have the place

-- the last slot of a place stays the last
last_other : {f : ℕ → ℕ} {p n j : ℕ} → (Placed (f n) p → ⊥) → Last f p n j → Last f p (n + 1) j
last_other {f} {p} {n} {j} o l = record { within = omega (arith, l.within); place = l.place; last = λ k h e. go k h e (eqb k n) refl }
  where
    go : (k : ℕ) → k < n + 1 → Placed (f k) p → (b : Bool) → eqb k n ≡ b → k < j
    go k h e true g = absurd (o (rw (eqb-true k n g) at e))
    go k h e false g = l.last k (omega (arith, eqb-false k n g)) e

-- a slot without a mark is left out: the table stays as it is
pub linked_over : {ws : List ℕ} {f : ℕ → ℕ} {n : ℕ} → Linked ws f n → 18446744073709551616 ≤ f n → 127 + n < length ws → Linked ws f (n + 1)
linked_over {ws} {f} {n} w o r = record {
  room = omega arith;
  heads = λ p h. last_other (λ e. let z : ⊥ = omega (arith, e.0) in z) (w.heads p h);
  slots = λ k h l. go k h l (eqb k n) refl;
}
  where
    go : (k : ℕ) → k < n + 1 → f k < 18446744073709551616 → (b : Bool) → eqb k n ≡ b → Slot f k (get_or ws (127 + k) 0)
    go k h l true g = absurd (let q : f k ≡ f n = ap f (eqb-true k n g) in let z : ⊥ = omega arith in z)
    go k h l false g = w.slots k (omega (arith, eqb-false k n g)) l

-- ---- a slot more with its mark

module _ {ws : List ℕ} {f : ℕ → ℕ} {n : ℕ} (w : Linked ws f n) (mark : ℕ) (e : f n ≡ mark) (low : mark < 18446744073709551616)
    (few : n < 65536) (r : 127 + n < length ws) where
  -- the last slot of the mark's place, plus 1
  abbrev head : ℕ
  head = get_or ws (mark % 127) 0

  -- the word of the slot
  abbrev word : ℕ
  word = mark % 281474976710656 * 65536 + head % 65536

  -- the words with the slot
  abbrev words : List ℕ
  words = set (set ws (127 + n) word) (mark % 127) (n + 1)

  -- what its place had before
  before : Last f (mark % 127) n head
  before = w.heads (mark % 127) (omega arith)

  -- its place leads to it
  head_here : Last f (mark % 127) (n + 1) (n + 1)
  head_here = record {
    within = omega arith;
    place = λ z. let q : n + 1 - 1 ≡ n = omega arith in rw (q, e) (low, refl);
    last = λ k l g. l;
  }

  -- every place leads to its last slot
  head_more : (p : ℕ) → p < 127 → Last f p (n + 1) (get_or words p 0)
  head_more p h = go (eqb p (mark % 127)) refl
    where
      go : (b : Bool) → eqb p (mark % 127) ≡ b → Last f p (n + 1) (get_or words p 0)
      go true g =
          rw (eqb-true p (mark % 127) g, get_or-set_same (set ws (127 + n) word) (mark % 127) (n + 1) 0 (rw length-set (omega arith))) head_here
      go false g =
          rw (
            get_or-set_other (set ws (127 + n) word) (mark % 127) p (n + 1) 0 (eqb-false p (mark % 127) g),
            get_or-set_other ws (127 + n) p word 0 (λ q. let z : ⊥ = omega arith in z),
          )
          (last_other (λ q. eqb-false p (mark % 127) g (sym q.1 ∙ ap (λ (m : ℕ). m % 127) e)) (w.heads p h))

  -- the word has the mark and the link
  slot_here : Slot f n word
  slot_here =
      let u : word / 65536 ≡ mark % 281474976710656 = omega arith in
      let v : word % 65536 ≡ head = omega (arith, before.within) in
      record { bits = rw (e, u); link = rw (e, v) before }

  -- and so have those before it
  slot_more : (k : ℕ) → k < n + 1 → f k < 18446744073709551616 → Slot f k (get_or words (127 + k) 0)
  slot_more k h l =
      rw (get_or-set_other (set ws (127 + n) word) (mark % 127) (127 + k) (n + 1) 0 (λ q. let z : ⊥ = omega arith in z)) (go (eqb k n) refl)
    where
      go : (b : Bool) → eqb k n ≡ b → Slot f k (get_or (set ws (127 + n) word) (127 + k) 0)
      go true g = rw (eqb-true k n g, get_or-set_same ws (127 + n) word 0 r) slot_here
      go false g =
          rw (get_or-set_other ws (127 + n) (127 + k) word 0 (λ q. let z : ⊥ = omega (arith, eqb-false k n g) in z))
          (w.slots k (omega (arith, eqb-false k n g)) l)

  -- the slot is in the table
  pub linked_more : Linked words f (n + 1)
  linked_more = record { room = rw (length-set, length-set) (omega arith); heads = head_more; slots = slot_more }

-- ---- the same marks by another function

module _ {f g : ℕ → ℕ} {n : ℕ} (e : (k : ℕ) → k < n → f k ≡ g k) where
  -- a place's last slot
  last_marks : {p m j : ℕ} → m ≤ n → Last f p m j → Last g p m j
  last_marks {p} {m} {j} h l = record {
    within = l.within;
    place = λ z. rw (e (j - 1) (omega (arith, l.within))) at (l.place z);
    last = λ k q r. l.last k q (rw (e k (omega arith)) r);
  }

  -- a table
  pub linked_marks : {ws : List ℕ} → Linked ws f n → Linked ws g n
  linked_marks {ws} w = record {
    room = w.room;
    heads = λ p h. last_marks (omega arith) (w.heads p h);
    slots = λ k h l. go k h (w.slots k h (rw (e k h) l));
  }
    where
      go : (k : ℕ) → k < n → {v : ℕ} → Slot f k v → Slot g k v
      go k h s = record { bits = rw (e k h) at s.bits; link = last_marks (omega arith) (rw (e k h) at s.link) }

-- Characters, byte by byte: what a byte does to what is left of a character. Assumes nothing.
use mathlib.Core.Path.{◌≡◌, refl, sym, ◌∙◌, ap}
use mathlib.Core.Bool.{Bool, true, false, ◌&&◌}
use mathlib.Core.List.{List, [], ◌∷◌}
use mathlib.Core.Logic.{◌⊎◌, inl, inr}
use mathlib.Core.Option as grammar
use mathlib.Core.Option.{some, none}
use Prim.Native.Nat.{ℕ, zero, suc, ◌-◌, ◌<◌, ◌≤◌}
use native.Mathlib.Omega.{arith}
use lib.Dec.{leb, eqb}
use lib.ListN.{length, replicate}
use borrow.Author.Tests.{le-leb, leb-true, leb-false, eq-eqb, ne_eqb}
use Rattle.blocks.specs.Utf8.{Range, Form, range, utf8_tail, utf8_char, in_range, begun, rest_of, utf8_octets}
use Rattle.blocks.specs.Name.{allowed, well_formed}
use Rattle.blocks.proofs.Name.{and_left, and_right}
use Rattle.blocks.proofs.Utf8.{FormIn, begun_char, begun_tail, begun_above, range_in, range_before, range_past}
use Rattle.texts.specs.Clear.{Clear}
use Rattle.texts.specs.Triples.{clear_byte}
use Rattle.texts.specs.Left.{ranges_of, form, well, well_behind, goes}
use Rattle.texts.specs.declared.Left.{Left}
use Rattle.std.specs.Prelude.{Option}

-- a conjunction whose second test fails
and_no : (a : Bool) → (a && false) ≡ false
and_no true = refl
and_no false = refl

-- ---- one byte

-- the whole is what is left at the start
pub well_is : (s : List ℕ) → well_formed s ≡ well [] s
unfolding well_formed utf8_octets
well_is s = refl

-- a byte from 0x20 on that is not 0x7F is allowed
may : (b : ℕ) (bs : List ℕ) → 0x20 ≤ b → (b ≡ 0x7F → ⊥) → allowed (b ∷ bs) ≡ allowed bs
unfolding allowed
may b bs l n = rw (le-leb 0x20 b l, ne_eqb b 0x7F n) refl

-- no bytes are well-formed with a byte below 0x80 that is not clear
pub unclear_byte : (f : Form) (b : ℕ) (bs : List ℕ) → clear_byte b ≡ false → b < 0x80 → well f (b ∷ bs) ≡ false
unfolding allowed
unclear_byte f b bs e l = go (leb 0x20 b) refl e
  where
    go : (t : Bool) → leb 0x20 b ≡ t → (t && leb b 0x7E) ≡ false → well f (b ∷ bs) ≡ false
    go true g n = rw (g, eq-eqb b 0x7F (omega (arith, leb-false b 0x7E n, l))) (and_no (rest_of f (b ∷ bs)))
    go false g n = rw g (and_no (rest_of f (b ∷ bs)))

-- a clear byte is a character
pub clear_char : (b : ℕ) (bs : List ℕ) → clear_byte b ≡ true → well [] (b ∷ bs) ≡ well [] bs
unfolding rest_of utf8_char
clear_char b bs e =
    let l : 0x20 ≤ b = leb-true 0x20 b (and_left (leb 0x20 b) _ e) in
    let h : b ≤ 0x7E = leb-true b 0x7E (and_right (leb 0x20 b) _ e) in
    let c : begun utf8_char b ≡ some [] = begun_char b FormIn.this (omega arith) (omega arith) in rw (may b bs l (λ n. omega arith), c, rest_of) refl

-- a byte from 0x80 on begins what the grammar says
pub begun_byte : (b : ℕ) (bs : List ℕ) → 0x80 ≤ b → well [] (b ∷ bs) ≡ well_behind (begun utf8_char b) bs
unfolding rest_of
begun_byte b bs l = rw (may b bs (omega arith) (λ e. omega arith)) (go (begun utf8_char b))
  where
    go : (o : grammar.Option Form) → (elim o [ none ↦ false | some rs ↦ rest_of rs bs ] && allowed bs) ≡ well_behind o bs
    go none = refl
    go (some rs) = refl

-- a byte in the range that is next
pub range_byte : (r : Range) (rs : Form) (b : ℕ) (bs : List ℕ) → 0x80 ≤ r.lo → r.lo ≤ b → b ≤ r.hi → well (r ∷ rs) (b ∷ bs) ≡ well rs bs
unfolding rest_of
range_byte r rs b bs t l h = rw (may b bs (omega arith) (λ e. omega arith), range_in r b l h) refl

-- a byte outside of it
pub outside_byte : (r : Range) (rs : Form) (b : ℕ) (bs : List ℕ) → in_range r b ≡ false → well (r ∷ rs) (b ∷ bs) ≡ false
unfolding rest_of
outside_byte r rs b bs e = rw e refl

-- ---- what a byte from 0x80 on begins

module _ (b : ℕ) where
  -- 0xC2 to 0xDF: one tail
  pub begins_2 : 0xC2 ≤ b → b ≤ 0xDF → begun utf8_char b ≡ some (ranges_of 1 0x80 0xBF)
  unfolding utf8_char
  begins_2 l h = begun_char b (FormIn.later FormIn.this) l h

  -- 0xE0: from 0xA0 on
  pub begins_E0 : b ≡ 0xE0 → begun utf8_char b ≡ some (ranges_of 2 0xA0 0xBF)
  unfolding utf8_char
  begins_E0 e = begun_char b (FormIn.later (FormIn.later FormIn.this)) (omega arith) (omega arith)

  -- 0xED: up to 0x9F
  pub begins_ED : b ≡ 0xED → begun utf8_char b ≡ some (ranges_of 2 0x80 0x9F)
  unfolding utf8_char
  begins_ED e = begun_char b (FormIn.later (FormIn.later (FormIn.later (FormIn.later FormIn.this)))) (omega arith) (omega arith)

  -- the others to 0xEF: two tails
  pub begins_3 : 0xE1 ≤ b → b ≤ 0xEF → (b ≡ 0xED → ⊥) → begun utf8_char b ≡ some (ranges_of 2 0x80 0xBF)
  unfolding utf8_char
  begins_3 l h n = go (leb b 0xEC) refl
    where
      go : (x : Bool) → leb b 0xEC ≡ x → begun utf8_char b ≡ some (ranges_of 2 0x80 0xBF)
      go true e = begun_char b (FormIn.later (FormIn.later (FormIn.later FormIn.this))) l (leb-true b 0xEC e)
      go false e = begun_char b (FormIn.later (FormIn.later (FormIn.later (FormIn.later (FormIn.later FormIn.this))))) (omega (arith, leb-false b 0xEC e)) h

  -- 0xF0: from 0x90 on
  pub begins_F0 : b ≡ 0xF0 → begun utf8_char b ≡ some (ranges_of 3 0x90 0xBF)
  unfolding utf8_char
  begins_F0 e = begun_char b (FormIn.later (FormIn.later (FormIn.later (FormIn.later (FormIn.later (FormIn.later FormIn.this)))))) (omega arith) (omega arith)

  -- 0xF1 to 0xF3: three tails
  pub begins_4 : 0xF1 ≤ b → b ≤ 0xF3 → begun utf8_char b ≡ some (ranges_of 3 0x80 0xBF)
  unfolding utf8_char
  begins_4 l h = begun_char b (FormIn.later (FormIn.later (FormIn.later (FormIn.later (FormIn.later (FormIn.later (FormIn.later FormIn.this))))))) l h

  -- 0xF4: up to 0x8F
  pub begins_F4 : b ≡ 0xF4 → begun utf8_char b ≡ some (ranges_of 3 0x80 0x8F)
  unfolding utf8_char
  begins_F4 e =
      begun_char b (FormIn.later (FormIn.later (FormIn.later (FormIn.later (FormIn.later (FormIn.later (FormIn.later (FormIn.later FormIn.this)))))))) (omega arith) (omega arith)

-- 0x80 to 0xC1: nothing
pub begins_none : (b : ℕ) → 0x80 ≤ b → b < 0xC2 → begun utf8_char b ≡ none
begins_none = begun_tail

-- 0xF5 and above: nothing
pub begins_above : (b : ℕ) → 0xF4 < b → begun utf8_char b ≡ none
begins_above = begun_above

pub ruleset begins = (begins_2, begins_E0, begins_ED, begins_3, begins_F0, begins_4, begins_F4, begins_none, begins_above)

-- ---- what is left

-- of a character that a byte begins
pub left_begun : (r : Option Left) (b : ℕ) (bs : List ℕ) → 0x80 ≤ b → begun utf8_char b ≡ form r → well [] (b ∷ bs) ≡ goes r bs
left_begun r b bs l e = begun_byte b bs l ∙ ap (λ (o : grammar.Option Form). well_behind o bs) e

-- what a byte begins, whichever it is
pub ruleset first_byte = (clear_char, unclear_byte, left_begun)

-- behind a byte in the range that is next: tails
pub left_next : (n lo hi b : ℕ) (bs : List ℕ) → (n ≡ 0 → ⊥) → 0x80 ≤ lo → lo ≤ b → b ≤ hi → well (ranges_of n lo hi) (b ∷ bs) ≡ well (ranges_of (n - 1) 0x80 0xBF) bs
left_next zero lo hi b bs z t l h = absurd (z refl)
left_next (suc zero) lo hi b bs z t l h = range_byte (range lo hi) [] b bs t l h
left_next (suc (suc n)) lo hi b bs z t l h =
    let e : suc (suc n) - 1 ≡ suc n = omega arith in rw e (range_byte (range lo hi) (replicate (suc n) utf8_tail) b bs t l h)

-- behind a byte outside of it: nothing
pub left_never : (n lo hi b : ℕ) (bs : List ℕ) → (n ≡ 0 → ⊥) → (b < lo) ⊎ ((lo ≤ b) × (hi < b)) → well (ranges_of n lo hi) (b ∷ bs) ≡ false
left_never zero lo hi b bs z o = absurd (z refl)
left_never (suc n) lo hi b bs z (inl l) = outside_byte (range lo hi) (replicate n utf8_tail) b bs (range_before (range lo hi) b l)
left_never (suc n) lo hi b bs z (inr h) = outside_byte (range lo hi) (replicate n utf8_tail) b bs (range_past (range lo hi) b h.1)

-- nothing is left exactly where no byte must follow
pub nothing_left : (n lo hi : ℕ) → well (ranges_of n lo hi) [] ≡ eqb n 0
unfolding rest_of allowed
nothing_left zero lo hi = refl
nothing_left (suc n) lo hi = sym (ne_eqb (suc n) 0 (λ e. omega arith))

-- ---- clear bytes

-- they are characters
clear_chars : (s : List ℕ) → Clear s 0 (length s) → well [] s ≡ true
unfolding rest_of allowed
clear_chars [] h = refl
clear_chars (b ∷ bs) h = clear_char b bs (h zero (omega arith) (omega arith)) ∙ clear_chars bs (λ k l g. h (suc k) (omega arith) (omega arith))

-- bytes that are all clear are well-formed
pub clear_well : (s : List ℕ) → Clear s 0 (length s) → well_formed s ≡ true
clear_well s h = well_is s ∙ clear_chars s h

-- Characters of one to three bytes: bytes of which each goes with the two before are well-formed. Assumes nothing.
use mathlib.Core.Path.{◌≡◌, refl, sym, ◌∙◌, ap}
use mathlib.Core.Bool.{Bool, true, false, not, ◌&&◌, ◌||◌, cond}
use mathlib.Core.List.{List, [], ◌∷◌}
use mathlib.Core.Option.{Option, some, none}
use Prim.Native.Nat.{ℕ, zero, suc, ◌+◌, ◌-◌, ◌<◌, ◌≤◌}
use native.Mathlib.Omega.{arith}
use lib.Dec.{leb, ltb, eqb}
use lib.ListN.{length, get_or}
use borrow.Author.Tests.{le-leb, lt-leb, leb-true, leb-false, eqb-true, eqb-false, eq-eqb, ltb-true, ltb-false}
use Rattle.blocks.specs.Utf8.{Form, range, utf8_tail, utf8_char, begun, rest_of}
use Rattle.blocks.specs.Name.{allowed, well_formed}
use Rattle.blocks.proofs.Name.{and_left, and_right, false_true}
use Rattle.texts.specs.Triples.{leads, leads3, tail, clear_byte, unended, narrow, fits, triple1, Tripled}
use Rattle.texts.specs.Left.{well, well_behind}
use Rattle.texts.proofs.Characters.{well_is, clear_char, begun_byte, begins_2, begins_E0, begins_ED, begins_3, range_byte}

-- ---- a byte by its place in the characters

-- a byte between two bounds passes their test
between : (lo hi b : ℕ) → lo ≤ b → b ≤ hi → (leb lo b && leb b hi) ≡ true
between lo hi b l h = rw (le-leb lo b l, le-leb b hi h) refl

-- one below fails it
below : (lo hi b : ℕ) → b < lo → (leb lo b && leb b hi) ≡ false
below lo hi b l = rw (lt-leb lo b l) refl

-- the bounds of a byte that passes it
bounds : (lo hi b : ℕ) → (leb lo b && leb b hi) ≡ true → (lo ≤ b) × (b ≤ hi)
bounds lo hi b e = (leb-true lo b (and_left (leb lo b) _ e), leb-true b hi (and_right (leb lo b) _ e))

-- what the first byte of a character leaves
data Leads (a : ℕ) : Type 0 where
  -- of two: a tail
  of_two : a < 0xE0 → begun utf8_char a ≡ some (utf8_tail ∷ []) → Leads a
  -- of three: a byte in a range that has only tails and may be narrow, and a tail
  of_three : {lo hi : ℕ} → 0xE0 ≤ a → a ≤ 0xEF → 0x80 ≤ lo → begun utf8_char a ≡ some (range lo hi ∷ utf8_tail ∷ [])
      → ((b : ℕ) → 0x80 ≤ b → b ≤ 0xBF → narrow a b ≡ true → (lo ≤ b) × (b ≤ hi)) → Leads a

-- of two tests that do not both fail, by the first
pick : (o t c : Bool) → ((o && t) || (not o && c)) ≡ true → o ≡ true → t ≡ true
pick true true c e h = refl
pick true false c e h = e
pick false t c e h = false_true h

-- by the other
pick_other : (o t c : Bool) → ((o && t) || (not o && c)) ≡ true → o ≡ false → c ≡ true
pick_other true t c e h = false_true (sym h)
pick_other false t c e h = e

-- behind 0xE0 no overlong form
narrow_E0 : (a b : ℕ) → a ≡ 0xE0 → narrow a b ≡ true → 0xA0 ≤ b
narrow_E0 a b e n = go (leb 0xA0 b) refl (rw (eq-eqb a 0xE0 e) at n)
  where
    go : (x : Bool) → leb 0xA0 b ≡ x → not ((true && not x) || (eqb a 0xED && x)) ≡ true → 0xA0 ≤ b
    go true h f = leb-true 0xA0 b h
    go false h f = false_true f

-- behind 0xED no surrogate
narrow_ED : (a b : ℕ) → a ≡ 0xED → narrow a b ≡ true → b ≤ 0x9F
narrow_ED a b e n = go (eqb a 0xE0) (leb 0xA0 b) refl (rw (eq-eqb a 0xED e) at n)
  where
    go : (y x : Bool) → leb 0xA0 b ≡ x → not ((y && not x) || (true && x)) ≡ true → b ≤ 0x9F
    go true true h f = false_true f
    go false true h f = false_true f
    go y false h f = omega (arith, leb-false 0xA0 b h)

-- each first byte of two or three leaves one of these
leads_so : (a : ℕ) → leads a ≡ true → Leads a
leads_so a e = go (ltb a 0xE0) refl (bounds 0xC2 0xEF a e)
  where
    go'' : (z : Bool) → eqb a 0xED ≡ z → 0xE1 ≤ a → a ≤ 0xEF → Leads a
    go'' true h l u = Leads.of_three {lo = 0x80} {hi = 0x9F} (omega arith) u (omega arith) (begins_ED a (eqb-true a 0xED h)) (λ b x y n. (x, narrow_ED a b (eqb-true a 0xED h) n))
    go'' false h l u = Leads.of_three {lo = 0x80} {hi = 0xBF} (omega arith) u (omega arith) (begins_3 a l u (eqb-false a 0xED h)) (λ b x y n. (x, y))

    go' : (y : Bool) → eqb a 0xE0 ≡ y → 0xE0 ≤ a → a ≤ 0xEF → Leads a
    go' true h l u = Leads.of_three {lo = 0xA0} {hi = 0xBF} l u (omega arith) (begins_E0 a (eqb-true a 0xE0 h)) (λ b x y n. (narrow_E0 a b (eqb-true a 0xE0 h) n, y))
    go' false h l u = go'' (eqb a 0xED) refl (omega (arith, eqb-false a 0xE0 h)) u

    go : (x : Bool) → ltb a 0xE0 ≡ x → (0xC2 ≤ a) × (a ≤ 0xEF) → Leads a
    go true h g = Leads.of_two (ltb-true a 0xE0 h) (begins_2 a g.0 (omega (arith, ltb-true a 0xE0 h)))
    go false h g = go' (eqb a 0xE0) refl (ltb-false a 0xE0 h) g.1

-- ---- what is left behind two bytes

-- the form that a byte begins
abbrev form_of : ℕ → Form
form_of a = elim (begun utf8_char a) [ none ↦ [] | some f ↦ f ]

-- of what was left behind q and a: that of a where it begins a character, a tail behind the second of three, else nothing
abbrev left : ℕ → ℕ → Form
left q a = cond (leads a) (form_of a) (cond (leads3 q) (utf8_tail ∷ []) [])

-- behind the first byte of a character
left_led : (q a : ℕ) {f : Form} → leads a ≡ true → begun utf8_char a ≡ some f → left q a ≡ f
left_led q a {f} e h = rw e (ap (λ (o : Option Form). elim o [ none ↦ [] | some g ↦ g ]) h)

-- behind the second of three
left_tail : (q a : ℕ) → leads a ≡ false → leads3 q ≡ true → left q a ≡ utf8_tail ∷ []
left_tail q a e h = rw (e, h) refl

-- behind the last of a character
left_none : (q a : ℕ) → leads a ≡ false → leads3 q ≡ false → left q a ≡ []
left_none q a e h = rw (e, h) refl

-- a tail is not the first byte of a character
tail_leads : (b : ℕ) → tail b ≡ true → leads b ≡ false
tail_leads b e = let h = bounds 0x80 0xBF b e in below 0xC2 0xEF b (omega (arith, h.1))

-- a byte that is not the first of two or three is not the first of three
not_leads : (a : ℕ) → leads a ≡ false → leads3 a ≡ false
not_leads a e = go (leads3 a) refl
  where
    go : (x : Bool) → leads3 a ≡ x → x ≡ false
    go true h = let k = bounds 0xE0 0xEF a h in sym (between 0xC2 0xEF a (omega (arith, k.0)) k.1) ∙ e
    go false h = refl

-- what was found of one byte more: what is left then, and that behind the first of three stands a tail
abbrev More : ℕ → ℕ → ℕ → List ℕ → Type 0
More q a b bs = (well (left q a) (b ∷ bs) ≡ well (left a b) bs) × (leads3 a ≡ true → tail b ≡ true)

module _ (q a b : ℕ) (bs : List ℕ) (i : leads3 q ≡ true → tail a ≡ true) (f : fits q a b ≡ true) where
  -- a character that has not ended goes on
  on : unended q a ≡ true → tail b ≡ true
  unfolding fits
  on o = pick (unended q a) (tail b) (clear_byte b || leads b) (and_left ((unended q a && tail b) || (not (unended q a) && (clear_byte b || leads b))) _ f) o

  -- and another begins
  new : unended q a ≡ false → (clear_byte b || leads b) ≡ true
  unfolding fits
  new o = pick_other (unended q a) (tail b) (clear_byte b || leads b) (and_left ((unended q a && tail b) || (not (unended q a) && (clear_byte b || leads b))) _ f) o

  -- the second byte
  second : leads a ≡ true → Leads a → More q a b bs
  unfolding fits
  second e (Leads.of_two l g) =
      let t = on (rw e refl) in
      let h = bounds 0x80 0xBF b t in
      let z : leads3 a ≡ false = below 0xE0 0xEF a l in
      (rw (left_led q a e g, left_none a b (tail_leads b t) z) (range_byte utf8_tail [] b bs (omega arith) h.0 h.1), λ x. t)
  second e (Leads.of_three {lo = lo} {hi = hi} l u r g m) =
      let t = on (rw e refl) in
      let h = bounds 0x80 0xBF b t in
      let k = m b h.0 h.1 (and_right ((unended q a && tail b) || (not (unended q a) && (clear_byte b || leads b))) _ f) in
      (rw (left_led q a e g, left_tail a b (tail_leads b t) (between 0xE0 0xEF a l u)) (range_byte (range lo hi) (utf8_tail ∷ []) b bs r k.0 k.1), λ x. t)

  -- the third
  third : leads a ≡ false → leads3 q ≡ true → More q a b bs
  third e g =
      let t = on (rw (e, g) refl) in
      let h = bounds 0x80 0xBF b t in
      let k = bounds 0x80 0xBF a (i g) in
      let z : leads3 a ≡ false = below 0xE0 0xEF a (omega (arith, k.1)) in
      (rw (left_tail q a e g, left_none a b (tail_leads b t) z) (range_byte utf8_tail [] b bs (omega arith) h.0 h.1), λ x. t)

  -- a clear byte
  clear_first : leads a ≡ false → leads3 q ≡ false → clear_byte b ≡ true → More q a b bs
  clear_first e g c =
      let h = bounds 0x20 0x7E b c in
      let z = below 0xC2 0xEF b (omega (arith, h.1)) in
      (rw (left_none q a e g, left_none a b z (not_leads a e)) (clear_char b bs c), λ x. false_true (sym (not_leads a e) ∙ x))

  -- the first of a character, by what it leaves
  led : leads a ≡ false → leads3 q ≡ false → leads b ≡ true → {f : Form} → begun utf8_char b ≡ some f → More q a b bs
  led e g c {f} k =
      let h = bounds 0xC2 0xEF b c in
      (rw (left_none q a e g, left_led a b c k) (begun_byte b bs (omega (arith, h.0)) ∙ ap (λ (o : Option Form). well_behind o bs) k), λ x. false_true (sym (not_leads a e) ∙ x))

  -- whatever it leaves
  led_first : leads a ≡ false → leads3 q ≡ false → leads b ≡ true → Leads b → More q a b bs
  led_first e g c (Leads.of_two l k) = led e g c k
  led_first e g c (Leads.of_three l u r k m) = led e g c k

  -- a first byte: a clear one, or the first of a character
  first : leads a ≡ false → leads3 q ≡ false → More q a b bs
  first e g = go (clear_byte b) refl (new (rw (e, g) refl))
    where
      go : (x : Bool) → clear_byte b ≡ x → (x || leads b) ≡ true → More q a b bs
      go true c h = clear_first e g c
      go false c h = led_first e g h (leads_so b h)

  -- by what was left
  more : More q a b bs
  more = go (leads a) refl (leads3 q) refl
    where
      go : (x : Bool) → leads a ≡ x → (y : Bool) → leads3 q ≡ y → More q a b bs
      go true e y g = second e (leads_so a e)
      go false e true g = third e g
      go false e false g = first e g

-- ---- all bytes

-- without the first byte each stands one place before
shifted : (q a b : ℕ) (bs : List ℕ) → Tripled (q ∷ (a ∷ (b ∷ bs))) 0 (length (b ∷ bs)) → Tripled (a ∷ (b ∷ bs)) 0 (length bs)
shifted q a b bs p k l h =
    let y : suc k + 1 ≡ suc (k + 1) = omega arith in
    let z : suc k + 2 ≡ suc (k + 2) = omega arith in
    let t : triple1 (q ∷ (a ∷ (b ∷ bs))) (suc k) ≡ true = p (suc k) (omega arith) (omega arith) in
    rw (y, z) at t

-- behind two bytes, all that go with the two before them; the last two begin nothing that is not ended
all_behind : (q a : ℕ) (bs : List ℕ) → (leads3 q ≡ true → tail a ≡ true) → Tripled (q ∷ (a ∷ bs)) 0 (length bs)
    → leads (get_or (a ∷ bs) (length bs) 0) ≡ false → leads3 (get_or (q ∷ (a ∷ bs)) (length bs) 0) ≡ false → well (left q a) bs ≡ true
unfolding rest_of allowed
all_behind q a [] i p e g = rw (left_none q a e g) refl
all_behind q a (b ∷ bs) i p e g =
    let m = more q a b bs i (p zero (omega arith) (omega arith)) in
    m.0 ∙ all_behind a b bs m.1 (shifted q a b bs p) e g

-- what the code asks of the first two bytes, of the last two, and of all
pub triples_well : (s : List ℕ) → 2 ≤ length s → (clear_byte (get_or s 0 0) || leads (get_or s 0 0)) ≡ true → fits 0x20 (get_or s 0 0) (get_or s 1 0) ≡ true
    → leads (get_or s (length s - 1) 0) ≡ false → leads3 (get_or s (length s - 2) 0) ≡ false → Tripled s 0 (length s - 2) → well_formed s ≡ true
unfolding fits
triples_well [] l b f e g p = absurd (omega arith)
triples_well (x ∷ []) l b f e g p = absurd (omega arith)
triples_well (x ∷ (y ∷ zs)) l b f e g p =
    let u : length (x ∷ (y ∷ zs)) - 1 ≡ suc (length zs) = omega arith in
    let v : length (x ∷ (y ∷ zs)) - 2 ≡ length zs = omega arith in
    let none : (z : ℕ) → leads3 0x20 ≡ true → tail z ≡ true = λ z h. false_true h in
    let m = more 0x20 0x20 x (y ∷ zs) (none 0x20) (start x b) in
    let n = more 0x20 x y zs (none x) f in
    well_is (x ∷ (y ∷ zs)) ∙ m.0 ∙ n.0 ∙ all_behind x y zs n.1 (rw v at p) (rw u at e) (rw v at g)
  where
    start : (x : ℕ) → (clear_byte x || leads x) ≡ true → fits 0x20 0x20 x ≡ true
    start x h = rw h refl

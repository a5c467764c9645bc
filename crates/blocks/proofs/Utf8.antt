-- UTF-8: the test says what the grammar says; texts may be joined, and cut at an ASCII byte.
use Prim.Native.Nat.{ℕ, suc, ◌<◌, ◌≤◌}
use native.Mathlib.Omega.{arith}
use mathlib.Core.Path.{◌≡◌, refl, ◌∙◌, ap}
use mathlib.Core.Bool.{Bool, true, false, ◌&&◌, cond}
use mathlib.Core.List.{List, [], ◌∷◌, ◌++◌}
use mathlib.Core.Option.{Option, some, none}
use lib.Dec.{leb}
use lib.ListN.{length}
use borrow.Author.Tests.{le-leb, lt-leb, leb-true}
use Rattle.blocks.specs.Utf8.{Range, Form, Matches, OneOf, Octets, utf8_char, in_range, begun, rest_of, utf8_octets}
use Rattle.blocks.specs.Name.{Name, may_stand, allowed, well_formed, is_text}
use Rattle.blocks.proofs.Name.{and_left, and_right, false_true}

-- two tests that hold hold together
pub both : (a b : Bool) → a ≡ true → b ≡ true → (a && b) ≡ true
both a b e f = rw (e, f)

-- no form is found among none
none_some : {X : Type 0} {f : Form} → ◌≡◌ {A = Option Form} none (some f) → X
none_some e = false_true (ap (λ (x : Option Form). elim x [ none ↦ false | some g ↦ true ]) e)

-- the form that was found is the one
some_some : {f g : Form} → ◌≡◌ {A = Option Form} (some f) (some g) → f ≡ g
some_some e = cc

-- what a test of a byte by a range says
pub in_range_lem : (r : Range) (b : ℕ) → in_range r b ≡ true → (r.lo ≤ b) × (b ≤ r.hi)
in_range_lem r b e = (leb-true _ _ (and_left (leb r.lo b) _ e), leb-true _ _ (and_right (leb r.lo b) _ e))

-- the other way round
pub range_in : (r : Range) (b : ℕ) → r.lo ≤ b → b ≤ r.hi → in_range r b ≡ true
range_in r b l h = both (leb r.lo b) (leb b r.hi) (le-leb _ _ l) (le-leb _ _ h)

-- ---- what the test accepts is of the grammar

-- a byte that begins a form, and bytes that match what is left of it, are a character of one of the forms
begun_one : (fs : List Form) (b : ℕ) {rs : Form} → begun fs b ≡ some rs → {c : List ℕ} → Matches rs c → OneOf (b ∷ c) fs
unfolding begun
begun_one [] b e m = none_some e
begun_one ([] ∷ fs) b e m = OneOf.later (begun_one fs b e m)
begun_one ((r ∷ rs) ∷ fs) b {rs = q} e {c = c} m = go (in_range r b) refl e (λ f. begun_one fs b f m)
  where
    go : (t : Bool) → in_range r b ≡ t → cond t (some rs) (begun fs b) ≡ some q → (begun fs b ≡ some q → OneOf (b ∷ c) fs) → OneOf (b ∷ c) ((r ∷ rs) ∷ fs)
    go true h g ih = OneOf.this (Matches.byte {rs = rs} {bs = c} (in_range_lem r b h).0 (in_range_lem r b h).1 (rw (some_some g) m))
    go false h g ih = OneOf.later (ih g)

-- bytes that match a form, and characters behind them
data Left (f : Form) : List ℕ → Type 0 where
  left : {c bs : List ℕ} → Matches f c → Octets bs → Left f (c ++ bs)

-- characters alone
left_octets : {n : List ℕ} → Left [] n → Octets n
left_octets (Left.left Matches.nothing o) = o

-- what is accepted behind the part of a character: the rest of it, and characters
left_accepted : (f : Form) (n : List ℕ) → rest_of f n ≡ true → Left f n
unfolding rest_of
left_accepted [] [] e = Left.left Matches.nothing Octets.nothing
left_accepted (r ∷ rs) [] e = false_true e
left_accepted (r ∷ rs) (b ∷ bs) e = go (left_accepted rs bs (and_right (in_range r b) _ e))
  where
    go : {n : List ℕ} → Left rs n → Left (r ∷ rs) (b ∷ n)
    go (Left.left m o) = Left.left (Matches.byte (in_range_lem r b (and_left _ _ e)).0 (in_range_lem r b (and_left _ _ e)).1 m) o
left_accepted [] (b ∷ bs) e = go (begun utf8_char b) refl e (λ rs. left_accepted rs bs)
  where
    more : {rs : Form} {n : List ℕ} → begun utf8_char b ≡ some rs → Left rs n → Octets (b ∷ n)
    more h (Left.left m o) = Octets.char (begun_one utf8_char b h m) o

    go : (x : Option Form) → begun utf8_char b ≡ x → elim x [ none ↦ false | some rs ↦ rest_of rs bs ] ≡ true → ((rs : Form) → rest_of rs bs ≡ true → Left rs bs) → Left [] (b ∷ bs)
    go none h g ih = false_true g
    go (some rs) h g ih = Left.left Matches.nothing (more h (ih rs g))

-- what the test accepts is "*( UTF8-char )"
pub octets_accepted : (n : List ℕ) → utf8_octets n ≡ true → Octets n
unfolding utf8_octets
octets_accepted n e = left_octets (left_accepted [] n e)

-- ---- what is of the grammar is accepted

-- each form begins behind the bytes that those before it begin with, from n on
abbrev pub After : ℕ → List Form → Type 0
After n [] = Unit
After n ([] ∷ fs) = ⊥
After n ((r ∷ rs) ∷ fs) = (n ≤ r.lo) × (r.lo ≤ r.hi) × After (suc r.hi) fs

-- the forms of the grammar do
pub chars_after : After 0 utf8_char
unfolding utf8_char
chars_after = (
  omega arith,
  omega arith,
  (
    omega arith,
    omega arith,
    (
      omega arith,
      omega arith,
      (
        omega arith,
        omega arith,
        (
          omega arith,
          omega arith,
          (omega arith, omega arith, (omega arith, omega arith, (omega arith, omega arith, (omega arith, omega arith, tt)))),
        ),
      ),
    ),
  ),
)

-- a character of such forms begins with a byte from n on
after_first : (n : ℕ) (fs : List Form) (b : ℕ) {c : List ℕ} → After n fs → OneOf (b ∷ c) fs → n ≤ b
after_first n ((r ∷ rs) ∷ fs) b a (OneOf.this (Matches.byte l h m)) = omega (arith, a.0)
after_first n ((r ∷ rs) ∷ fs) b a (OneOf.later o) = omega (arith, a.0, a.1, after_first (suc r.hi) fs b a.2 o)
after_first n [] b {c = c} a x'' = elim x'' [ ]
after_first n ([] ∷ fs) b {c = c} a _ = elim a [ ]

-- what is left of the form that a byte begins, and the bytes that match it
data Begun (fs : List Form) (b : ℕ) (c : List ℕ) : Type 0 where
  with_rest : {rs : Form} → begun fs b ≡ some rs → Matches rs c → Begun fs b c

-- a character of such forms begins one of them and goes on as it does
one_begun : (n : ℕ) (fs : List Form) (b : ℕ) {c : List ℕ} → After n fs → OneOf (b ∷ c) fs → Begun fs b c
unfolding begun
one_begun n ((r ∷ rs) ∷ fs) b a (OneOf.this (Matches.byte l h m)) = Begun.with_rest {rs = rs} (rw (range_in r b l h)) m
one_begun n ((r ∷ rs) ∷ fs) b {c} a (OneOf.later o) = go (one_begun (suc r.hi) fs b a.2 o)
  where
    past : in_range r b ≡ false
    past = go' (leb r.lo b) (leb b r.hi) refl
      where
        go' : (x y : Bool) → leb b r.hi ≡ y → (x && y) ≡ false
        go' true true e = absurd (omega (arith, leb-true b r.hi e, after_first (suc r.hi) fs b a.2 o))
        go' true false e = refl
        go' false y e = refl

    go : Begun fs b c → Begun ((r ∷ rs) ∷ fs) b c
    go (Begun.with_rest {rs = q} e m) = Begun.with_rest {rs = q} (rw past e) m
one_begun n [] b {c = c} a x'' = elim x'' [ ]
one_begun n ([] ∷ fs) b {c = c} a _ = elim a [ ]

-- bytes that match a form, and accepted ones behind them
matched_accepted : {f : Form} {c : List ℕ} (bs : List ℕ) → Matches f c → rest_of [] bs ≡ true → rest_of f (c ++ bs) ≡ true
unfolding rest_of
matched_accepted bs Matches.nothing e = e
matched_accepted bs (Matches.byte {r = r} {b = b} l h m) e = both (in_range r b) _ (range_in r b l h) (matched_accepted bs m e)

-- "*( UTF8-char )" is accepted
pub accepted_octets : {n : List ℕ} → Octets n → utf8_octets n ≡ true
unfolding utf8_octets rest_of
accepted_octets Octets.nothing = refl
accepted_octets (Octets.char {c = c} {bs = bs} o os) = go c o (accepted_octets os)
  where
    go : (c : List ℕ) → OneOf c utf8_char → rest_of [] bs ≡ true → rest_of [] (c ++ bs) ≡ true
    go [] o e = e
    go (b ∷ cs) o e = go' (one_begun 0 utf8_char b chars_after o)
      where
        go' : Begun utf8_char b cs → rest_of [] (b ∷ (cs ++ bs)) ≡ true
        go' (Begun.with_rest h m) = rw (h, rest_of) (matched_accepted bs m e)

-- ---- joined

-- accepted bytes, of which the first may be the rest of a character, and accepted ones behind them
rest_join : (f : Form) (a b : List ℕ) → rest_of f a ≡ true → rest_of [] b ≡ true → rest_of f (a ++ b) ≡ true
unfolding rest_of
rest_join [] [] b e g = g
rest_join (r ∷ rs) [] b e g = false_true e
rest_join (r ∷ rs) (x ∷ xs) b e g = both (in_range r x) _ (and_left _ _ e) (rest_join rs xs b (and_right (in_range r x) _ e) g)
rest_join [] (x ∷ xs) b e g = go (begun utf8_char x) e (λ rs h. rest_join rs xs b h g)
  where
    go : (o : Option Form) → elim o [ none ↦ false | some rs ↦ rest_of rs xs ] ≡ true → ((rs : Form) → rest_of rs xs ≡ true → rest_of rs (xs ++ b) ≡ true)
        → elim o [ none ↦ false | some rs ↦ rest_of rs (xs ++ b) ] ≡ true
    go none h ih = h
    go (some rs) h ih = ih rs h

-- bytes that are allowed, one list behind the other
allowed_join : (a b : List ℕ) → allowed a ≡ true → allowed b ≡ true → allowed (a ++ b) ≡ true
unfolding allowed
allowed_join [] b e g = g
allowed_join (x ∷ xs) b e g = both (may_stand x) _ (and_left _ _ e) (allowed_join xs b (and_right (may_stand x) _ e) g)

-- two well-formed names, one behind the other, are one
pub well_join : (a b : Name) → well_formed a ≡ true → well_formed b ≡ true → well_formed (a ++ b) ≡ true
unfolding well_formed utf8_octets
well_join a b e g =
    both (rest_of [] (a ++ b)) (allowed (a ++ b))
    (rest_join [] a b (and_left (rest_of [] a) _ e) (and_left (rest_of [] b) _ g))
    (allowed_join a b (and_right (rest_of [] a) _ e) (and_right (rest_of [] b) _ g))

-- ---- cut at an ASCII byte

-- no range of a form has an ASCII byte
abbrev High : Form → Type 0
High [] = Unit
High (r ∷ rs) = (0x80 ≤ r.lo) × High rs

-- behind its first range
abbrev Tails : List Form → Type 0
Tails [] = Unit
Tails ([] ∷ fs) = Tails fs
Tails ((r ∷ rs) ∷ fs) = High rs × Tails fs

-- so are the forms of the grammar
chars_tails : Tails utf8_char
unfolding utf8_char
chars_tails = (
  tt,
  (
    (omega arith, tt),
    (
      (omega arith, (omega arith, tt)),
      (
        (omega arith, (omega arith, tt)),
        (
          (omega arith, (omega arith, tt)),
          (
            (omega arith, (omega arith, tt)),
            ((omega arith, (omega arith, (omega arith, tt))), ((omega arith, (omega arith, (omega arith, tt))), ((omega arith, (omega arith, (omega arith, tt))), tt))),
          ),
        ),
      ),
    ),
  ),
)

-- what is left of a character that was begun has no ASCII byte
begun_high : (fs : List Form) (b : ℕ) {rs : Form} → Tails fs → begun fs b ≡ some rs → High rs
unfolding begun
begun_high [] b t e = none_some e
begun_high ([] ∷ fs) b t e = begun_high fs b t e
begun_high ((r ∷ rs) ∷ fs) b {rs = q} t e = go (in_range r b) e (begun_high fs b t.1)
  where
    go : (x : Bool) → cond x (some rs) (begun fs b) ≡ some q → (begun fs b ≡ some q → High q) → High q
    go true h ih = rw (← some_some h) t.0
    go false h ih = ih h

-- an ASCII byte is a character
begun_ascii : (x : ℕ) → x < 0x80 → begun utf8_char x ≡ some []
unfolding begun utf8_char
begun_ascii x h = rw (le-leb 0 x (omega arith), le-leb x 0x7F (omega arith))

-- what stands before and behind an ASCII byte of accepted bytes is accepted
rest_cut : (f : Form) (a : List ℕ) (x : ℕ) (b : List ℕ) → High f → x < 0x80 → rest_of f (a ++ (x ∷ b)) ≡ true → (rest_of f a ≡ true) × (rest_of [] b ≡ true)
unfolding rest_of
rest_cut [] [] x b h l e = (refl, rw (begun_ascii x l, rest_of) at e)
rest_cut (r ∷ rs) [] x b h l e = absurd (omega (arith, h.0, (in_range_lem r x (and_left _ _ e)).0))
rest_cut (r ∷ rs) (y ∷ ys) x b h l e =
    let ih = rest_cut rs ys x b h.1 l (and_right (in_range r y) _ e) in
    (both (in_range r y) _ (and_left _ _ e) ih.0, ih.1)
rest_cut [] (y ∷ ys) x b h l e = go (begun utf8_char y) refl e (λ rs t g. rest_cut rs ys x b t l g)
  where
    go : (o : Option Form) → begun utf8_char y ≡ o → elim o [ none ↦ false | some rs ↦ rest_of rs (ys ++ (x ∷ b)) ] ≡ true
        → ((rs : Form) → High rs → rest_of rs (ys ++ (x ∷ b)) ≡ true → (rest_of rs ys ≡ true) × (rest_of [] b ≡ true))
        → (elim o [ none ↦ false | some rs ↦ rest_of rs ys ] ≡ true) × (rest_of [] b ≡ true)
    go none q g ih = false_true g
    go (some rs) q g ih = ih rs (begun_high utf8_char y chars_tails q) g

-- parts of bytes that are allowed
allowed_cut : (a : List ℕ) (x : ℕ) (b : List ℕ) → allowed (a ++ (x ∷ b)) ≡ true → (allowed a ≡ true) × (allowed b ≡ true)
unfolding allowed
allowed_cut [] x b e = (refl, and_right (may_stand x) _ e)
allowed_cut (y ∷ ys) x b e =
    let ih = allowed_cut ys x b (and_right (may_stand y) _ e) in
    (both (may_stand y) _ (and_left _ _ e) ih.0, ih.1)

-- what stands before an ASCII byte of a well-formed name is well-formed
pub well_before : (a : Name) (x : ℕ) (b : Name) → x < 0x80 → well_formed (a ++ (x ∷ b)) ≡ true → well_formed a ≡ true
unfolding well_formed utf8_octets
well_before a x b l e =
    both (rest_of [] a) (allowed a) (rest_cut [] a x b tt l (and_left _ _ e)).0 (allowed_cut a x b (and_right (rest_of [] (a ++ (x ∷ b))) _ e)).0

-- and so is what stands behind it
pub well_behind : (a : Name) (x : ℕ) (b : Name) → x < 0x80 → well_formed (a ++ (x ∷ b)) ≡ true → well_formed b ≡ true
unfolding well_formed utf8_octets
well_behind a x b l e =
    both (rest_of [] b) (allowed b) (rest_cut [] a x b tt l (and_left _ _ e)).1 (allowed_cut a x b (and_right (rest_of [] (a ++ (x ∷ b))) _ e)).1

-- ---- texts

-- a text is well-formed
pub text_well : (n : Name) → is_text n ≡ true → well_formed n ≡ true
unfolding is_text
text_well n e = and_right (leb (length n) 255) _ e

-- and of at most 255 bytes
pub text_short : (n : Name) → is_text n ≡ true → length n ≤ 255
unfolding is_text
text_short n e = leb-true _ _ (and_left _ _ e)

-- a well-formed name of at most 255 bytes is a text
pub well_text : (n : Name) → well_formed n ≡ true → leb (length n) 255 ≡ true → is_text n ≡ true
unfolding is_text
well_text n e h = both (leb (length n) 255) (well_formed n) h e

-- ---- the form that a byte begins, for code that tells it by comparing

-- a form of some
pub data FormIn (f : Form) : List Form → Type 0 where
  this : {fs : List Form} → FormIn f (f ∷ fs)
  later : {g : Form} {fs : List Form} → FormIn f fs → FormIn f (g ∷ fs)

-- forms that begin behind a byte are not begun by it
begun_before : (n : ℕ) (fs : List Form) (b : ℕ) → After n fs → b < n → begun fs b ≡ none
unfolding begun
begun_before n [] b a l = refl
begun_before n ((r ∷ rs) ∷ fs) b a l =
    let e : leb r.lo b ≡ false = lt-leb r.lo b (omega (arith, a.0)) in rw e (begun_before (suc r.hi) fs b a.2 (omega (arith, a.0, a.1)))
begun_before n ([] ∷ fs) b a l = elim a [ ]

-- a range that ends before a byte has not got it
pub range_past : (r : Range) (b : ℕ) → r.hi < b → in_range r b ≡ false
range_past r b l = go (leb r.lo b) (leb b r.hi) (lt-leb _ _ l)
  where
    go : (x y : Bool) → y ≡ false → (x && y) ≡ false
    go true y e = e
    go false y e = refl

-- a range that begins behind a byte has not got it
pub range_before : (r : Range) (b : ℕ) → b < r.lo → in_range r b ≡ false
range_before r b l = rw (lt-leb r.lo b l) refl

-- the first form, where it ends before a byte, is not begun by it
begun_past : (r : Range) (rs : Form) (fs : List Form) (b : ℕ) → r.hi < b → begun ((r ∷ rs) ∷ fs) b ≡ begun fs b
unfolding begun
begun_past r rs fs b l = rw (range_past r b l) refl

-- such a form begins with a byte from n on
form_first : (n : ℕ) (fs : List Form) {r : Range} {rs : Form} (b : ℕ) → After n fs → FormIn (r ∷ rs) fs → r.lo ≤ b → n ≤ b
form_first n ((q ∷ qs) ∷ fs) b a FormIn.this l = omega (arith, a.0)
form_first n ((q ∷ qs) ∷ fs) b a (FormIn.later i) l = omega (arith, a.0, a.1, form_first (suc q.hi) fs b a.2 i l)
form_first n [] {r = r} {rs = rs} b a x3 l = elim x3 [ ]
form_first n ([] ∷ fs) {r = r} {rs = rs} b a _ l = elim a [ ]

-- a byte in the first range of a form begins it
begun_form : (n : ℕ) (fs : List Form) {r : Range} {rs : Form} (b : ℕ) → After n fs → FormIn (r ∷ rs) fs → r.lo ≤ b → b ≤ r.hi → begun fs b ≡ some rs
unfolding begun
begun_form n ((q ∷ qs) ∷ fs) b a FormIn.this l h = rw (range_in q b l h) refl
begun_form n ((q ∷ qs) ∷ fs) b a (FormIn.later i) l h = begun_past q qs fs b (form_first (suc q.hi) fs b a.2 i l) ∙ begun_form (suc q.hi) fs b a.2 i l h
begun_form n [] {r = r} {rs = rs} b a x4 l h = elim x4 [ ]
begun_form n ([] ∷ fs) {r = r} {rs = rs} b a _ l h = elim a [ ]

-- a byte in the first range of a form of the grammar begins it
pub begun_char : {r : Range} {rs : Form} (b : ℕ) → FormIn (r ∷ rs) utf8_char → r.lo ≤ b → b ≤ r.hi → begun utf8_char b ≡ some rs
begun_char b i l h = begun_form 0 utf8_char b chars_after i l h

-- a byte from 0x80 to 0xC1 begins no character
pub begun_tail : (b : ℕ) → 0x80 ≤ b → b < 0xC2 → begun utf8_char b ≡ none
unfolding utf8_char
begun_tail b l h = begun_past _ [] _ b (omega arith) ∙ begun_before 0xC2 _ b (omega arith, chars_after.2.1, chars_after.2.2) h

-- each form begins with a byte below n
abbrev Under : ℕ → List Form → Type 0
Under n [] = Unit
Under n ([] ∷ fs) = Under n fs
Under n ((r ∷ rs) ∷ fs) = (r.hi < n) × Under n fs

-- no byte from there on begins one
begun_behind : (n : ℕ) (fs : List Form) (b : ℕ) → Under n fs → n ≤ b → begun fs b ≡ none
unfolding begun
begun_behind n [] b u l = refl
begun_behind n ([] ∷ fs) b u l = begun_behind n fs b u l
begun_behind n ((r ∷ rs) ∷ fs) b u l = begun_past r rs fs b (omega (arith, u.0)) ∙ begun_behind n fs b u.1 l

-- a byte from 0xF5 on begins no character
pub begun_above : (b : ℕ) → 0xF5 ≤ b → begun utf8_char b ≡ none
unfolding utf8_char
begun_above b l =
    begun_behind 0xF5 utf8_char b
    (omega arith, (omega arith, (omega arith, (omega arith, (omega arith, (omega arith, (omega arith, (omega arith, (omega arith, tt)))))))))
    l

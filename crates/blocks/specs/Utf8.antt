-- RFC 3629, section 4, "Syntax of UTF-8 Byte Sequences", rule by rule.
use Rattle.std.specs.Prelude.{ℕ, ◌≤◌, Bool, true, false, ◌&&◌, cond, List, [], ◌∷◌, ◌++◌, leb}
use Rattle.std.proofs.Math.Option.{Option, some, none}

-- "%xLO-HI": one byte
pub record Range : Type 0 where
  pub lo : ℕ
  pub hi : ℕ

abbrev pub range : ℕ → ℕ → Range
range lo hi = record { lo = lo; hi = hi }

-- "%xLO"
abbrev pub only : ℕ → Range
only b = range b b

-- one alternative of a rule: a byte for each range, one behind the other
abbrev pub Form : Type 0
Form = List Range

-- "UTF8-tail = %x80-BF"
abbrev pub utf8_tail : Range
utf8_tail = range 0x80 0xBF

-- "UTF8-1 = %x00-7F"
abbrev pub utf8_1 : List Form
utf8_1 = (range 0x00 0x7F ∷ []) ∷ []

-- "UTF8-2 = %xC2-DF UTF8-tail"
abbrev pub utf8_2 : List Form
utf8_2 = (range 0xC2 0xDF ∷ utf8_tail ∷ []) ∷ []

-- "UTF8-3 = %xE0 %xA0-BF UTF8-tail / %xE1-EC 2( UTF8-tail ) / %xED %x80-9F UTF8-tail / %xEE-EF 2( UTF8-tail )"
abbrev pub utf8_3 : List Form
utf8_3 =
    (only 0xE0 ∷ range 0xA0 0xBF ∷ utf8_tail ∷ []) ∷
    (range 0xE1 0xEC ∷ utf8_tail ∷ utf8_tail ∷ []) ∷
    (only 0xED ∷ range 0x80 0x9F ∷ utf8_tail ∷ []) ∷
    (range 0xEE 0xEF ∷ utf8_tail ∷ utf8_tail ∷ []) ∷ []

-- "UTF8-4 = %xF0 %x90-BF 2( UTF8-tail ) / %xF1-F3 3( UTF8-tail ) / %xF4 %x80-8F 2( UTF8-tail )"
abbrev pub utf8_4 : List Form
utf8_4 =
    (only 0xF0 ∷ range 0x90 0xBF ∷ utf8_tail ∷ utf8_tail ∷ []) ∷
    (range 0xF1 0xF3 ∷ utf8_tail ∷ utf8_tail ∷ utf8_tail ∷ []) ∷
    (only 0xF4 ∷ range 0x80 0x8F ∷ utf8_tail ∷ utf8_tail ∷ []) ∷ []

-- "UTF8-char = UTF8-1 / UTF8-2 / UTF8-3 / UTF8-4"
unfoldable pub utf8_char : List Form
utf8_char = utf8_1 ++ (utf8_2 ++ (utf8_3 ++ utf8_4))

-- "UTF8-octets = *( UTF8-char )", as a relation: what is proved equal to the test below
pub data Matches : Form → List ℕ → Type 0 where
  nothing : Matches [] []
  byte : {r : Range} {rs : Form} {b : ℕ} {bs : List ℕ} → r.lo ≤ b → b ≤ r.hi → Matches rs bs → Matches (r ∷ rs) (b ∷ bs)

pub data OneOf (c : List ℕ) : List Form → Type 0 where
  this : {f : Form} {fs : List Form} → Matches f c → OneOf c (f ∷ fs)
  later : {f : Form} {fs : List Form} → OneOf c fs → OneOf c (f ∷ fs)

pub data Octets : List ℕ → Type 0 where
  nothing : Octets []
  char : {c bs : List ℕ} → OneOf c utf8_char → Octets bs → Octets (c ++ bs)

-- ---- the test

abbrev pub in_range : Range → ℕ → Bool
in_range r b = leb r.lo b && leb b r.hi

-- what must follow a byte that begins a character: no two forms begin with the same byte
unfoldable pub begun : List Form → ℕ → Option Form
begun [] b = none
begun ([] ∷ fs) b = begun fs b
begun ((r ∷ rs) ∷ fs) b = cond (in_range r b) (some rs) (begun fs b)

-- "UTF8-octets = *( UTF8-char )", where of a character that was begun this form is left; a character that the end cuts off is none
unfoldable pub rest_of : Form → List ℕ → Bool
rest_of [] [] = true
rest_of (r ∷ rs) [] = false
rest_of [] (b ∷ bs) = elim (begun utf8_char b) [ none ↦ false | some rs ↦ rest_of rs bs ]
rest_of (r ∷ rs) (b ∷ bs) = in_range r b && rest_of rs bs

unfoldable pub utf8_octets : List ℕ → Bool
utf8_octets = rest_of []

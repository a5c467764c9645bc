-- errors.rs: "only the refusals of the list below". What a call answers: a value, or one refusal.
use Rattle.std.specs.Prelude.{ℕ, Bool, true, false, List, leb, length, replicate}

-- "A refusal gives number, type place in the set or layout (65,535 if none), offset and value."
pub record Refusal : Type 0 where
  pub number : ℕ
  pub place : ℕ
  pub offset : ℕ
  pub value : ℕ

-- "(65,535 if none)"
abbrev pub nowhere : ℕ
nowhere = 65535

-- a refusal at no type and no offset: 10 to 20, until a type's place is known
abbrev pub plain : ℕ → Refusal
plain q = record { number = q; place = nowhere; offset = 0; value = 0 }

-- "Offset is the block's start in the input refused for 1 to 6"
abbrev pub unread : ℕ → ℕ → Refusal
unread q start = record { number = q; place = nowhere; offset = start; value = 0 }

pub data Outcome (A : Type 0) : Type 0 where
  done : A → Outcome A
  refused : Refusal → Outcome A

-- "The first "no" decides."
infixl 20 ◌>>=◌
unfoldable pub ◌>>=◌ : {A B : Type 0} → Outcome A → (A → Outcome B) → Outcome B
◌>>=◌ (done a) k = k a
◌>>=◌ (refused r) k = refused r

-- a question, and the refusal if its answer is "no"
unfoldable pub ask : Bool → Refusal → Outcome Unit
ask true r = done tt
ask false r = refused r

-- whether a value was given
abbrev pub answered : {A : Type 0} → Outcome A → Bool
answered (done a) = true
answered (refused r) = false

-- "The type place is, for 10 to 17, the type whose `build_type` call refuses."
unfoldable pub at_type : {A : Type 0} → ℕ → Outcome A → Outcome A
at_type i (done a) = done a
at_type i (refused r) = refused (record { number = r.number; place = i; offset = r.offset; value = r.value })

-- 19, with which each call begins: "are there 8,192 or more working words of 64 bits?"
unfoldable pub enough : ℕ → Outcome Unit
enough words = ask (leb 8192 words) (plain 19)

-- demand 1: "working words are zero after every call", whatever they held
abbrev pub words_after : List ℕ → List ℕ
words_after words = replicate (length words) 0

-- The questions of document 01, under the Rust's names where it has one.
-- builder.rs, `IrBuildError`
abbrev pub UnsupportedSize : ℕ
UnsupportedSize = 10

abbrev pub MissingDynamicRefs : ℕ
MissingDynamicRefs = 11

abbrev pub MissingParameter : ℕ
MissingParameter = 12

abbrev pub UnsupportedArrayElement : ℕ
UnsupportedArrayElement = 13

abbrev pub UnsupportedExpression : ℕ
UnsupportedExpression = 14

abbrev pub MissingType : ℕ
MissingType = 15

-- errors.rs, `ReflectError`
abbrev pub UnknownType : ℕ
UnknownType = 20

abbrev pub MissingIrParameter : ℕ
MissingIrParameter = 21

abbrev pub InvalidTagValue : ℕ
InvalidTagValue = 22

abbrev pub ArithmeticOverflow : ℕ
ArithmeticOverflow = 23

abbrev pub UnsupportedOperation : ℕ
UnsupportedOperation = 24

abbrev pub BufferTooSmall : ℕ
BufferTooSmall = 25

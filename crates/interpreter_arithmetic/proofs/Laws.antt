-- What is given of a number that std's checked operations answer is what the definition says.
use Rattle.std.proofs.Common.{◌≡◌, ℕ, ◌/◌, ◌^◌, ◌<◌, ◌≤◌, cond, arith, ◌∙◌}
use Rattle.std.specs.Prelude.{Option, Some, None, SomeIff, MatchOption, unwrap_or}
use lib.Dec.{leb, eqb}
use borrow.Author.Tests.{le-leb, lt-leb, eq-eqb, ne_eqb}
use Rattle.interpreter.specs.Arithmetic.{Result, value, fault, exact}
use Rattle.interpreter.proofs.Arithmetic.{exact_in, exact_over, shift_out}

-- an exact result below 2^64, or 26
pub given_exact : (r : Option ℕ) (n : ℕ) {x : Result} → SomeIff r (n < 2 ^ 64) n → MatchOption r (x ≡ fault 26) (λ v. x ≡ value v) →
    x ≡ exact 64 n
given_exact None n h e = let k : 2 ^ 64 ≤ n = omega (arith, h) in e ∙ rw (exact_over 64 n k)
given_exact (Some v) n h e = e ∙ rw (exact_in 64 n h.0, h.1)

-- a difference, or 23 below zero
pub given_least : (r : Option ℕ) (a b n : ℕ) {x : Result} → SomeIff r (b ≤ a) n → MatchOption r (x ≡ fault 23) (λ v. x ≡ value v) →
    x ≡ cond (leb b a) (value n) (fault 23)
given_least None a b n h e = e ∙ rw (lt-leb b a (omega (arith, h)))
given_least (Some v) a b n h e = e ∙ rw (le-leb b a h.0, h.1)

-- a quotient or a remainder, or 23 for a zero divisor
pub given_divided : (r : Option ℕ) (b n : ℕ) {x : Result} → SomeIff r (0 < b) n → MatchOption r (x ≡ fault 23) (λ v. x ≡ value v) →
    x ≡ cond (eqb b 0) (fault 23) (value n)
given_divided None b n h e = e ∙ rw (eq-eqb b 0 (omega (arith, h)))
given_divided (Some v) b n h e = e ∙ rw (ne_eqb b 0 (λ z. absurd (omega (arith, h.0))), h.1)

-- a shift to the right by 64 or more leaves no bit
pub shifted_out : (r : Option ℕ) (a b : ℕ) → a < 2 ^ 64 → SomeIff r (b < 64) (a / 2 ^ b) → unwrap_or r 0 ≡ a / 2 ^ b
shifted_out None a b l h = rw (shift_out 64 a b l (omega (arith, h)))
shifted_out (Some v) a b l h = h.1

-- The fill is the number of the rule: it is rounded, and one number only is.
use Prim.Native.Nat.{ℕ, zero, suc, ◌+◌, ◌*◌, ◌%◌, ◌<◌, ◌≤◌}
use mathlib.Core.Path.{◌≡◌, refl}
use mathlib.Core.Bool.{Bool, true, false}
use lib.Dec.{ltb}
use native.Mathlib.Nat.{add-mul, mul-le-mul_right, div-add-mod', mod-lt, lt_of_not-le}
use native.Mathlib.Omega.{arith}
use borrow.Author.Tests.{ltb-true, ltb-false, ne_eqb}
use Rattle.lengths_definition.specs.Lengths.{Rounded, nearest, fill}

-- a number and its rest by two are even
evened : (n : ℕ) → (n + n % 2) % 2 ≡ 0
evened n = omega arith

module _ (a b whole rest : ℕ) (parts : whole * b + rest ≡ a) (below : rest < b) where
  -- a rest of less than a half: the number below
  goes_down : 2 * rest < b → Rounded a b whole
  goes_down h = record { near = omega (arith, parts); even = λ e. absurd (let z : ⊥ = omega (arith, parts, e) in z) }

  -- of more: the number above
  goes_up : b < 2 * rest → Rounded a b (whole + 1)
  goes_up h =
      let next = add-mul whole 1 b in
      record { near = omega (arith, parts, next); even = λ e. absurd (let z : ⊥ = omega (arith, parts, next, e) in z) }

  -- an exact half: the even one of the two
  goes_even : 2 * rest ≡ b → Rounded a b (whole + whole % 2)
  goes_even h = go (whole % 2) (omega arith) (evened whole)
    where
      go : (r : ℕ) → r < 2 → (whole + r) % 2 ≡ 0 → Rounded a b (whole + r)
      go zero l e = record { near = omega (arith, parts, h); even = λ _. e }
      go (suc zero) l e = record { near = omega (arith, parts, h, add-mul whole 1 b); even = λ _. e }
      go (suc (suc r)) l e = absurd (let z : ⊥ = omega arith in z)

  -- so the nearest is rounded
  nearest_rounded : Rounded a b (nearest whole rest b)
  unfolding nearest
  nearest_rounded = go (ltb (2 * rest) b) refl (ltb b (2 * rest)) refl
    where
      go : (p : Bool) → ltb (2 * rest) b ≡ p → (q : Bool) → ltb b (2 * rest) ≡ q → Rounded a b (nearest whole rest b)
      go true e q f = rw e (goes_down (ltb-true _ _ e))
      go false e true f = rw (e, f) (goes_up (ltb-true _ _ f))
      go false e false f = rw (e, f) (goes_even (omega (arith, ltb-false (2 * rest) b e, ltb-false b (2 * rest) f)))

-- The fill is 100 × count / length, rounded.
pub rounded : (count len : ℕ) → (len ≡ 0 → ⊥) → Rounded (100 * count) len (fill count len)
unfolding fill
rounded count len h =
    rw (ne_eqb len 0 h) (nearest_rounded (100 * count) len _ _ (div-add-mod' (100 * count) len) (mod-lt (100 * count) {m = len} (omega arith)))

-- Of two rounded numbers none is below the other: they would lie on both sides of an exact half, and both be even.
not_less : {a b m n : ℕ} → 0 < b → Rounded a b m → Rounded a b n → m < n → ⊥
not_less {a} {b} {m} {n} h r s l =
    let one : (m + 1) * b ≤ n * b = mul-le-mul_right b (omega arith) in
    let even_m = r.even (omega (arith, r.near, s.near, one, add-mul m 1 b)) in
    let even_n = s.even (omega (arith, r.near, s.near, one, add-mul m 1 b)) in
    let two : (m + 2) * b ≤ n * b = mul-le-mul_right b (omega (arith, even_m, even_n)) in
    omega (arith, r.near, s.near, two, add-mul m 2 b)

-- No other number is.
pub one_rounded : {a b m n : ℕ} → 0 < b → Rounded a b m → Rounded a b n → m ≡ n
one_rounded h r s = omega (arith, lt_of_not-le (not_less h r s), lt_of_not-le (not_less h s r))

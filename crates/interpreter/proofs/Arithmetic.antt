-- The laws of arithmetic: what a result that is tested for 2 ^ w says, for every width w, and what each operation answers.
use Prim.Native.Nat.{ℕ, ◌+◌, ◌-◌, ◌*◌, ◌/◌, ◌%◌, ◌^◌, ◌≤◌, ◌<◌}
use native.Mathlib.Nat.{le-div_iff_mul-le, div-lt_iff_lt-mul, mul-le-mul_right, one-mul, div-le_self, mod-le, mod-lt, div-add-mod', add-mul, mul-mod_left}
use native.Mathlib.Omega.{arith}
use mathlib.Core.Path.{◌≡◌, refl, sym}
use mathlib.Core.Bool.{Bool, true, false, ◌||◌, cond}
use lib.Dec.{ltb, leb, eqb}
use lib.Pow.{pow_pos, pow_mono, shr_le}
use lib.Bits.{bit_and, bit_or, bit_xor, and_le_l, or_lt, xor_lt}
use Rattle.ir.specs.Ir.{BinaryOp}
use borrow.Author.Tests.{ltb-true, leb-true, leb-false, eqb-true, eqb-false, lt-ltb, le-ltb}
use Rattle.interpreter.specs.Arithmetic.{Result, value, fault, exact, checked_add, checked_sub, checked_mul, checked_div, checked_mod, checked_left_shift, checked_right_shift, align_up, operate}

-- ---- tests that need no wider number, for any bound m

-- a product is below m where one factor is at most the quotient of m - 1 by the other, and not where it is above
pub product_in : (m a b : ℕ) → 0 < m → 0 < a → b ≤ (m - 1) / a → b * a < m
product_in m a b p q h = let g : b * a ≤ m - 1 = (le-div_iff_mul-le q).0 h in omega arith

-- and it is not where that factor is above the quotient
pub product_over : (m a b : ℕ) → 0 < a → (m - 1) / a < b → m ≤ b * a
product_over m a b q h = let g : m - 1 < b * a = (div-lt_iff_lt-mul q).0 h in omega arith

-- a number that is not 0, shifted by the width or more
pub shift_over : (w x s : ℕ) → 0 < x → w ≤ s → 2 ^ w ≤ x * 2 ^ s
shift_over w x s p h =
    let g : 2 ^ w ≤ 2 ^ s = pow_mono h in
    let k : 1 * 2 ^ s ≤ x * 2 ^ s = mul-le-mul_right (2 ^ s) p in
    omega arith

-- a number of w bits, shifted right by the width or more
pub shift_out : (w x s : ℕ) → x < 2 ^ w → w ≤ s → x / 2 ^ s ≡ 0
shift_out w x s h g =
    let k : 2 ^ w ≤ 2 ^ s = pow_mono g in
    let l : x < 1 * 2 ^ s = rw one-mul (omega arith) in
    let q : x / 2 ^ s < 1 = (div-lt_iff_lt-mul (pow_pos s)).1 l in
    omega arith

-- ---- results

-- an exact result of w bits is given
pub exact_in : (w n : ℕ) → n < 2 ^ w → exact w n ≡ value n
exact_in w n h = simp (lt-ltb n (2 ^ w) h)

-- and a wider one is refused
pub exact_over : (w n : ℕ) → 2 ^ w ≤ n → exact w n ≡ fault 26
exact_over w n h = simp (le-ltb n (2 ^ w) h)

-- a result is one value only
value_one : {x y : ℕ} → value x ≡ value y → x ≡ y
value_one e = cc

-- a refusal is no value
no_value : {q x : ℕ} {X : Type 0} → fault q ≡ value x → X
no_value e = let z : ◌≡◌ {A = ℕ} 0 1 = cc in absurd (omega arith)

-- a number that is given is the exact one, and has w bits
pub exact_value : (w n r : ℕ) → exact w n ≡ value r → (r ≡ n) × (r < 2 ^ w)
exact_value w n r = go (ltb n (2 ^ w)) refl
  where
    go : (b : Bool) → ltb n (2 ^ w) ≡ b → cond b (value n) (fault 26) ≡ value r → (r ≡ n) × (r < 2 ^ w)
    go true h e = let q : n ≡ r = value_one e in let l : n < 2 ^ w = ltb-true n (2 ^ w) h in (sym q, omega arith)
    go false h e = no_value e

-- what holds of a value whichever way a test went
chosen_below : {r : ℕ} {x y : Result} {X : Type 0} (b : Bool) → cond b x y ≡ value r → (x ≡ value r → X) → (y ≡ value r → X) → X
chosen_below true e f g = f e
chosen_below false e f g = g e

-- Every value that an operation gives on numbers of w bits is one.
pub operate_below : (w : ℕ) (op : BinaryOp) (a b r : ℕ) → a < 2 ^ w → b < 2 ^ w → operate w op a b ≡ value r → r < 2 ^ w
unfolding operate checked_add checked_sub checked_mul checked_div checked_mod checked_left_shift checked_right_shift
operate_below w BinaryOp.AddChecked a b r h g e = (exact_value w (a + b) r e).1
operate_below w BinaryOp.SubChecked a b r h g e = chosen_below (leb b a) e (λ q. let k : a - b ≡ r = value_one q in omega arith) (λ q. no_value q)
operate_below w BinaryOp.MulChecked a b r h g e = (exact_value w (a * b) r e).1
operate_below w BinaryOp.DivChecked a b r h g e = chosen_below (eqb b 0) e (λ q. no_value q) (λ q. let l : a / b ≤ a = div-le_self a b in let k : a / b ≡ r = value_one q in omega arith)
operate_below w BinaryOp.ModChecked a b r h g e = chosen_below (eqb b 0) e (λ q. no_value q) (λ q. let l : a % b ≤ a = mod-le a b in let k : a % b ≡ r = value_one q in omega arith)
operate_below w BinaryOp.BitAnd a b r h g e = let l : bit_and a b ≤ a = and_le_l a b in let k : bit_and a b ≡ r = value_one e in omega arith
operate_below w BinaryOp.BitOr a b r h g e = let k : bit_or a b ≡ r = value_one e in rw (← k) (or_lt w a b h g)
operate_below w BinaryOp.BitXor a b r h g e = let k : bit_xor a b ≡ r = value_one e in rw (← k) (xor_lt w a b h g)
operate_below w BinaryOp.LeftShift a b r h g e = chosen_below (leb 128 b) e (λ q. no_value q) (λ q. (exact_value w (a * 2 ^ b) r q).1)
operate_below w BinaryOp.RightShift a b r h g e = chosen_below (leb 128 b) e (λ q. no_value q) (λ q. let l : a / 2 ^ b ≤ a = shr_le a b in let k : a / 2 ^ b ≡ r = value_one q in omega arith)

-- ---- alignment: the least multiple that is not below

-- a remainder that is not 0 is above it
positive : (n : ℕ) → (n ≡ 0 → ⊥) → 0 < n
positive n h = omega arith

-- the next multiple of a behind v
pub next_multiple : (v a : ℕ) → v % a < a → v + (a - v % a) ≡ (v / a + 1) * a
next_multiple v a h =
    let e : v / a * a + v % a ≡ v = div-add-mod' v a in
    let f : (v / a + 1) * a ≡ v / a * a + a = simp (add-mul, one-mul) in
    omega arith

-- r is v aligned to a: the least multiple of a that is not below v; an alignment of 0 or 1 leaves v
pub record Aligned (v a r : ℕ) : Type 0 where
  pub multiple : 1 < a → r % a ≡ 0
  pub not_below : v ≤ r
  pub least : 1 < a → r < v + a
  pub plain : a ≤ 1 → r ≡ v

-- Every value that aligning gives is that.
pub aligned_value : (w v a r : ℕ) → align_up w v a ≡ value r → Aligned v a r
unfolding align_up
aligned_value w v a r = go (leb a 1) refl (eqb (v % a) 0) refl
  where
    go : (b : Bool) → leb a 1 ≡ b → (c : Bool) → eqb (v % a) 0 ≡ c → cond (b || c) (value v) (exact w (v + (a - v % a))) ≡ value r → Aligned v a r
    go true h c k e =
        let q : v ≡ r = value_one e in
        let l : a ≤ 1 = leb-true a 1 h in
        record { multiple = λ g. absurd (omega arith); not_below = omega arith; least = λ g. absurd (omega arith); plain = λ g. sym q }
    go false h true k e =
        let q : v ≡ r = value_one e in
        let l : 1 < a = leb-false a 1 h in
        let m : v % a ≡ 0 = eqb-true _ _ k in
        record { multiple = λ g. rw (← q) m; not_below = omega arith; least = λ g. omega arith; plain = λ g. sym q }
    go false h false k e =
        let q : r ≡ v + (a - v % a) = (exact_value w _ r e).0 in
        let l : 1 < a = leb-false a 1 h in
        let m : v % a < a = mod-lt v (omega arith) in
        let p : 0 < v % a = positive (v % a) (eqb-false _ _ k) in
        record {
          multiple = λ g. rw (q, next_multiple v a m) (mul-mod_left (v / a + 1) a);
          not_below = omega arith;
          least = λ g. omega arith;
          plain = λ g. absurd (omega arith);
        }

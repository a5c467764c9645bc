-- Names in byte order, some bytes at a step, each step a number with the high byte first. Assumes nothing.
use mathlib.Core.Path.{◌≡◌, refl, sym, ◌∙◌, ap}
use mathlib.Core.Bool.{Bool, true, false, ◌&&◌, ◌||◌, cond, or-false}
use mathlib.Core.List.{List, [], ◌∷◌}
use Prim.Native.Nat.{min, ℕ, zero, suc, ◌+◌, ◌-◌, ◌*◌, ◌/◌, ◌%◌, ◌^◌, ◌<◌, ◌≤◌}
use native.Mathlib.Numerals.{add-one}
use native.Mathlib.Nat.{add-zero, zero-add, suc-add, suc-mul, add-mul, mul_assoc, mul-le-mul_right, pow-succ', one-le-pow, mod-eq_of_lt, div-eq_of_lt, add-mul-mod_self_left, add-mul-div_left}
use native.Mathlib.Omega.{arith}
use Rattle.std.proofs.Common.{Fits, w8, Some}
use Rattle.std.specs.Ordering.{nat_cmp, partial_ordering_then, is_lt, is_some_and}
use Rattle.std.specs.declared.cmp.Ordering.TheVariants.{Less, Equal, Greater}
use lib.Dec.{leb, ltb, eqb}
use lib.Pow.{pow-add}
use lib.ListN.{length, drop, get_or, drop_of_length-le}
use lib.Seq.{drop-cons}
use borrow.Author.Tests.{lt-ltb, le-ltb, eq-eqb, ne_eqb, ltb-true, ltb-false, eqb-true, eqb-false, leb-true, leb-false, le-leb, lt-leb}
use Rattle.blocks.specs.Bytes.{le}
use Rattle.blocks.specs.Name.{less, same}
use Rattle.blocks.proofs.Bytes.{le_one, le_join, below}
use Rattle.wire.specs.Order.{be, Turned, ends, first_bytes}
use Rattle.wire.proofs.Names.{differ, Alike, alike_none, alike_more, alike_same}

-- ---- numbers in two parts

-- the higher parts of two numbers decide where they differ
lower : (k p q u v : ℕ) → p < u → q < k → p * k + q < u * k + v
lower k p q u v h g =
    let m : suc p * k ≤ u * k = mul-le-mul_right k h in
    omega (arith, m, suc-mul p k)

-- equal numbers have equal parts
both_equal : (k p q u v : ℕ) → q < k → v < k → p * k + q ≡ u * k + v → (p ≡ u) × (q ≡ v)
both_equal k p q u v g h e = go (ltb p u) refl (ltb u p) refl
  where
    go : (x : Bool) → ltb p u ≡ x → (y : Bool) → ltb u p ≡ y → (p ≡ u) × (q ≡ v)
    go true f y d = absurd (let z : ⊥ = omega (arith, lower k p q u v (ltb-true p u f) g) in z)
    go false f true d = absurd (let z : ⊥ = omega (arith, lower k u v p q (ltb-true u p d) h) in z)
    go false f false d =
        let z : p ≡ u = omega (arith, ltb-false p u f, ltb-false u p d) in
        (z, (let l : p * k ≡ u * k = ap (λ (n : ℕ). n * k) z in omega arith))

-- the order of numbers that differ is that of their higher parts, or, where these are equal, of the lower ones
parts_decide : (k p q u v : ℕ) → q < k → v < k → ltb (p * k + q) (u * k + v) ≡ (ltb p u || (eqb p u && ltb q v))
parts_decide k p q u v g h = go (ltb p u) refl (ltb u p) refl
  where
    go : (x : Bool) → ltb p u ≡ x → (y : Bool) → ltb u p ≡ y → ltb (p * k + q) (u * k + v) ≡ (x || (eqb p u && ltb q v))
    go true f y d = lt-ltb (p * k + q) (u * k + v) (lower k p q u v (ltb-true p u f) g)
    go false f true d =
        let l : u < p = ltb-true u p d in
        rw (le-ltb (p * k + q) (u * k + v) (let m : u * k + v ≤ p * k + q = omega (arith, lower k u v p q l h) in m), ne_eqb p u (λ z. omega arith))
    go false f false d =
        let z : p ≡ u = omega (arith, ltb-false p u f, ltb-false u p d) in
        rw (eq-eqb p u z, z) (same_sum (u * k) (ltb q v) refl)
      where
        same_sum : (n : ℕ) (t : Bool) → ltb q v ≡ t → ltb (n + q) (n + v) ≡ t
        same_sum n true e = lt-ltb (n + q) (n + v) (omega (arith, ltb-true q v e))
        same_sum n false e = le-ltb (n + q) (n + v) (omega (arith, ltb-false q v e))

-- ---- the number of some bytes, the high byte first

module _ (s : List ℕ) where
  -- one byte is its number
  pub be_one : (at : ℕ) → be 1 s at ≡ get_or s at 0
  unfolding be
  be_one at = omega arith

  -- the bytes of a number in two groups
  pub be_join : (j k at : ℕ) → be (j + k) s at ≡ be j s at * 256 ^ k + be k s (at + j)
  unfolding be
  be_join zero k at = rw (zero-add k, add-zero at) (omega arith)
  be_join (suc j) k at =
      let i : at + suc j ≡ at + 1 + j = omega arith in
      rw (suc-add, i, pow-add, add-mul, mul_assoc) (omega (arith, be_join j k (at + 1)))

-- a number of k bytes is below what k bytes hold
pub be_below : (s : List ℕ) → ((i : ℕ) → Fits w8 (get_or s i 0)) → (k at : ℕ) → be k s at < 256 ^ k
unfolding be
be_below s small zero at = omega arith
be_below s small (suc k) at =
    rw pow-succ' (omega (arith, lower (256 ^ k) (get_or s at 0) (be k s (at + 1)) 256 0 (small at).fits (be_below s small k (at + 1))))

-- a byte is its own number in both orders
pub turn_one : {x : ℕ} → Turned 1 x x
turn_one = record { is = λ s small at e. e ∙ le_one s at ∙ sym (be_one s at) }

-- a number is turned by halves: so four bytes are turned as two and two, eight as four and four
pub turn_halves : (k : ℕ) {x u v : ℕ} → Turned k (x % 256 ^ k) u → Turned k (x / 256 ^ k) v → Turned (k + k) x (u * 256 ^ k + v)
turn_halves k {x} {u} {v} f g = record { is = λ s small at e. go s small at (e ∙ le_join s k k at) }
  where
    go : (s : List ℕ) → ((i : ℕ) → get_or s i 0 < 256) → (at : ℕ) → x ≡ le k s at + 256 ^ k * le k s (at + k) → u * 256 ^ k + v ≡ be (k + k) s at
    go s small at e =
        let p : 0 < 256 ^ k = one-le-pow k 256 (omega arith) in
        let l : le k s at < 256 ^ k = below s small k at in
        let m : x % 256 ^ k ≡ le k s at = rw (e, add-mul-mod_self_left) (mod-eq_of_lt l) in
        let d : x / 256 ^ k ≡ le k s (at + k) = rw (e, add-mul-div_left (le k s at) (le k s (at + k)) p, div-eq_of_lt l) (zero-add (le k s (at + k))) in
        rw (f.is s small at m, g.is s small (at + k) d) (sym (be_join s k k at))

-- ---- two names, whose elements are bytes

module _ (a b : List ℕ) (bytes_a : (i : ℕ) → Fits w8 (get_or a i 0)) (bytes_b : (i : ℕ) → Fits w8 (get_or b i 0)) where
  -- equal numbers have equal bytes
  equal_bytes : (k i : ℕ) → be k a i ≡ be k b i → (m : ℕ) → i ≤ m → m < i + k → get_or a m 0 ≡ get_or b m 0
  unfolding be
  equal_bytes zero i e m h g = absurd (let z : ⊥ = omega arith in z)
  equal_bytes (suc k) i e m h g =
      let f : (get_or a i 0 ≡ get_or b i 0) × (be k a (i + 1) ≡ be k b (i + 1)) = both_equal (256 ^ k) _ _ _ _ (be_below a bytes_a k (i + 1)) (be_below b bytes_b k (i + 1)) e in
      go f.0 (λ l. equal_bytes k (i + 1) f.1 m l (omega arith)) (eqb m i) refl
    where
      go : get_or a i 0 ≡ get_or b i 0 → (i + 1 ≤ m → get_or a m 0 ≡ get_or b m 0) → (t : Bool) → eqb m i ≡ t → get_or a m 0 ≡ get_or b m 0
      go f r true d = rw (eqb-true m i d) f
      go f r false d = r (let l : i + 1 ≤ m = omega (arith, eqb-false m i d) in l)

  -- the bytes at i decide, or what stands behind them
  less_at : (i : ℕ) → i < length a → i < length b
      → less (drop i a) (drop i b) ≡ (ltb (get_or a i 0) (get_or b i 0) || (eqb (get_or a i 0) (get_or b i 0) && less (drop (i + 1) a) (drop (i + 1) b)))
  unfolding less
  less_at i h g = rw (add-one, drop-cons a i 0 h, drop-cons b i 0 g)

  -- numbers that differ decide the order of what begins with their bytes
  numbers_decide : (k i : ℕ) → i + k ≤ length a → i + k ≤ length b → (be k a i ≡ be k b i → ⊥) → ltb (be k a i) (be k b i) ≡ less (drop i a) (drop i b)
  unfolding be
  numbers_decide zero i h g n = absurd (n refl)
  numbers_decide (suc k) i h g n =
      parts_decide (256 ^ k) _ _ _ _ (be_below a bytes_a k (i + 1)) (be_below b bytes_b k (i + 1))
      ∙ go (numbers_decide k (i + 1) (omega arith) (omega arith)) (eqb (get_or a i 0) (get_or b i 0)) refl
      ∙ sym (less_at i (omega arith) (omega arith))
    where
      go : ((be k a (i + 1) ≡ be k b (i + 1) → ⊥) → ltb (be k a (i + 1)) (be k b (i + 1)) ≡ less (drop (i + 1) a) (drop (i + 1) b))
          → (t : Bool) → eqb (get_or a i 0) (get_or b i 0) ≡ t
          → (ltb (get_or a i 0) (get_or b i 0) || (t && ltb (be k a (i + 1)) (be k b (i + 1)))) ≡ (ltb (get_or a i 0) (get_or b i 0) || (t && less (drop (i + 1) a) (drop (i + 1) b)))
      go r true d =
          let z : get_or a i 0 ≡ get_or b i 0 = eqb-true _ _ d in
          let u : be k a (i + 1) ≡ be k b (i + 1) → ⊥ = λ e. n (cc) in
          ap (λ (t : Bool). ltb (get_or a i 0) (get_or b i 0) || t) (r u)
      go r false d = refl

  -- as many bytes, or fewer
  alike_fewer : {i : ℕ} → Alike a b i → (j : ℕ) → j ≤ i → Alike a b j
  alike_fewer f j h = record { byte = λ m l. f.byte m (omega arith) }

  -- bytes that are alike take nothing from the order
  alike_less : (i : ℕ) → i ≤ length a → i ≤ length b → Alike a b i → less a b ≡ less (drop i a) (drop i b)
  alike_less zero h g f = refl
  alike_less (suc i) h g f =
      let z : get_or a i 0 ≡ get_or b i 0 = f.byte i (omega arith) in
      alike_less i (omega arith) (omega arith) (alike_fewer f i (omega arith))
      ∙ rw (less_at i h g, z, le-ltb (get_or b i 0) (get_or b i 0) (omega arith), eq-eqb (get_or b i 0) (get_or b i 0) refl, add-one)

  -- k bytes more, where they make one number
  pub alike_big : {i : ℕ} → Alike a b i → (k j : ℕ) → j ≤ i → {x y : ℕ} → x ≡ be k a j → y ≡ be k b j → x ≡ y → Alike a b (j + k)
  alike_big f k j h ea eb e = alike_more f j k h (equal_bytes k j (sym ea ∙ e ∙ eb))

  -- k bytes at j that make two numbers decide, if those before i are alike
  pub alike_decide : {i : ℕ} → Alike a b i → (k j : ℕ) → j ≤ i → j + k ≤ length a → j + k ≤ length b → {x y : ℕ} → x ≡ be k a j → y ≡ be k b j → (x ≡ y → ⊥) → ltb x y ≡ less a b
  alike_decide f k j h g l ea eb n =
      let d : ltb (be k a j) (be k b j) ≡ less (drop j a) (drop j b) = numbers_decide k j g l (λ e. n (ea ∙ e ∙ sym eb)) in
      rw (ea, eb) (d ∙ sym (alike_less j (omega arith) (omega arith) (alike_fewer f j h)))

  -- where the shorter name has ended, the lengths decide
  pub alike_end : {n : ℕ} → Alike a b n → n ≡ min (length a) (length b) → ltb (length a) (length b) ≡ less a b
  unfolding less
  alike_end {n} f e = go (ltb (length a) (length b)) refl
    where
      never : (x : List ℕ) → false ≡ less x []
      never [] = refl
      never (y ∷ ys) = refl

      go : (t : Bool) → ltb (length a) (length b) ≡ t → t ≡ less a b
      go true d =
          let l : length a < length b = ltb-true _ _ d in
          let u : length a ≤ n = omega arith in
          rw (alike_less n (omega arith) (omega arith) f, drop_of_length-le a {i = n} u, drop-cons b n 0 (omega arith))
      go false d =
          let l : length b ≤ length a = ltb-false _ _ d in
          let u : length b ≤ n = omega arith in
          rw (alike_less n (omega arith) (omega arith) f, drop_of_length-le b {i = n} u) (never (drop n a))

  -- ---- the first k bytes and the last k of n, between which is none

  module _ (k n : ℕ) (h : k ≤ n) (g : n ≤ k + k) where
    ends_parts : ends k a n ≡ ends k b n → (be k a 0 ≡ be k b 0) × (be k a (n - k) ≡ be k b (n - k))
    ends_parts e = both_equal (256 ^ k) _ _ _ _ (be_below a bytes_a k (n - k)) (be_below b bytes_b k (n - k)) e

    -- the same number of both: n bytes are alike
    ends_alike : ends k a n ≡ ends k b n → Alike a b n
    ends_alike e =
        let f : Alike a b (0 + k) = alike_big alike_none k 0 (omega arith) refl refl (ends_parts e).0 in
        let z : n - k + k ≡ n = omega arith in
        rw z at (alike_big f k (n - k) (omega arith) refl refl (ends_parts e).1)

    -- two numbers: they decide
    ends_decide : n ≤ length a → n ≤ length b → (ends k a n ≡ ends k b n → ⊥) → ltb (ends k a n) (ends k b n) ≡ less a b
    ends_decide u v d =
        parts_decide (256 ^ k) _ _ _ _ (be_below a bytes_a k (n - k)) (be_below b bytes_b k (n - k)) ∙ go (eqb (be k a 0) (be k b 0)) refl
      where
        go : (t : Bool) → eqb (be k a 0) (be k b 0) ≡ t → (ltb (be k a 0) (be k b 0) || (t && ltb (be k a (n - k)) (be k b (n - k)))) ≡ less a b
        go true e =
            let z : be k a 0 ≡ be k b 0 = eqb-true _ _ e in
            let f : Alike a b (0 + k) = alike_big alike_none k 0 (omega arith) refl refl z in
            rw (le-ltb (be k a 0) (be k b 0) (omega arith))
            (alike_decide f k (n - k) (omega arith) (omega arith) (omega arith) refl refl (λ w. d (cc)))
        go false e =
            or-false (ltb (be k a 0) (be k b 0)) ∙ alike_decide alike_none k 0 (omega arith) (omega arith) (omega arith) refl refl (eqb-false _ _ e)

  -- ---- the first bytes, less than eight, as a number

  -- the same number of both: so many bytes are alike
  pub first_alike : (n : ℕ) → n < 8 → {x y : ℕ} → x ≡ first_bytes a n → y ≡ first_bytes b n → x ≡ y → Alike a b n
  unfolding first_bytes
  first_alike n l ea eb e = go (leb 4 n) refl (leb 2 n) refl (sym ea ∙ e ∙ eb)
    where
      go : (t : Bool) → leb 4 n ≡ t → (u : Bool) → leb 2 n ≡ u
          → cond t (ends 4 a n) (cond u (ends 2 a n) (be n a 0)) ≡ cond t (ends 4 b n) (cond u (ends 2 b n) (be n b 0)) → Alike a b n
      go true f u d e = ends_alike 4 n (leb-true 4 n f) (omega arith) e
      go false f true d e = ends_alike 2 n (leb-true 2 n d) (omega (arith, leb-false 4 n f)) e
      go false f false d e = rw zero-add at (alike_big alike_none n 0 (omega arith) refl refl e)

  -- two numbers: they decide
  pub first_decide : (n : ℕ) → n < 8 → n ≤ length a → n ≤ length b → {x y : ℕ} → x ≡ first_bytes a n → y ≡ first_bytes b n → (x ≡ y → ⊥) → ltb x y ≡ less a b
  unfolding first_bytes
  first_decide n l h g ea eb d = rw (ea, eb) (go (leb 4 n) refl (leb 2 n) refl (λ e. d (ea ∙ e ∙ sym eb)))
    where
      go : (t : Bool) → leb 4 n ≡ t → (u : Bool) → leb 2 n ≡ u
          → (cond t (ends 4 a n) (cond u (ends 2 a n) (be n a 0)) ≡ cond t (ends 4 b n) (cond u (ends 2 b n) (be n b 0)) → ⊥)
          → ltb (cond t (ends 4 a n) (cond u (ends 2 a n) (be n a 0))) (cond t (ends 4 b n) (cond u (ends 2 b n) (be n b 0))) ≡ less a b
      go true f u e r = ends_decide 4 n (leb-true 4 n f) (omega arith) h g r
      go false f true e r = ends_decide 2 n (leb-true 2 n e) (omega (arith, leb-false 4 n f)) h g r
      go false f false e r = alike_decide alike_none n 0 (omega arith) (omega arith) (omega arith) refl refl r

-- `alike_big` of numbers below 256: k bytes at j that make one number are alike, so are all before j + k, if those before i are
pub alike_step : (a b : List ℕ) → ((i : ℕ) → get_or a i 0 < 256) → ((i : ℕ) → get_or b i 0 < 256) → (k i j : ℕ) → Alike a b i → j ≤ i → {x y : ℕ} → x ≡ be k a j → y ≡ be k b j → x ≡ y → Alike a b (j + k)
alike_step a b bytes_a bytes_b k i j f h ea eb e = alike_big a b (λ m. record { fits = bytes_a m }) (λ m. record { fits = bytes_b m }) f k j h ea eb e

-- ---- that number as the code has it, by how many bytes there are

module _ (s : List ℕ) (n : ℕ) where
  pub first_four : 4 ≤ n → {x y : ℕ} → x ≡ be 4 s 0 → y ≡ be 4 s (n - 4) → x * 4294967296 + y ≡ first_bytes s n
  unfolding first_bytes
  first_four h e f = rw (le-leb 4 n h, e, f)

  pub first_two : n < 4 → 2 ≤ n → {x y : ℕ} → x ≡ be 2 s 0 → y ≡ be 2 s (n - 2) → x * 65536 + y ≡ first_bytes s n
  unfolding first_bytes
  first_two l h e f = rw (lt-leb 4 n l, le-leb 2 n h, e, f)

  -- less than two are the number of that many bytes
  first_few : n < 2 → be n s 0 ≡ first_bytes s n
  unfolding first_bytes
  first_few h = rw (lt-leb 4 n (let l : n < 4 = omega arith in l), lt-leb 2 n h)

  pub first_one : n ≡ 1 → {x : ℕ} → x ≡ get_or s 0 0 → x ≡ first_bytes s n
  first_one e f = f ∙ sym (be_one s 0) ∙ ap (λ (k : ℕ). be k s 0) (sym e) ∙ first_few (omega arith)

  pub first_none : n < 2 → (n ≡ 1 → ⊥) → 0 ≡ first_bytes s n
  unfolding be
  first_none h g = let z : 0 ≡ n = omega arith in ap (λ (k : ℕ). be k s 0) z ∙ first_few h

pub ruleset firsts = (first_four, first_two, first_one, first_none)

-- Pairs are in order by their first numbers, or, where these are the same, by the second: t is what each of them says.
pub pair_decides : (x y m n : ℕ) {r t : Bool} → r ≡ is_some_and is_lt (partial_ordering_then (Some (nat_cmp x y)) (Some (nat_cmp m n)))
    → ((x ≡ y → ⊥) → ltb x y ≡ t) → (x ≡ y → ltb m n ≡ t) → r ≡ t
pair_decides x y m n {t = t} e f g = e ∙ go (ltb x y) refl (eqb x y) refl (ltb m n) refl (eqb m n)
  where
    go : (a : Bool) → ltb x y ≡ a → (b : Bool) → eqb x y ≡ b → (c : Bool) → ltb m n ≡ c → (d : Bool)
        → is_some_and is_lt (partial_ordering_then (Some (cond a Less (cond b Equal Greater))) (Some (cond c Less (cond d Equal Greater)))) ≡ t
    go true h b i c j d = sym h ∙ f (λ z. let l : x < y = ltb-true x y h in omega arith)
    go false h true i true j d = sym j ∙ g (eqb-true x y i)
    go false h true i false j true = sym j ∙ g (eqb-true x y i)
    go false h true i false j false = sym j ∙ g (eqb-true x y i)
    go false h false i c j d = sym h ∙ f (eqb-false x y i)

-- Names: the part of the bytes that is one; two of them, some bytes at a step: how far they begin alike. Their order: Order.antt.
-- Assumes nothing.
use mathlib.Core.Path.{◌≡◌, refl, sym, ◌∙◌, ap, ap₂}
use mathlib.Core.Bool.{Bool, true, false, ◌&&◌}
use mathlib.Core.List.{List, [], ◌∷◌, ◌++◌}
use Rattle.std.specs.Cmp.Lexicographic.{pointwise}
use Rattle.std.proofs.lemmas.Bool.Decides.{nat_tests}
use Prim.Native.Nat.{ℕ, zero, suc, ◌+◌, ◌-◌, ◌<◌, ◌≤◌}
use native.Mathlib.Omega.{arith}
use Rattle.std.proofs.Common.{Fits, w8}
use lib.Dec.{ltb, eqb}
use lib.ListN.{length, take, drop, get_or, get_or-eq_default, drop_of_length-le}
use lib.Seq.{drop-drop, ext_get_or}
use borrow.Author.Tests.{ltb-true, ltb-false, eqb-true, eqb-false}
use Rattle.blocks.specs.Bytes.{le, le2, name_at, bytes}
use Rattle.blocks.specs.Name.{same}
use Rattle.blocks.proofs.Bytes.{le_one, spelt}
use Rattle.blocks.proofs.Name.{same_eq, same_refl}

-- ---- name_at

-- as many bytes behind a name's length as the length says are the name
pub name_part : (s : List ℕ) (at n : ℕ) → n ≡ le2 s at → take (at + 2 + n - (at + 2)) (drop (at + 2) s) ≡ name_at s at
name_part s at n e =
    let f : at + 2 + n - (at + 2) ≡ le2 s at = omega arith in
    ap (λ (k : ℕ). take k (drop (at + 2) s)) f

-- ---- two names

-- names that are not equal are not the same: the form in which `same_name` says no
pub differ : (a b : List ℕ) → (a ≡ b → ⊥) → false ≡ same a b
differ a b h = go (same a b) refl
  where
    go : (t : Bool) → same a b ≡ t → false ≡ t
    go true e = absurd (h (same_eq a b e))
    go false e = refl

-- names of different lengths are not the same
pub same_long : (a b : List ℕ) → (length a ≡ length b → ⊥) → false ≡ same a b
same_long a b h = differ a b (λ e. h (ap length e))

-- a byte compared from either side
pub eqb_comm : (a b : ℕ) → eqb a b ≡ eqb b a
eqb_comm a b = grind (arith, nat_tests)

-- the library's `==` of two slices is the comparison of names, from the other side
pub pointwise_same : (a b : List ℕ) → pointwise eqb a b ≡ same b a
unfolding same
pointwise_same [] [] = refl
pointwise_same [] (y ∷ ys) = refl
pointwise_same (x ∷ xs) [] = refl
pointwise_same (x ∷ xs) (y ∷ ys) = ap₂ ◌&&◌ (eqb_comm x y) (pointwise_same xs ys)

-- names that differ in a number of k bytes are not the same
pub same_not : (a b : List ℕ) (k j : ℕ) {p q : ℕ} → p ≡ le k a j → q ≡ le k b j → (p ≡ q → ⊥) → false ≡ same a b
same_not a b k j ea eb h = differ a b (λ e. h (ea ∙ ap (λ (s : List ℕ). le k s j) e ∙ sym eb))

-- they begin with i bytes alike
pub record Alike (a b : List ℕ) (i : ℕ) : Type 0 where
  pub byte : (m : ℕ) → m < i → get_or a m 0 ≡ get_or b m 0

-- they are alike from i on
pub record AlikeFrom (a b : List ℕ) (i : ℕ) : Type 0 where
  pub byte : (m : ℕ) → i ≤ m → get_or a m 0 ≡ get_or b m 0

module _ {a b : List ℕ} where
  -- behind the last byte there is none
  pub alike_past : length a ≡ length b → AlikeFrom a b (length a)
  alike_past l = record { byte = λ m g. get_or-eq_default a 0 (omega arith) ∙ sym (get_or-eq_default b 0 (omega arith)) }

  -- none is needed to begin with
  pub alike_none : Alike a b 0
  alike_none = record { byte = λ m h. absurd (omega arith) }

  -- k bytes more from j on, where no byte before them is left out
  pub alike_more : {i : ℕ} → Alike a b i → (j k : ℕ) → j ≤ i → ((m : ℕ) → j ≤ m → m < j + k → get_or a m 0 ≡ get_or b m 0) → Alike a b (j + k)
  alike_more {i} f j k h g = record { byte = λ m l. go m l (ltb m i) refl }
    where
      go : (m : ℕ) → m < j + k → (t : Bool) → ltb m i ≡ t → get_or a m 0 ≡ get_or b m 0
      go m l true d = f.byte m (ltb-true m i d)
      go m l false d = g m (omega (arith, ltb-false m i d)) l

  -- names of one length that are alike to their end are the same
  pub alike_same : {i : ℕ} → Alike a b i → length a ≤ i → length a ≡ length b → true ≡ same a b
  alike_same f h l =
      let e : a ≡ b = ext_get_or 0 a b l (λ m k. f.byte m (omega arith)) in
      rw e (sym (same_refl b))

-- ---- numbers of k bytes, the low byte first

module _ (a b : List ℕ) (bytes_a : (i : ℕ) → Fits w8 (get_or a i 0)) (bytes_b : (i : ℕ) → Fits w8 (get_or b i 0)) where
  -- equal numbers have equal bytes
  le_bytes : (k j : ℕ) → le k a j ≡ le k b j → (m : ℕ) → j ≤ m → m < j + k → get_or a m 0 ≡ get_or b m 0
  unfolding le
  le_bytes zero j e m h g = absurd (omega arith)
  le_bytes (suc k) j e m h g =
      let x : get_or a j 0 < 256 = (bytes_a j).fits in
      let y : get_or b j 0 < 256 = (bytes_b j).fits in
      go (omega arith) (le_bytes k (j + 1) (omega arith) m) (eqb m j) refl
    where
      go : get_or a j 0 ≡ get_or b j 0 → (j + 1 ≤ m → m < j + 1 + k → get_or a m 0 ≡ get_or b m 0) → (t : Bool) → eqb m j ≡ t → get_or a m 0 ≡ get_or b m 0
      go f r true d = rw (eqb-true m j d) f
      go f r false d = r (omega (arith, eqb-false m j d)) (omega arith)

  -- alike from i on, so are they from j on, if the k bytes there make one number
  pub alike_back : {i : ℕ} → AlikeFrom a b i → (k j : ℕ) → i ≤ j + k → {p q : ℕ} → p ≡ le k a j → q ≡ le k b j → p ≡ q → AlikeFrom a b j
  alike_back {i} f k j h ea eb e = record { byte = λ m l. go m l (ltb m (j + k)) refl }
    where
      go : (m : ℕ) → j ≤ m → (t : Bool) → ltb m (j + k) ≡ t → get_or a m 0 ≡ get_or b m 0
      go m l true d = le_bytes k j (sym ea ∙ e ∙ eb) m l (ltb-true m (j + k) d)
      go m l false d = f.byte m (omega (arith, ltb-false m (j + k) d))

  module _ (l : length a ≡ length b) where
    -- alike from i on, they are the same, if the first k bytes make one number
    pub alike_whole : {i : ℕ} → AlikeFrom a b i → (k : ℕ) → i ≤ k → {p q : ℕ} → p ≡ le k a 0 → q ≡ le k b 0 → p ≡ q → true ≡ same a b
    alike_whole f k h ea eb e =
        let g : AlikeFrom a b 0 = alike_back f k 0 (omega arith) ea eb e in
        let z : a ≡ b = ext_get_or 0 a b l (λ m o. g.byte m (omega arith)) in
        rw z (sym (same_refl b))

    -- and where no more than the k bytes behind the first k are left, these decide
    pub alike_inner : {i : ℕ} → AlikeFrom a b i → (k : ℕ) → i ≤ k + k → {p q x y : ℕ} → p ≡ le k a 0 → q ≡ le k b 0 → p ≡ q → x ≡ le k a k → y ≡ le k b k
        → eqb x y ≡ same a b
    alike_inner f k h {x = x} {y = y} ea eb e u v = go (eqb x y) refl
      where
        go : (t : Bool) → eqb x y ≡ t → t ≡ same a b
        go true d = alike_whole (alike_back f k k h u v (eqb-true x y d)) k (omega arith) ea eb e
        go false d = differ a b (λ z. eqb-false x y d (u ∙ ap (λ (s : List ℕ). le k s k) z ∙ sym v))

-- ---- the same over what is left behind an offset, as a list

-- behind the last byte nothing is left to compare
pub same_none : (a b : List ℕ) (n : ℕ) → length a ≤ n → length b ≤ n → drop n a ≡ drop n b
same_none a b n h k = rw (drop_of_length-le a {i = n} h, drop_of_length-le b {i = n} k)

-- names of one length, whose elements are bytes
module _ (a b : List ℕ) (bytes_a : (i : ℕ) → get_or a i 0 < 256) (bytes_b : (i : ℕ) → get_or b i 0 < 256) (l : length a ≡ length b) where
  -- k bytes at j that make one number are the same: so are all from j on, if those from i on are
  pub same_step : (k i j : ℕ) → drop i a ≡ drop i b → i ≤ j + k → j + k ≤ length a → {p q : ℕ} → p ≡ le k a j → q ≡ le k b j → p ≡ q → drop j a ≡ drop j b
  same_step k i j d h g ea eb e =
      let z : i + (j + k - i) ≡ j + k = omega arith in
      let r : drop (j + k) a ≡ drop (j + k) b = rw z at (sym (drop-drop (j + k - i) i a) ∙ ap (drop (j + k - i)) d ∙ drop-drop (j + k - i) i b) in
      let n : le k a j ≡ le k b j = sym ea ∙ e ∙ eb in
      spelt a bytes_a k j g ∙ ap₂ (λ (v : ℕ) (t : List ℕ). bytes k v ++ t) n r ∙ sym (spelt b bytes_b k j (omega arith))

  -- the first k bytes decide, if those from i on are the same
  pub same_first : (k i : ℕ) → drop i a ≡ drop i b → i ≤ k → k ≤ length a → {p q : ℕ} → p ≡ le k a 0 → q ≡ le k b 0 → eqb p q ≡ same a b
  same_first k i d h g {p} {q} ea eb = go (eqb p q) refl
    where
      go : (t : Bool) → eqb p q ≡ t → t ≡ same a b
      go true e =
          let z : a ≡ b = same_step k i 0 d (omega arith) (omega arith) ea eb (eqb-true p q e) in
          rw z (sym (same_refl b))
      go false e = differ a b (λ z. eqb-false p q e (ea ∙ ap (λ (s : List ℕ). le k s 0) z ∙ sym eb))

  -- the k bytes at j decide, if those before them and those from i on are the same
  pub same_inner : (k i j : ℕ) → drop i a ≡ drop i b → i ≤ j + k → j + k ≤ length a → {x y p q : ℕ} → x ≡ le j a 0 → y ≡ le j b 0 → x ≡ y
      → p ≡ le k a j → q ≡ le k b j → eqb p q ≡ same a b
  same_inner k i j d h g {x} {y} {p} {q} fa fb f ea eb = go (eqb p q) refl
    where
      go : (t : Bool) → eqb p q ≡ t → t ≡ same a b
      go true e =
          let m : drop j a ≡ drop j b = same_step k i j d h g ea eb (eqb-true p q e) in
          let z : a ≡ b = same_step j j 0 m (omega arith) (omega arith) fa fb f in
          rw z (sym (same_refl b))
      go false e = differ a b (λ z. eqb-false p q e (ea ∙ ap (λ (s : List ℕ). le k s j) z ∙ sym eb))

  -- names whose first k bytes are the same, and all from i on, are the same
  pub same_all : (k i : ℕ) → drop i a ≡ drop i b → i ≤ k → k ≤ length a → {p q : ℕ} → p ≡ le k a 0 → q ≡ le k b 0 → p ≡ q → true ≡ same a b
  same_all k i d h g ea eb e =
      let z : a ≡ b = same_step k i 0 d (omega arith) (omega arith) ea eb e in
      rw z (sym (same_refl b))

  -- where the last k bytes are the same, and no byte stands between them and the first k, the first k decide
  pub same_ends : (k : ℕ) → k ≤ length a → length a ≤ k + k → {p q x y : ℕ} → p ≡ le k a (length a - k) → q ≡ le k b (length a - k) → p ≡ q
      → x ≡ le k a 0 → y ≡ le k b 0 → eqb x y ≡ same a b
  same_ends k h g ea eb e fa fb =
      let n : drop (length a) a ≡ drop (length a) b = same_none a b (length a) (omega arith) (omega arith) in
      let d : drop (length a - k) a ≡ drop (length a - k) b = same_step k (length a) (length a - k) n (omega arith) (omega arith) ea eb e in
      same_first k (length a - k) d (omega arith) h fa fb

  -- names of one byte
  pub same_one : length a ≡ 1 → eqb (get_or a 0 0) (get_or b 0 0) ≡ same a b
  same_one h = same_first 1 1 (same_none a b 1 (omega arith) (omega arith)) (omega arith) (omega arith) (sym (le_one a 0)) (sym (le_one b 0))

-- names without a byte are the same
pub same_empty : (a b : List ℕ) → length a ≡ length b → length a ≤ 0 → true ≡ same a b
same_empty a b l h =
    let z : a ≡ b = same_none a b 0 h (omega arith) in
    rw z (sym (same_refl b))

-- The laws of writing. Assumes nothing.
use mathlib.Core.Path.{◌≡◌, refl, sym, ap, ◌∙◌}
use mathlib.Core.Bool.{Bool, true, false, cond}
use mathlib.Core.List.{List, [], ◌∷◌, ◌++◌, append_assoc}
use Prim.Native.Nat.{min, ℕ, zero, suc, ◌+◌, ◌-◌, ◌*◌, ◌%◌, ◌/◌, ◌<◌, ◌≤◌}
use native.Mathlib.Numerals.{sub-one}
use native.Mathlib.Nat.{add-zero, zero-add, one-mul, suc-mul, not-suc-le-zero}
use native.Mathlib.Omega.{arith}
use borrow.Author.Count.{below_more}
use borrow.Author.Tests.{leb-true, leb-false}
use Rattle.std.proofs.lemmas.List.{take_more, take-append-drop}
use Rattle.std.specs.Int.{from_bool}
use lib.Dec.{leb}
use lib.ListN.{length, set, drop, get_or, replicate, take, length-append, length-replicate, length-drop, get_or-replicate}
use lib.Bits.{bit_and, bit_or, or_add_and, and_le_l, and_le_r}
use lib.Seq.{sets-eq, length-sets, set_comm, set-set, set_out, get_or-drop, ext_get_or, take_all, length-take-le}
use Rattle.blocks.specs.Bytes.{bytes}
use Rattle.blocks.specs.Tree.{Tree, name, num, block, nil, cons}
use Rattle.blocks.specs.Write.{write}
pub use Rattle.blocks.proofs.Bytes.{bytes_length}
use Rattle.wire.specs.Poke.{poke, Wrote, opened}

-- writing keeps the length of the slice
pub poke_length : (xs : List ℕ) (at : ℕ) (bs : List ℕ) → length (poke xs at bs) ≡ length xs
unfolding poke
poke_length xs at bs = length-sets xs at bs

-- what fits stands whole, and the bytes behind it stay
pub poke_whole : (xs bs : List ℕ) → length bs ≤ length xs → poke xs 0 bs ≡ bs ++ drop (length bs) xs
unfolding poke
poke_whole xs bs h = sets-eq bs xs 0 (omega arith) ∙ rw (zero-add (length bs))

-- one write behind another
poke_then : (xs : List ℕ) (at : ℕ) (a b : List ℕ) → poke (poke xs at a) (at + length a) b ≡ poke xs at (a ++ b)
unfolding poke
poke_then xs at [] b = rw add-zero
poke_then xs at (x ∷ a) b = let e : at + suc (length a) ≡ suc at + length a = omega arith in rw e (poke_then (set xs at x) (suc at) a b)

-- a store before a write
set_poke : (xs : List ℕ) (i j x : ℕ) (bs : List ℕ) → i < j → set (poke xs j bs) i x ≡ poke (set xs i x) j bs
unfolding poke
set_poke xs i j x [] h = refl
set_poke xs i j x (b ∷ bs) h = rw (set_poke (set xs j b) i (suc j) x bs (omega arith), set_comm xs j i b x (omega arith))

-- the first bytes of a write are written anew
poke_patch : (xs : List ℕ) (at : ℕ) (z n body : List ℕ) → length z ≡ length n → poke (poke xs at (z ++ body)) at n ≡ poke xs at (n ++ body)
unfolding poke
poke_patch xs at [] [] body h = refl
poke_patch xs at [] (y ∷ n) body h = absurd (let z : ⊥ = omega arith in z)
poke_patch xs at (x ∷ z) [] body h = absurd (let z : ⊥ = omega arith in z)
poke_patch xs at (x ∷ z) (y ∷ n) body h =
    rw (set_poke (set xs at x) at (suc at) y (z ++ body) (omega arith), set-set xs at x y)
    (poke_patch (set xs at y) (suc at) z n body (omega arith))

-- ---- writes, one behind another

-- nothing written leaves the slice and the cursor as they are
pub none : (xs : List ℕ) (at : ℕ) → Wrote xs at [] xs at
unfolding poke
none xs at = record { end = sym (add-zero at); left = refl }

-- two writes, the second where the first ended
pub both : {xs ys zs a b : List ℕ} {at p r : ℕ} → Wrote xs at a ys p → Wrote ys p b zs r → Wrote xs at (a ++ b) zs r
both {xs} {ys} {zs} {a} {b} {at} {p} {r} u v =
    record { end = omega (arith, length-append a b, u.end, v.end); left = v.left ∙ rw (u.end, u.left) (poke_then xs at a b) }

-- the same of the parts of a tree
pub parts : {xs ys zs : List ℕ} {at p r : ℕ} (a b : Tree) → Wrote xs at (write a) ys p → Wrote ys p (write b) zs r → Wrote xs at (write (cons a b)) zs r
unfolding write
parts a b u v = both u v

-- a body with no parts is nothing written
pub no_parts : (xs : List ℕ) (at : ℕ) → Wrote xs at (write nil) xs at
unfolding write
no_parts xs at = none xs at

-- the first bytes of a write are written anew
patched : {xs ys zs : List ℕ} {at r q : ℕ} (z n body : List ℕ) → length z ≡ length n → Wrote xs at (z ++ body) ys r → Wrote ys at n zs q → Wrote xs at (n ++ body) zs r
patched {xs} {ys} {zs} {at} {r} z n body h u v =
    record { end = u.end ∙ (let e : at + length (z ++ body) ≡ at + length (n ++ body) = simp length-append (omega arith) in e); left = v.left ∙ rw u.left (poke_patch xs at z n body h) }

-- a block whose length is written once its body is; o is any offset, which is not written
pub closed : {xs ys zs : List ℕ} {at u q : ℕ} (o k : ℕ) (t : Tree) → Wrote xs at (opened k ++ write t) ys u → Wrote ys at (bytes 4 (u - at - 4)) zs q → Wrote xs at (write (block o k t)) zs u
unfolding opened write
closed {xs} {ys} {zs} {at} {u} {q} o k t f g =
    let e : u ≡ at + length ((bytes 4 0 ++ bytes 2 k) ++ write t) = f.end in
    let l : length ((bytes 4 0 ++ bytes 2 k) ++ write t) ≡ 6 + length (write t) = simp length-append (omega (arith, bytes_length 4 0, bytes_length 2 k)) in
    let d : u - at - 4 ≡ 2 + length (write t) = omega arith in
    patched (bytes 4 0) (bytes 4 (2 + length (write t))) (bytes 2 k ++ write t) (bytes_length 4 0 ∙ sym (bytes_length 4 (2 + length (write t)))) (rw append_assoc at f) (rw d at g)

-- a written block is six bytes longer than its body
pub block_length : (o k : ℕ) (t : Tree) → length (write (block o k t)) ≡ 6 + length (write t)
unfolding write bytes
block_length o k t = omega arith

-- ---- in the form in which the code has them

-- a byte stored inside the slice is written
pub byte_in : (xs : List ℕ) (at b : ℕ) → Wrote xs at (b ∷ []) (set xs at b) (at + 1)
unfolding poke
byte_in xs at b = record { end = refl; left = refl }

-- a byte behind the slice's end is only counted
pub byte_out : (xs : List ℕ) (at b : ℕ) → length xs ≤ at → Wrote xs at (b ∷ []) xs (at + 1)
unfolding poke
byte_out xs at b h = record { end = refl; left = sym (set_out xs at b h) }

-- no byte of a number is left to be written
pub le_none : (xs : List ℕ) (at k v : ℕ) → k ≤ 0 → Wrote xs at (bytes k v) xs at
unfolding bytes
le_none xs at zero v h = none xs at
le_none xs at (suc k) v h = absurd (not-suc-le-zero h)

-- the lowest byte, and then the others, are the whole number
pub le_more : (xs ys zs : List ℕ) (at p k v r : ℕ) → 0 < k → Wrote xs at (v % 256 ∷ []) ys p → Wrote ys p (bytes (k - 1) (v / 256)) zs r → Wrote xs at (bytes k v) zs r
unfolding bytes
le_more xs ys zs at p zero v r h f g = absurd (not-suc-le-zero h)
le_more xs ys zs at p (suc k) v r h f g = both f (rw sub-one at g)

-- behind the slice's end all bytes are only counted
pub all_out : (xs bs : List ℕ) (at : ℕ) → length xs ≤ at → Wrote xs at bs xs (at + length bs)
all_out xs [] at h = rw (add-zero at) (none xs at)
all_out xs (b ∷ bs) at h =
    let e : at + 1 + length bs ≡ at + suc (length bs) = omega arith in
    rw (← e) (both (byte_out xs at b h) (all_out xs bs (at + 1) (omega arith)))

-- the first k bytes of bs were written: one more is
pub first_more : (xs ys bs : List ℕ) (at k : ℕ) → ys ≡ poke xs at (take k bs) → k < length bs → set ys (at + k) (get_or bs k 0) ≡ poke xs at (take (k + 1) bs)
unfolding poke
first_more xs ys bs at k e h =
    let n : length (take k bs) ≡ k = length-take-le k bs (omega arith) in
    rw (e, take_more bs k 0 h) (rw n at (poke_then xs at (take k bs) (get_or bs k 0 ∷ [])))

-- all of them were, as far as the slice goes
pub first_all : (xs ys bs : List ℕ) (at k : ℕ) → ys ≡ poke xs at (take k bs) → k ≡ min (length bs) (length xs - at) → Wrote xs at bs ys (at + length bs)
first_all xs ys bs at k e h = record { end = refl; left = e ∙ go (leb (length bs) k) refl }
  where
    go : (t : Bool) → leb (length bs) k ≡ t → poke xs at (take k bs) ≡ poke xs at bs
    go true q = rw (take_all k bs (leb-true _ _ q))
    go false q =
        let l : k < length bs = omega (arith, leb-false _ _ q) in
        let n : length (take k bs) ≡ k = length-take-le k bs (omega arith) in
        let m : length (poke xs at (take k bs)) ≤ at + k = rw poke_length (omega arith) in
        (all_out (poke xs at (take k bs)) (drop k bs) (at + k) m).left
        ∙ rw n at (poke_then xs at (take k bs) (drop k bs))
        ∙ ap (poke xs at) (take-append-drop k bs)

-- a name is its length and its bytes
pub name_puts : (xs ys zs s : List ℕ) (at p r : ℕ) → Wrote xs at (bytes 2 (length s)) ys p → Wrote ys p (drop 0 s) zs r → Wrote xs at (write (name s)) zs r
unfolding write
name_puts xs ys zs s at p r f g = both f g

-- a flag is a 1 or a 0
pub flag_puts : (xs ys : List ℕ) (at r b : ℕ) (on : Bool) → b ≡ from_bool on → Wrote xs at (b ∷ []) ys r → Wrote xs at (write (num 1 (cond on 1 0))) ys r
unfolding write bytes
flag_puts xs ys at r b true e f = rw e at f
flag_puts xs ys at r b false e f = rw e at f

-- the head of a block is a length that is yet to be written and its kind
pub open_puts : (xs ys zs : List ℕ) (at p r k : ℕ) → Wrote xs at (bytes 4 0) ys p → Wrote ys p (bytes 2 k) zs r → Wrote xs at (opened k) zs r
unfolding opened
open_puts xs ys zs at p r k f g = both f g

pub ruleset writes = (byte_in, byte_out, name_puts, open_puts)

-- ---- bits

-- the first n entries are 0
abbrev pub Zeros : List ℕ → ℕ → Type 0
Zeros ws n = (k : ℕ) → k < n → get_or ws k 0 ≡ 0

-- the bits of the first i numbers of f together: where they are 0, so are the numbers
abbrev pub Bits : (ℕ → ℕ) → ℕ → ℕ → Type 0
Bits f bits i = bits ≡ 0 → (k : ℕ) → k < i → f k ≡ 0

-- an or of two numbers is 0 only where both are
or_none : (a b : ℕ) → bit_or a b ≡ 0 → (a ≡ 0) × (b ≡ 0)
or_none a b h =
    let e : bit_or a b + bit_and a b ≡ a + b = or_add_and a b in
    let l : bit_and a b ≤ a = and_le_l a b in
    let r : bit_and a b ≤ b = and_le_r a b in
    (omega arith, omega arith)

-- of no numbers nothing is said
pub bits_none : (f : ℕ → ℕ) → Bits f 0 0
bits_none f e k h = absurd (not-suc-le-zero h)

-- one more number is taken in
pub bits_more : (f : ℕ → ℕ) (bits i : ℕ) → Bits f bits i → Bits f (bit_or bits (f i)) (i + 1)
bits_more f bits i b e = let o = or_none bits (f i) e in below_more (λ (k : ℕ). f k ≡ 0) i (b o.0) o.1

-- a list whose entries are all 0 is the list of zeros
pub zeros_end : (ws : List ℕ) → Zeros ws (length ws) → ws ≡ replicate (length ws) 0
zeros_end ws z = ext_get_or 0 ws (replicate (length ws) 0) (sym (length-replicate (length ws) 0)) (λ k h. z k h ∙ sym (get_or-replicate (length ws) k 0 0 h))

-- what stands at k in each of the first j + 1 parts of n entries, together
unfoldable pub ors : List ℕ → ℕ → ℕ → ℕ → ℕ
ors ws n zero k = get_or ws k 0
ors ws n (suc j) k = bit_or (ors ws n j k) (get_or ws (suc j * n + k) 0)

module _ (ws : List ℕ) where
  -- n more behind the first a
  zeros_more : (a n m : ℕ) → m ≤ a + n → Zeros ws a → ((k : ℕ) → k < n → get_or ws (a + k) 0 ≡ 0) → Zeros ws m
  zeros_more a n m l f g k h = go (leb a k) refl
    where
      go : (t : Bool) → leb a k ≡ t → get_or ws k 0 ≡ 0
      go true q =
          let i : a ≤ k = leb-true a k q in
          let z : a + (k - a) ≡ k = omega arith in
          rw z at (g (k - a) (omega arith))
      go false q = f k (omega (arith, leb-false a k q))

  module _ (n : ℕ) where
    -- the five words that the loop takes in at once, in its order
    pub five_words : (k : ℕ) → bit_or (bit_or (bit_or (bit_or (get_or ws k 0) (get_or ws (n + k) 0)) (get_or ws (2 * n + k) 0)) (get_or ws (3 * n + k) 0)) (get_or ws (4 * n + k) 0) ≡ ors ws n 4 k
    unfolding ors
    five_words k = rw (one-mul n)

    -- where the or of the parts is 0 at each place, all their entries are
    parts_zeros : (j : ℕ) → ((k : ℕ) → k < n → ors ws n j k ≡ 0) → Zeros ws (suc j * n)
    unfolding ors
    parts_zeros zero h = λ k l. h k (omega (arith, one-mul n))
    parts_zeros (suc j) h =
        zeros_more (suc j * n) n (suc (suc j) * n) (omega (arith, suc-mul (suc j) n))
        (parts_zeros j (λ k l. (or_none (ors ws n j k) _ (h k l)).0)) (λ k l. (or_none (ors ws n j k) _ (h k l)).1)

    -- the parts, and the rest behind them
    abbrev pub Rest : List ℕ
    Rest = take (length ws - 5 * n) (drop (5 * n) ws)

    -- where the or of the five parts and of the rest is 0, all entries are
    pub fifths_end : (bits i r : ℕ) → n ≤ i → Bits (ors ws n 4) bits i → (r ≡ 0 → Rest ≡ replicate (length Rest) 0) → bit_or bits r ≡ 0 → ws ≡ replicate (length ws) 0
    fifths_end bits i r l b f e =
        let o = or_none bits r e in
        let d = length-drop (5 * n) ws in
        let w : Rest ≡ drop (5 * n) ws = take_all (length ws - 5 * n) (drop (5 * n) ws) (omega arith) in
        let z : drop (5 * n) ws ≡ replicate (length (drop (5 * n) ws)) 0 = rw w at (f o.1) in
        zeros_end ws (zeros_more (5 * n) (length ws - 5 * n) (length ws) (omega arith) (parts_zeros 4 (λ k h. b o.0 k (omega arith)))
        (λ k h. sym (get_or-drop (5 * n) ws k 0) ∙ rw z (get_or-replicate (length (drop (5 * n) ws)) k 0 0 (omega arith))))

-- ---- a part that is cleared in zeros

-- zeros whose first entries are put in anew as zeros are the same zeros
zeros_part : (k n : ℕ) → k ≤ n → ◌++◌ {A = ℕ} (replicate k 0) (drop k (replicate n 0)) ≡ replicate n 0
zeros_part zero n h = refl
zeros_part (suc k) zero h = absurd (not-suc-le-zero h)
zeros_part (suc k) (suc n) h = ap (λ (l : List ℕ). 0 ∷ l) (zeros_part k n (omega arith))

-- us is all zeros; what stood in its first k places was cleared
pub part_cleared : (n k : ℕ) (us zs : List ℕ) → us ≡ replicate n 0 → k ≤ length us → zs ≡ replicate (length (take k us)) 0 → zs ++ drop k us ≡ replicate n 0
part_cleared n k us zs e h c =
    let m : length us ≡ n = ap length e ∙ length-replicate n 0 in
    rw (c, length-take-le k us h, e) (zeros_part k n (omega arith))

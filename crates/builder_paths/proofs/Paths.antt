-- A path behind its prefix. Assumes nothing.
use mathlib.Core.Path.{◌≡◌, refl, sym, ◌∙◌, ap}
use mathlib.Core.Bool.{true, false}
use mathlib.Core.List.{List, [], ◌∷◌, ◌++◌}
use Prim.Native.Nat.{ℕ, zero, suc, ◌+◌, ◌*◌, ◌-◌}
use native.Mathlib.Numerals.{sub-one, add-one}
use native.Mathlib.Omega.{arith}
use lib.ListN.{length, length-append}
use Rattle.blocks.specs.Name.{Name, ascii}
use Rattle.builder.specs.Names.{is_empty, join, trim_end, apply_path_prefix}
use Rattle.wire.specs.Poke.{Wrote}
use Rattle.wire.proofs.Laws.{none, both}
use Rattle.builder_paths.specs.Joined.{prefix_of, path_of}

-- eight bytes for each array
prefix_length : (k : ℕ) → length (prefix_of k) ≡ 8 * k
unfolding prefix_of
prefix_length zero = refl
prefix_length (suc k) = omega (arith, length-append (prefix_of k) (ascii "element."), prefix_length k)

-- the loop that writes it
pub no_prefix : (xs : List ℕ) → Wrote xs 0 (prefix_of 0) xs 0
unfolding prefix_of
no_prefix xs = none xs 0

-- a turn of the loop that writes the prefix
pub one_more : {xs ys zs : List ℕ} (k : ℕ) {p r : ℕ} → Wrote xs 0 (prefix_of k) ys p → Wrote ys p (ascii "element.") zs r → Wrote xs 0 (prefix_of (k + 1)) zs r
unfolding prefix_of
one_more k f g = rw add-one (both f g)

-- what ends in a name is not empty
not_empty_lem : (n : Name) (x : ℕ) (m : Name) → is_empty (n ++ (x ∷ m)) ≡ false
not_empty_lem [] x m = refl
not_empty_lem (y ∷ n) x m = refl

-- the last dot goes, and no other
trimmed : (n : Name) → trim_end (n ++ ascii "element.") ≡ n ++ ascii "element"
unfolding trim_end
trimmed [] = refl
trimmed (x ∷ n) = rw (trimmed n, not_empty_lem n 0x65 (ascii "lement"))

-- a name is empty where its length is 0
empty_length : (n : Name) → length n ≡ 0 → is_empty n ≡ true
empty_length [] e = refl
empty_length (x ∷ n) e = absurd (let z : ⊥ = omega arith in z)

-- and else it is not
full_length : (n : Name) → (length n ≡ 0 → ⊥) → is_empty n ≡ false
full_length [] h = absurd (h refl)
full_length (x ∷ n) h = refl

module _ (path : List Name) where
  -- in no array
  pub path_bare : (depth : ℕ) → depth ≡ 0 → path_of depth path ≡ join path
  unfolding prefix_of apply_path_prefix
  path_bare depth e = rw e refl

  -- an empty path
  pub path_empty : (depth : ℕ) → (depth ≡ 0 → ⊥) → length (join path) ≡ 0 → path_of depth path ≡ prefix_of (depth - 1) ++ ascii "element"
  unfolding prefix_of apply_path_prefix
  path_empty zero h e = absurd (h refl)
  path_empty (suc k) h e = rw (not_empty_lem (prefix_of k) 0x65 (ascii "lement."), empty_length (join path) e, sub-one) (trimmed (prefix_of k))

  -- else the prefix and the path
  pub path_both : (depth : ℕ) → (depth ≡ 0 → ⊥) → (length (join path) ≡ 0 → ⊥) → path_of depth path ≡ prefix_of depth ++ join path
  unfolding prefix_of apply_path_prefix
  path_both zero h n = absurd (h refl)
  path_both (suc k) h n = rw (not_empty_lem (prefix_of k) 0x65 (ascii "lement."), full_length (join path) n) refl

-- in the form in which the code has them: n bytes of the path, or it written
module _ {A : Type 0} {E : A → List Name → Type 0} {depth : ℕ} where
  module _ {n : ℕ} (f : (a : A) (path : List Name) → E a path → n ≡ length (join path)) where
    -- the answer of `joined_length` in no array
    pub long_bare : depth ≡ 0 → (a : A) (path : List Name) → E a path → n ≡ length (path_of depth path)
    long_bare d a path e = f a path e ∙ sym (ap length (path_bare path depth d))

    -- its answer for an empty path
    pub long_empty : (depth ≡ 0 → ⊥) → n ≡ 0 → (a : A) (path : List Name) → E a path → 8 * depth - 1 ≡ length (path_of depth path)
    long_empty d z a path e =
        rw (path_empty path depth d (sym (f a path e) ∙ z)) (omega (arith, d, length-append (prefix_of (depth - 1)) (ascii "element"), prefix_length (depth - 1)))

    -- its answer else
    pub long_both : (depth ≡ 0 → ⊥) → (n ≡ 0 → ⊥) → (a : A) (path : List Name) → E a path → 8 * depth + n ≡ length (path_of depth path)
    long_both d z a path e =
        rw (path_both path depth d (λ q. z (f a path e ∙ q))) (omega (arith, f a path e, length-append (prefix_of depth) (join path), prefix_length depth))

    -- what `put_joined` writes for an empty path
    pub put_empty : {xs ys zs : List ℕ} {p r : ℕ} → (depth ≡ 0 → ⊥) → n ≡ 0 → Wrote xs 0 (prefix_of (depth - 1)) ys p →
        Wrote ys p (ascii "element") zs r → (a : A) (path : List Name) → E a path → Wrote xs 0 (path_of depth path) zs r
    put_empty d z g h a path e = rw (path_empty path depth d (sym (f a path e) ∙ z)) (both g h)

    -- what it writes else
    pub put_both : {xs ys zs : List ℕ} {p r : ℕ} → (depth ≡ 0 → ⊥) → (n ≡ 0 → ⊥) → Wrote xs 0 (prefix_of depth) ys p →
        ((a : A) (path : List Name) → E a path → Wrote ys p (join path) zs r) → (a : A) (path : List Name) → E a path →
        Wrote xs 0 (path_of depth path) zs r
    put_both d z g h a path e = rw (path_both path depth d (λ q. z (f a path e ∙ q))) (both g (h a path e))

  -- what it writes in no array
  pub put_bare : {xs ys : List ℕ} {r : ℕ} → depth ≡ 0 → ((a : A) (path : List Name) → E a path → Wrote xs 0 (join path) ys r) →
      (a : A) (path : List Name) → E a path → Wrote xs 0 (path_of depth path) ys r
  put_bare d h a path e = rw (path_bare path depth d) (h a path e)

-- The laws of names: `same` is equality, `less` is a strict order of all names, `among` is membership.
use Prim.Native.Nat.{ℕ, ◌<◌}
use native.Mathlib.Omega.{arith}
use native.Mathlib.Nat.{le_antisymm}
use mathlib.Core.Path.{◌≡◌, refl, sym, ap₂}
use mathlib.Core.Bool.{Bool, true, false, ◌&&◌, ◌||◌}
use mathlib.Core.List.{List, [], ◌∷◌}
use lib.Dec.{eqb, ltb}
use borrow.Author.Tests.{eqb-true, eq-eqb, ltb-true, ltb-false, lt-ltb, le-ltb}
use Rattle.blocks.specs.Name.{Name, same, less, among}

-- a false test is not true
pub false_true : {X : Type 0} → false ≡ true → X
false_true e = let z : ◌≡◌ {A = ℕ} 0 1 = cc in absurd (omega arith)

-- of two tests that both hold, the first
pub and_left : (a b : Bool) → (a && b) ≡ true → a ≡ true
and_left true b e = refl
and_left false b e = e

-- of two tests that both hold, the second
pub and_right : (a b : Bool) → (a && b) ≡ true → b ≡ true
and_right true b e = e
and_right false b e = false_true e

-- a name is the same as itself
pub same_refl : (n : Name) → same n n ≡ true
unfolding same
same_refl [] = refl
same_refl (x ∷ xs) = rw (eq-eqb x x refl) (same_refl xs)

-- names that `same` accepts are equal
pub same_eq : (n m : Name) → same n m ≡ true → n ≡ m
unfolding same
same_eq [] [] e = refl
same_eq [] (y ∷ ys) e = false_true e
same_eq (x ∷ xs) [] e = false_true e
same_eq (x ∷ xs) (y ∷ ys) e = ap₂ (λ (a : ℕ) (as' : Name). a ∷ as') (eqb-true x y (and_left _ _ e)) (same_eq xs ys (and_right (eqb x y) _ e))

-- what `less` says of two names that begin with a byte each
pub data Before (x y : ℕ) (xs ys : Name) : Type 0 where
  byte : x < y → Before x y xs ys
  rest : x ≡ y → less xs ys ≡ true → Before x y xs ys

-- what is known where one name with a first byte is less than another: used to take `less` apart
less_cons : (x y : ℕ) (xs ys : Name) → less (x ∷ xs) (y ∷ ys) ≡ true → Before x y xs ys
unfolding less
less_cons x y xs ys e = go (ltb x y) refl e
  where
    go : (b : Bool) → ltb x y ≡ b → (b || (eqb x y && less xs ys)) ≡ true → Before x y xs ys
    go true h g = Before.byte (ltb-true x y h)
    go false h g = Before.rest (eqb-true x y (and_left _ _ g)) (and_right (eqb x y) _ g)

-- the other way round: used to put `less` together
cons_less : (x y : ℕ) (xs ys : Name) → Before x y xs ys → less (x ∷ xs) (y ∷ ys) ≡ true
unfolding less
cons_less x y xs ys (Before.byte h) = rw (lt-ltb x y h)
cons_less x y xs ys (Before.rest h g) = rw (le-ltb x y (omega arith), eq-eqb x y h) g

-- no name is less than itself
pub less_irrefl : (n : Name) → less n n ≡ true → ⊥
unfolding less
less_irrefl [] e = false_true e
less_irrefl (x ∷ xs) e = go (less_irrefl xs) (less_cons x x xs xs e)
  where
    go : (less xs xs ≡ true → ⊥) → Before x x xs xs → ⊥
    go ih (Before.byte h) = omega arith
    go ih (Before.rest h g) = ih g

-- a name that is less than another is less than all that the other is less than
pub less_trans : (a b c : Name) → less a b ≡ true → less b c ≡ true → less a c ≡ true
unfolding less
less_trans [] [] c e f = f
less_trans [] (y ∷ ys) [] e f = f
less_trans [] (y ∷ ys) (z ∷ zs) e f = refl
less_trans (x ∷ xs) [] c e f = false_true e
less_trans (x ∷ xs) (y ∷ ys) [] e f = f
less_trans (x ∷ xs) (y ∷ ys) (z ∷ zs) e f = go (less_trans xs ys zs) (less_cons x y xs ys e) (less_cons y z ys zs f)
  where
    go : (less xs ys ≡ true → less ys zs ≡ true → less xs zs ≡ true) → Before x y xs ys → Before y z ys zs → less (x ∷ xs) (z ∷ zs) ≡ true
    go ih (Before.byte h) (Before.byte g) = cons_less x z xs zs (Before.byte (omega arith))
    go ih (Before.byte h) (Before.rest g k) = cons_less x z xs zs (Before.byte (omega arith))
    go ih (Before.rest h k) (Before.byte g) = cons_less x z xs zs (Before.byte (omega arith))
    go ih (Before.rest h k) (Before.rest g l) = cons_less x z xs zs (Before.rest (omega arith) (ih k l))

-- two names of which neither is less are one
pub less_total : (a b : Name) → less a b ≡ false → less b a ≡ false → a ≡ b
unfolding less
less_total [] [] e f = refl
less_total [] (y ∷ ys) e f = false_true (sym e)
less_total (x ∷ xs) [] e f = false_true (sym f)
less_total (x ∷ xs) (y ∷ ys) e f = go (less_total xs ys) (ltb x y) refl (ltb y x) refl e f
  where
    go : (less xs ys ≡ false → less ys xs ≡ false → xs ≡ ys) → (b : Bool) → ltb x y ≡ b → (c : Bool) → ltb y x ≡ c
        → (b || (eqb x y && less xs ys)) ≡ false → (c || (eqb y x && less ys xs)) ≡ false → ◌≡◌ {A = Name} (x ∷ xs) (y ∷ ys)
    go ih true h c k g l = false_true (sym g)
    go ih false h true k g l = false_true (sym l)
    go ih false h false k g l =
        let q : x ≡ y = le_antisymm (ltb-false y x k) (ltb-false x y h) in
        let g' : less xs ys ≡ false = rw (eq-eqb x y q) at g in
        let l' : less ys xs ≡ false = rw (eq-eqb y x (sym q)) at l in
        ap₂ (λ (a : ℕ) (as' : Name). a ∷ as') q (ih g' l')

-- `among` is membership
pub data Among (n : Name) : List Name → Type 0 where
  here : {ms : List Name} → Among n (n ∷ ms)
  there : {m : Name} {ms : List Name} → Among n ms → Among n (m ∷ ms)

-- a name that `among` finds is a member
pub among_in : (n : Name) (ms : List Name) → among n ms ≡ true → Among n ms
unfolding among
among_in n [] e = false_true e
among_in n (m ∷ ms) e = go (among_in n ms) (same n m) refl e
  where
    go : (among n ms ≡ true → Among n ms) → (b : Bool) → same n m ≡ b → (b || among n ms) ≡ true → Among n (m ∷ ms)
    go ih true h g = rw (← same_eq n m h) Among.here
    go ih false h g = Among.there (ih g)

-- a member is found by `among`
pub in_among : {n : Name} {ms : List Name} → Among n ms → among n ms ≡ true
unfolding among
in_among {n} Among.here = rw (same_refl n)
in_among {n} (Among.there {m = m} i) = go (same n m) (in_among i)
  where
    go : (b : Bool) {c : Bool} → c ≡ true → (b || c) ≡ true
    go true e = refl
    go false e = e

-- Two actions that, where both give, give related values and leave the same registry: one law for each way to put actions
-- together. A refusal of either says nothing, since both sets build.
use mathlib.Core.Path.{◌≡◌, refl, sym, ◌∙◌}
use mathlib.Core.Bool.{Bool, true, false}
use mathlib.Core.Option.{Option, some, none}
use Prim.Native.Nat.{ℕ}
use Rattle.errors.specs.Refusal.{done}
use Rattle.errors.proofs.Laws.{done_one, not_done, bound}
use Rattle.builder.specs.Registry.{Registry, Build, ◌>>=◌, give, refuse, require, need, reads}

-- m and m' from one registry: where both give, R holds of their values, and the registries left are equal
pub record Keeps {A A' : Type 0} (R : A → A' → Type 0) (m : Build A) (m' : Build A') : Type 0 where
  pub run : (s : Registry) (x : A × Registry) (x' : A' × Registry) → m s ≡ done x → m' s ≡ done x'
      → R x.0 x'.0 × (x.1 ≡ x'.1)

module _ {A A' : Type 0} {R : A → A' → Type 0} where
  -- two values that are related
  pub gives : (a : A) (a' : A') → R a a' → Keeps R (give a) (give a')
  unfolding give
  gives a a' r = record { run = λ s x x' e e'. (rw (← done_one e, ← done_one e') r, cc) }

  -- the old action refuses: nothing is to be shown
  pub refuses : (q : ℕ) (m' : Build A') → Keeps R (refuse q) m'
  unfolding refuse
  refuses q m' = record { run = λ s x x' e e'. absurd (not_done e) }

  -- the new action refuses: nothing is to be shown
  refuses_new : (m : Build A) (q : ℕ) → Keeps R m (refuse q)
  unfolding refuse
  refuses_new m q = record { run = λ s x x' e e'. absurd (not_done e') }

  -- the values that are needed, where both are there
  pub needs : (o : Option A) (o' : Option A') (q : ℕ) → ((a : A) (a' : A') → o ≡ some a → o' ≡ some a' → R a a')
      → Keeps R (need o q) (need o' q)
  unfolding need
  needs none o' q h = refuses q _
  needs (some a) none q h = refuses_new _ q
  needs (some a) (some a') q h = gives a a' (h a a' refl refl)

-- two questions, where both are answered "yes"
pub requires : (b b' : Bool) (q : ℕ) → Keeps ◌≡◌ (require b q) (require b' q)
unfolding require
requires false b' q = refuses q _
requires true false q = refuses_new _ q
requires true true q = gives tt tt refl

module _ {A A' B B' : Type 0} {R : A → A' → Type 0} {S : B → B' → Type 0} where
  -- two actions that keep, and what is done with their values
  pub binds : {m : Build A} {m' : Build A'} {k : A → Build B} {k' : A' → Build B'}
      → Keeps R m m' → ((a : A) (a' : A') → R a a' → Keeps S (k a) (k' a')) → Keeps S (m >>= k) (m' >>= k')
  unfolding ◌>>=◌
  binds {m} {m'} {k} {k'} h g = record {
    run = λ s x x' e e'.
        let (y, d, i) = bound (m s) _ x e in
        let (y', d', i') = bound (m' s) _ x' e' in
        let (r, same_registry) = h.run s y y' d d' in
        (g y.0 y'.0 r).run y.1 x x' i (rw same_registry i');
  }

-- one action, from one registry, gives one value
same : {A : Type 0} (m : Build A) → Keeps ◌≡◌ m m
same m = record { run = λ s x x' e e'. let h : x ≡ x' = done_one (sym e ∙ e') in (cc, cc) }

-- the same action first
pub first : {A B B' : Type 0} {S : B → B' → Type 0} (m : Build A) {k : A → Build B} {k' : A → Build B'}
    → ((a : A) → Keeps S (k a) (k' a)) → Keeps S (m >>= k) (m >>= k')
first m g = binds (same m) (λ a a' e. rw (← e) (g a))

-- An action that leaves the registry as it is.
pub record Still {A : Type 0} (m : Build A) : Type 0 where
  pub run : (s : Registry) (x : A × Registry) → m s ≡ done x → s ≡ x.1

module _ {A : Type 0} where
  -- a value that is given
  pub still_give : (a : A) → Still (give a)
  unfolding give
  still_give a = record { run = λ s x e. cc }

  -- a refusal
  pub still_refuse : (q : ℕ) → Still (refuse {A = A} q)
  unfolding refuse
  still_refuse q = record { run = λ s x e. absurd (not_done e) }

  -- a value that is needed
  pub still_need : (o : Option A) (q : ℕ) → Still (need o q)
  unfolding need
  still_need none q = still_refuse q
  still_need (some a) q = still_give a

  -- a look at the registry
  pub still_reads : (f : Registry → A) → Still (reads f)
  unfolding reads
  still_reads f = record { run = λ s x e. cc }

-- a question
pub still_require : (b : Bool) (q : ℕ) → Still (require b q)
unfolding require
still_require true q = still_give tt
still_require false q = still_refuse q

-- two such actions
pub still_binds : {A B : Type 0} {m : Build A} {k : A → Build B} → Still m → ((a : A) → Still (k a)) → Still (m >>= k)
unfolding ◌>>=◌
still_binds {m} {k} h g = record { run = λ s x e. let (y, d, i) = bound (m s) _ x e in h.run s y d ∙ (g y.0).run y.1 x i }

-- an action that leaves the registry as it is, against one that does nothing
pub beside : {A A' : Type 0} {R : A → A' → Type 0} (a : A) (m' : Build A')
    → ((a' : A') → R a a') → Still m' → Keeps R (give a) m'
unfolding give
beside a m' r h = record { run = λ s x x' e e'. (rw (← done_one e) (r x'.0), let z = h.run s x' e' in cc) }

-- An action on the registry, step by step: what the first step gives decides.
use mathlib.Core.Path.{◌≡◌, refl}
use mathlib.Core.Bool.{Bool, true, false}
use mathlib.Core.Option.{Option, some, none}
use Prim.Native.Nat.{ℕ}
use Rattle.errors.specs.Refusal.{Refusal, done, refused, plain}
use Rattle.errors.specs.Refusal.{◌>>=◌ as ◌and_then◌}
use Rattle.builder.specs.Registry.{Registry, Build, ◌>>=◌, give, refuse, require, need, reads}

module _ {A B : Type 0} (m : Build A) (k : A → Build B) (r : Registry) where
  -- the first step gave a value, and left a registry
  pub step_done : {x : A × Registry} → m r ≡ done x → (m >>= k) r ≡ k x.0 x.1
  unfolding ◌>>=◌ ◌and_then◌
  step_done e = rw e

  -- the first step refused
  pub step_refused : {q : Refusal} → m r ≡ refused q → (m >>= k) r ≡ refused q
  unfolding ◌>>=◌ ◌and_then◌
  step_refused e = rw e

module _ {B : Type 0} {b : Bool} (q : ℕ) (k : Unit → Build B) (r : Registry) where
  -- a question answered with "yes": the rest goes on
  pub require_yes : b ≡ true → (require b q >>= k) r ≡ k tt r
  unfolding ◌>>=◌ ◌and_then◌ require give
  require_yes e = rw e

  -- answered with "no": the number is refused
  pub require_no : b ≡ false → (require b q >>= k) r ≡ refused (plain q)
  unfolding ◌>>=◌ ◌and_then◌ require refuse
  require_no e = rw e

module _ {A B : Type 0} {o : Option A} (q : ℕ) (k : A → Build B) (r : Registry) where
  -- a value that is there: the rest goes on with it
  pub need_some : {a : A} → o ≡ some a → (need o q >>= k) r ≡ k a r
  unfolding ◌>>=◌ ◌and_then◌ need give
  need_some e = rw e

  -- a value that is missing: the number is refused
  pub need_none : o ≡ none → (need o q >>= k) r ≡ refused (plain q)
  unfolding ◌>>=◌ ◌and_then◌ need refuse
  need_none e = rw e

-- the rest goes on with what the registry says
pub reads_then : {A B : Type 0} (f : Registry → A) (k : A → Build B) (r : Registry) → (reads f >>= k) r ≡ k (f r) r
unfolding ◌>>=◌ ◌and_then◌ reads
reads_then f k r = refl

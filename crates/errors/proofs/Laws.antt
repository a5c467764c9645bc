-- What an answer that was given says of the questions on the way to it, and the other way round.
use mathlib.Core.Path.{◌≡◌, refl}
use mathlib.Core.Bool.{Bool, true, false}
use Prim.Native.Nat.{ℕ}
use native.Mathlib.Omega.{arith}
use Rattle.errors.specs.Refusal.{Refusal, Outcome, done, refused, ◌>>=◌, ask}

module _ {A : Type 0} where
  -- one answer only
  pub done_one : {x y : A} → done x ≡ done y → x ≡ y
  done_one e = cc

  -- a refusal is no answer: closes the cases that an accepted input rules out
  pub not_done : {r : Refusal} {x : A} → refused r ≡ done x → ⊥
  not_done e = let z : ◌≡◌ {A = ℕ} 0 1 = cc in absurd (omega arith)

  -- a question on the way to an answer was answered "yes"
  pub asked : (b : Bool) (r : Refusal) (k : Unit → Outcome A) (x : A) → (ask b r >>= k) ≡ done x → (b ≡ true) × (k tt ≡ done x)
  unfolding ◌>>=◌ ask
  asked true r k x e = (refl, e)
  asked false r k x e = absurd (not_done e)

  -- where the question is answered "yes", the chain goes on
  pub asked_yes : {b : Bool} (r : Refusal) (k : Unit → Outcome A) → b ≡ true → (ask b r >>= k) ≡ k tt
  unfolding ◌>>=◌ ask
  asked_yes r k h = rw h

module _ {A B : Type 0} where
  -- a step on the way to an answer gave one
  pub bound : (o : Outcome A) (k : A → Outcome B) (x : B) → (o >>= k) ≡ done x → (a : A) × (o ≡ done a) × (k a ≡ done x)
  unfolding ◌>>=◌
  bound (done a) k x e = (a, refl, e)
  bound (refused r) k x e = absurd (not_done e)

  -- where a step gives a value, the chain goes on with it
  pub bound_done : {o : Outcome A} {a : A} (k : A → Outcome B) → o ≡ done a → (o >>= k) ≡ k a
  unfolding ◌>>=◌
  bound_done k h = rw h

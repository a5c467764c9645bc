-- An action on a registry whose entries are fine leaves such a registry, and P holds of what it gives: one law for each way to put actions together.
use Prim.Native.Nat.{ℕ}
use mathlib.Core.Path.{◌≡◌, refl}
use mathlib.Core.Bool.{Bool, true, false}
use mathlib.Core.Option.{Option}
use Rattle.errors.specs.Refusal.{done}
use Rattle.errors.proofs.Laws.{done_one, not_done, bound}
use Rattle.ir.specs.Ir.{IrParameter}
use Rattle.builder.specs.Registry.{Entry, Registry, Build, ◌>>=◌, give, refuse, require, need, reads, change}
use Rattle.builder_texts.specs.Texts.{IsText}
use Rattle.builder_texts.proofs.All.{All, Maybe, Any}
use Rattle.builder_texts.proofs.Names.{Well}

-- a parameter with texts only: it is written
pub record ParameterTexts (p : IrParameter) : Type 0 where
  pub name : IsText p.name
  pub description : Maybe IsText p.description

-- an entry: its owner and keys are compared only, so nothing is asked of their length
pub record EntryFine (e : Entry) : Type 0 where
  pub owner : Well e.owner
  pub keys : All Well e.keys
  pub parameter : ParameterTexts e.parameter

-- every entry is fine
abbrev pub Fine : Registry → Type 0
Fine = All EntryFine

-- from a fine registry, where the action gives: P holds of the value, and the registry that is left is fine
pub record Keeps {A : Type 0} (P : A → Type 0) (m : Build A) : Type 0 where
  pub run : (r : Registry) → Fine r → (x : A × Registry) → m r ≡ done x → P x.0 × Fine x.1

-- one answer only, so what holds of one holds of the other
moved : {A : Type 0} (P : A → Type 0) {x y : A × Registry} → P x.0 → Fine x.1 → done x ≡ done y → P y.0 × Fine y.1
moved P p f e = rw (← done_one e) (p, f)

module _ {A : Type 0} {P : A → Type 0} where
  -- a value that is given
  pub gives : (a : A) → P a → Keeps P (give a)
  unfolding give
  gives a p = record { run = λ r h x d. moved P p h d }

  -- a refusal: nothing is to be shown
  pub refuses : (q : ℕ) → Keeps P (refuse q)
  unfolding refuse
  refuses q = record { run = λ r h x d. absurd (not_done d) }

  -- a value that is needed
  pub needs : {o : Option A} → Maybe P o → (q : ℕ) → Keeps P (need o q)
  unfolding need
  needs Maybe.none q = refuses q
  needs (Maybe.some p) q = gives _ p

-- what the registry says
pub says : {A : Type 0} (P : A → Type 0) (f : Registry → A) → ((r : Registry) → Fine r → P (f r)) → Keeps P (reads f)
unfolding reads
says P f g = record { run = λ r h x d. moved P (g r h) h d }

-- a change of the registry
pub changes : {P : Unit {0} → Type 0} (f : Registry → Registry) → ((r : Registry) → Fine r → Fine (f r)) → P tt → Keeps P (change f)
unfolding change
changes {P} f g p = record { run = λ r h x d. moved P p (g r h) d }

-- a question: behind it the test holds
pub requires : (b : Bool) (q : ℕ) → Keeps (λ _. b ≡ true) (require b q)
unfolding require
requires true q = gives tt refl
requires false q = refuses q

-- an action, and what is done with its value
pub binds : {A B : Type 0} {P : A → Type 0} {Q : B → Type 0} {m : Build A} {k : A → Build B} → Keeps P m → ((a : A) → P a → Keeps Q (k a)) → Keeps Q (m >>= k)
unfolding ◌>>=◌
binds {m} {k} h g = record {
  run = λ r f x d.
      let (y, e, i) = bound (m r) _ x d in
      let (p, f') = h.run r f y e in
      (g y.0 p).run y.1 f' x i;
}

-- what is known of the value need not be said
pub forgets : {A : Type 0} {P : A → Type 0} {m : Build A} → Keeps P m → Keeps Any m
forgets h = record { run = λ r f x d. (tt, (h.run r f x d).1) }

-- Buffers that a call can work with, from one call to the next. Assumes nothing.
use mathlib.Core.Path.{◌≡◌, ◌∙◌}
use mathlib.Core.Bool.{Bool}
use mathlib.Core.List.{List}
use Prim.Native.Nat.{ℕ, ◌^◌, ◌<◌, ◌≤◌}
use native.Mathlib.Omega.{arith}
use lib.ListN.{length}
use Rattle.lengths_program.specs.declared.State.{State}
use Rattle.lengths_program.specs.declared.Stage.TheVariants.{Set}
use Rattle.lengths_program.specs.Parts.{Room, Ready}
use Rattle.lengths_program.specs.Calls.{Given, Told}
use Rattle.lengths_program.proofs.Calls.{room_again}

-- before the set nothing is asked of the layout's buffer but its length
pub given_set : {σ : State} {input layout out : List ℕ} → σ.stage ≡ Set → σ.held ≤ length input → length input < 2 ^ 63 → length layout ≡ 65536 → Room out → Given σ input layout out
given_set e h f l r = record { held = h; few = f; long = l; ready = rw e Ready.set; room = r }

-- bytes were read
pub given_read : {σ τ : State} {input more layout out : List ℕ} → Given σ input layout out → τ.stage ≡ σ.stage → τ.held ≤ length more → length more ≡ length input → Given τ more layout out
given_read g e h l = record { held = h; few = omega (arith, g.few); long = g.long; ready = rw e g.ready; room = g.room }

-- a call was made
pub given_again : {σ τ : State} {input layout out more layout' out' s : List ℕ} {last : Bool} {f : List ℕ → List ℕ} → Given σ input layout out → Told last f s layout' more out' τ →
    length more ≡ length input → length layout' ≡ length layout → length out' ≡ length out → Given τ more layout' out'
given_again g t i l o = record { held = t.held; few = omega (arith, g.few); long = l ∙ g.long; ready = t.ready; room = room_again g.room o }

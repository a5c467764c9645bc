-- A call of `lines`: what it is given, and what it leaves.
use Rattle.std.specs.Prelude.{ℕ, ◌+◌, ◌^◌, ◌≤◌, ◌<◌, ◌≡◌, Bool, true, false, List, eqb, length, take}
use Rattle.lengths_program.specs.declared.State.{State}
use Rattle.lengths_program.specs.declared.Stage.TheVariants.{Set, Runs, Ended}
use Rattle.lengths_program.specs.Lines.{left, Prints}
use Rattle.lengths_program.specs.Parts.{Room, Ready}

-- buffers that a call can work with
pub record Given (σ : State) (input layout out : List ℕ) : Type 0 where
  pub held : σ.held ≤ length input
  pub few : length input < 2 ^ 63
  pub long : length layout ≡ 65536
  pub ready : Ready layout σ.stage
  pub room : Room out

-- Why a call prints no further line: the last was printed; more input is wanted, and there is room for it where the buffer has
-- 65,536 bytes; the output has no room for a line; or the numbers of runs are used up.
pub data Pauses (room : ℕ) (σ : State) : Type 0 where
  ended : σ.stage ≡ Ended → Pauses room σ
  input : σ.wants ≡ true → σ.last ≡ false → σ.held < 65536 → Pauses room σ
  output : σ.wants ≡ false → room < σ.wrote + 84 → Pauses room σ
  counted : {run m : ℕ} → σ.wants ≡ false → σ.stage ≡ Runs run m → 18446744073709551615 ≤ run → Pauses room σ

-- Of the lines f of s these were printed which stand in the output, and those are left which the state says.
pub record Told (last : Bool) (f : List ℕ → List ℕ) (s layout input out : List ℕ) (r : State) : Type 0 where
  pub held : r.held ≤ length input
  pub ready : Ready layout r.stage
  pub wrote : r.wrote ≤ length out
  pub same : r.last ≡ last
  pub prints : Prints last f (left r.stage layout) s (take r.held input) (take r.wrote out)
  pub pauses : Pauses (length out) r

-- before anything was read
pub record IsStart (σ : State) : Type 0 where
  pub stage : σ.stage ≡ Set
  pub held : σ.held ≡ 0
  pub last : σ.last ≡ false
  pub wants : σ.wants ≡ true

-- so many bytes were read, none where the input has ended
pub record HasRead (σ : State) (got : ℕ) (r : State) : Type 0 where
  pub stage : r.stage ≡ σ.stage
  pub held : r.held ≡ σ.held + got
  pub last : r.last ≡ eqb got 0

-- the program has ended
pub record IsEnded (last : Bool) (wrote : ℕ) (r : State) : Type 0 where
  pub stage : r.stage ≡ Ended
  pub held : r.held ≡ 0
  pub same : r.last ≡ last
  pub printed : r.wrote ≡ wrote

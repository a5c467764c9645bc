-- The program as a whole: reads and calls, one behind the other.
use Rattle.std.specs.Prelude.{ℕ, ◌≡◌, List, [], ◌++◌, take}
use Rattle.lengths_program.specs.declared.State.{State}
use Rattle.lengths_program.specs.declared.Stage.TheVariants.{Ended}
use Rattle.lengths_program.specs.Lines.{left, Ends}
use Rattle.lengths_program.specs.Calls.{Told}

-- The state σ, with so much of the input not read yet, and all bytes that are printed from here on.
pub data Program : State → (layout input rest printed : List ℕ) → Type 0 where
  -- it ends
  ends : {σ : State} {layout input rest : List ℕ} → σ.stage ≡ Ended → Program σ layout input rest []
  -- bytes are read behind those that are held, or the input ends
  reads : {σ τ : State} {layout input more rest printed : List ℕ} (bs : List ℕ) → τ.stage ≡ σ.stage → take τ.held more ≡ take σ.held input ++ bs →
      Program τ layout more rest printed → Program σ layout input (bs ++ rest) printed
  -- `lines` is called, and what it printed is written
  calls : {σ τ : State} {layout input layout' input' out rest printed : List ℕ} → Ends σ.last rest →
      Told σ.last (left σ.stage layout) (take σ.held input) layout' input' out τ →
      Program τ layout' input' rest printed → Program σ layout input rest (take τ.wrote out ++ printed)

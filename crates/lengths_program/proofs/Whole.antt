-- The program as a whole prints the definition's lines. Assumes nothing.
use mathlib.Core.Path.{◌≡◌, sym, ap, ◌∙◌}
use mathlib.Core.List.{List, ◌++◌, append_assoc}
use Prim.Native.Nat.{ℕ}
use lib.ListN.{take}
use Rattle.lengths_definition.specs.Lengths.{lengths}
use Rattle.lengths_program.specs.declared.State.{State}
use Rattle.lengths_program.specs.Lines.{left}
use Rattle.lengths_program.specs.Calls.{IsStart}
use Rattle.lengths_program.specs.Program.{Program}

-- from any state on, what is printed are the lines that are left
rest_printed : {σ : State} {layout input rest printed : List ℕ} → Program σ layout input rest printed → printed ≡ left σ.stage layout (take σ.held input ++ rest)
rest_printed (Program.ends e) = rw e
rest_printed {σ} {layout} {input} (Program.reads {rest = rest} bs es eh p) = rest_printed p ∙ rw (es, eh, append_assoc (take σ.held input) bs rest)
rest_printed (Program.calls {τ = τ} {out = out} {rest = rest} ends t p) = ap (λ (z : List ℕ). take τ.wrote out ++ z) (rest_printed p) ∙ sym (t.prints.is rest ends)

-- However the input s is read, in whatever parts, and however often `lines` is called: all that is printed are the lines of s.
pub whole : {σ : State} {layout input s printed : List ℕ} → IsStart σ → Program σ layout input s printed → printed ≡ lengths s
whole i p = rest_printed p ∙ rw (i.stage, i.held)

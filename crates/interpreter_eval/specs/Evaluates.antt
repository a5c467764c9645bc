-- What evaluating a node asks for, and what it answers: the definition's outcome, in every context that the words hold.
use Rattle.std.specs.Prelude.{ℕ, ◌-◌, ◌≤◌, ◌≡◌, List, length, Result}
use Rattle.errors.specs.Refusal.{done}
use Rattle.errors.specs.declared.Refusal.{Refusal}
use Rattle.errors.specs.Meaning.{outcome_of}
use Rattle.value.specs.declared.Value.{Value}
use Rattle.blocks.specs.Tree.{Tree}
use Rattle.blocks.specs.Read.{read_layout}
use Rattle.ir.specs.Layout.{node_of, layout_of}
use Rattle.accepted.specs.Accepted.{Accepted, tree}
use Rattle.interpreter.specs.Eval.{ParamMap, eval_within}
use Rattle.interpreter_context.specs.Context.{Here}
use Rattle.interpreter_leaves.specs.declared.Inputs.{Inputs}
use Rattle.interpreter_leaves.specs.Steps.{ContextOver}
use Rattle.interpreter_leaves.specs.declared.Frame.{Frame}

-- a layout that was read and values, the words with the calls that are open, and a node at an offset of the layout, in the tree of the type at
-- the frame's place; at most 16 calls are open, each with a word
pub record Ready (i : Inputs) (words : List ℕ) (f : Frame) (at : ℕ) : Type 0 where
  pub node : Accepted i.layout.now 128 144 at
  pub layout : (t : Tree) × (read_layout i.layout.now ≡ done t)
  pub context : (γ : ParamMap) × ContextOver i words f.depth γ
  pub here : Here i.layout.now words f.depth f.place
  pub calls : f.depth ≤ 16
  pub room : 16 ≤ length words
  pub small : length i.layout.now ≤ 65536

-- what the node at an offset comes to; of 16 calls those may open that are not open
abbrev pub Evaluates : (i : Inputs) (words : List ℕ) → Frame → ℕ → Result Value Refusal → Type 0
Evaluates i words f at r =
    (γ : ParamMap) → ContextOver i words f.depth γ → (t : Tree) → read_layout i.layout.now ≡ done t → (a : Accepted i.layout.now 128 144 at) →
    outcome_of r ≡ eval_within (16 - f.depth) (layout_of t) f.place γ (node_of (tree a))

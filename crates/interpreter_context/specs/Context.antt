-- The context of an open call, in working words: a word for each open call holds the offsets of the call's node and of
-- the called type's tree in the layout. Values stay where they were read; what is remembered of them stands behind these words.
use Rattle.std.specs.Prelude.{ℕ, suc, ◌+◌, ◌/◌, ◌%◌, ◌<◌, ◌≡◌, List, [], ◌++◌, length, get_or}
use Rattle.errors.specs.Refusal.{done}
use Rattle.blocks.specs.Bytes.{le2}
use Rattle.blocks.specs.Tree.{Tree, body, part, listed}
use Rattle.ir.specs.Ir.{IrArgument, IrParameter}
use Rattle.ir.specs.Layout.{argument_of, parameter_of}
use Rattle.accepted.specs.Accepted.{Accepted, tree}
use Rattle.lookup.specs.Named.{Placed}
use Rattle.interpreter_values.specs.Remembered.{Remembered}
use Rattle.interpreter.specs.Eval.{ParamMap, collect_arguments, inherited}
use Rattle.interpreter.specs.Validate.{with_buffer_size, values_of}

abbrev pub call_at : ℕ → ℕ
call_at w = w % 4294967296

abbrev pub tree_at : ℕ → ℕ
tree_at w = w / 4294967296

abbrev pub arguments_of : Tree → List IrArgument
arguments_of t = listed argument_of (part 3 (body t))

abbrev pub parameters_of : Tree → List IrParameter
parameters_of t = listed parameter_of (part 3 (body t))

-- a call node and the tree of the called type
pub record Pair (s : List ℕ) (at callee : ℕ) : Type 0 where
  pub call : Accepted s 128 144 at
  pub kind : le2 s (at + 4) ≡ 133
  pub type : Accepted s 161 161 callee

-- the word w holds a call whose arguments were found in the context γ, and whose type has the context δ
pub record Open (s : List ℕ) (w : ℕ) (γ δ : ParamMap) : Type 0 where
  pub pair : Pair s (call_at w) (tree_at w)
  pub place : ℕ
  pub arguments : ParamMap
  pub collected : collect_arguments place γ (arguments_of (tree pair.call)) [] ≡ done arguments
  pub is : δ ≡ arguments ++ inherited γ (parameters_of (tree pair.type))

-- the context with so many calls open; at the root, the values of a block 192, with what the words remember of them, and the buffer length
pub data Context (s values : List ℕ) (block len : ℕ) (words : List ℕ) : ℕ → ParamMap → Type 0 where
  root : (a : Accepted values 192 192 block) → Remembered values block words → Context s values block len words 0 (with_buffer_size len (values_of (tree a)))
  call : {d : ℕ} {γ δ : ParamMap} → Context s values block len words d γ → d < length words → Open s (get_or words d 0) γ δ → Context s values block len words (suc d) δ

-- the type that the innermost open call calls stands at this place of the layout
abbrev pub Here : List ℕ → List ℕ → ℕ → ℕ → Type 0
Here s words depth place = (d : ℕ) → depth ≡ suc d → (d < length words) × Placed s place (tree_at (get_or words d 0))

-- What a builder of a node leaves.
use Rattle.std.specs.Prelude.{ℕ, ◌+◌, ◌≤◌, ◌≡◌, Bool, cond, ◌||◌, List, [], ◌++◌, eqb, Result}
use Rattle.errors.specs.Refusal.{Outcome}
use Rattle.errors.specs.declared.Reason.{Reason}
use Rattle.answers.specs.Answers.{Answers}
use Rattle.blocks.specs.declared.Part.{Part}
use Rattle.blocks.specs.declared.Part.TheVariants.{Number, OptText, OptBlock, Blocks}
use Rattle.blocks.specs.Tree.{num}
use Rattle.blocks.specs.Write.{write}
use Rattle.ir.specs.Ir.{IrNode}
use Rattle.ir.specs.Layout.{node_tree}
use Rattle.ir_nodes.specs.Codes.{code_of}
use Rattle.builder.specs.Registry.{Registry}
use Rattle.wire.specs.Poke.{Wrote, opened}
use Rattle.builder_registry.specs.Words.{entries_of, Indexed}
use Rattle.builder_nodes.specs.declared.Built.{Built}

-- a node that was made: its bytes in the output ys, up to the next cursor, and the entries in the words us with their index
pub record BuiltIn (s xs : List ℕ) (at : ℕ) (us ys : List ℕ) (r : Built) (x : IrNode × Registry) : Type 0 where
  pub entries : entries_of s us r.count ≡ x.1
  pub index : Indexed s us r.count
  pub wrote : Wrote xs at (write (node_tree x.0)) ys r.at

-- that, or the refusal, of which nothing is said but its reason
abbrev pub Builds : (s xs : List ℕ) (at : ℕ) (us ys : List ℕ) → Result Built Reason → Outcome (IrNode × Registry) → Type 0
Builds s xs at us ys = Answers (BuiltIn s xs at us ys)

-- where something was built: the cursor moved by at most `room`, and the registry has at most 512 entries
pub record Within (at room : ℕ) (r : Built) : Type 0 where
  pub low : at ≤ r.at
  pub high : r.at ≤ at + room
  pub count : r.count ≤ 512

-- the parts of nodes that hold blocks
abbrev pub cases : Part
cases = Blocks 163 163 64

abbrev pub arguments : Part
arguments = Blocks 164 164 512

abbrev pub optional_node : Part
optional_node = OptBlock 128 144

-- a node of a kind, as far as its metadata: this alignment, no size text
unfoldable pub node_start : ℕ → ℕ → List ℕ
node_start k a = opened k ++ (write (num 8 a) ++ write (num 1 0))

-- How a part of a node is written before what it holds, by its code in the table of the node kinds. Nothing where the part is
-- another.

-- a number: in 8 bytes
unfoldable pub number_part : ℕ → ℕ → List ℕ
number_part code v = cond (eqb code (code_of Number)) (write (num 8 v)) []

-- a text: where it is optional, the flag, 1 before a text, 0 where there is none
unfoldable pub text_flag : Bool → ℕ → List ℕ
text_flag there code = cond (eqb code (code_of OptText)) (write (num 1 (cond there 1 0))) []

-- a list of cases or of arguments: its count, in 2 bytes
unfoldable pub count_part : ℕ → ℕ → List ℕ
count_part code n = cond (eqb code (code_of cases) || eqb code (code_of arguments)) (write (num 2 n)) []

-- an optional node that is not there: the flag 0
unfoldable pub no_node : ℕ → List ℕ
no_node code = cond (eqb code (code_of optional_node)) (write (num 1 0)) []

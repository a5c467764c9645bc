-- What a switch selects, what a call's arguments come to, where a type's root stands, and a node without what changes nothing.
use Rattle.std.specs.Prelude.{ℕ, ◌+◌, ◌≤◌, ◌<◌, ◌≡◌, cond, List, [], leb, eqb, length}
use Rattle.std.specs.Prelude.{Option, Result, MatchOption, MatchResult}
use Rattle.std.proofs.Math.Option.{Option as Maybe, some, none}
use Rattle.errors.specs.Refusal.{done, refused}
use Rattle.errors.specs.declared.Refusal.{Refusal}
use Rattle.errors.specs.Meaning.{refusal_of}
use Rattle.blocks.specs.Bytes.{le2, le4}
use Rattle.blocks.specs.Tree.{Tree, first, rest, body, part, number, text, optional, view}
use Rattle.ir.specs.Ir.{IrArgument, IrNode, SwitchCases, DefaultNode}
use Rattle.ir.specs.Layout.{node_of, type_ir_of, cases_in, thing_of}
use Rattle.accepted.specs.Accepted.{Accepted, tree, name_at}
use Rattle.interpreter.specs.Eval.{ParamMap, chosen, collect_arguments}
use Rattle.interpreter_context.specs.Context.{Context}
use Rattle.interpreter_leaves.specs.declared.Inputs.{Inputs}

-- the context with so many calls open, over a layout and values
abbrev pub ContextOver : Inputs → List ℕ → ℕ → ParamMap → Type 0
ContextOver i words depth γ = Context i.layout.now i.values.now i.root.block i.root.len words depth γ

-- the root of a type tree
pub record Rooted {s : List ℕ} {at : ℕ} (t : Accepted s 161 161 at) (r : ℕ) : Type 0 where
  pub root : Accepted s 128 144 r
  pub is : (type_ir_of (tree t)).root ≡ node_of (tree root)

-- the name that a FieldRef node looks for stands at q
pub record FieldName (s : List ℕ) (at q : ℕ) : Type 0 where
  pub inside : q + 2 + le2 s q ≤ length s
  pub is : (a : Accepted s 128 144 at) → chosen (text (part 2 (body (tree a)))) (optional text (part 3 (body (tree a)))) ≡ name_at s q

-- the node of the first case of a value, or else the default
unfoldable pub pick : ℕ → SwitchCases → DefaultNode → Maybe IrNode
pick v SwitchCases.no_case DefaultNode.no_default = none
pick v SwitchCases.no_case (DefaultNode.or_else n) = some n
pick v (SwitchCases.case t n ps cs) d = cond (eqb t v) (some n) (pick v cs d)

-- the cases and the default in the parts of a Switch node
abbrev pub cases_of : Tree → SwitchCases
cases_of t = cases_in (view thing_of (rest (part 3 t)))

abbrev pub default_of : Tree → DefaultNode
default_of t = cond (eqb (number (first (part 4 t))) 1) (DefaultNode.or_else (node_of (rest (part 4 t)))) DefaultNode.no_default

-- the node at q is the one that is picked; it is inside the switch, and so it is shorter
pub record PickedAt {s : List ℕ} {at : ℕ} (a : Accepted s 128 144 at) (v q : ℕ) : Type 0 where
  pub node : Accepted s 128 144 q
  pub short : le4 s q < le4 s at
  pub is : pick v (cases_of (body (tree a))) (default_of (body (tree a))) ≡ some (node_of (tree node))

-- the node that is picked, or that none is
abbrev pub Picked : {s : List ℕ} {at : ℕ} → Accepted s 128 144 at → ℕ → Option ℕ → Type 0
Picked a v r = MatchOption r (pick v (cases_of (body (tree a))) (default_of (body (tree a))) ≡ none) (PickedAt a v)

-- the arguments of a call, or the refusal at the first whose value the context lacks
abbrev pub Bound : ℕ → ParamMap → List IrArgument → Result Unit Refusal → Type 0
Bound p γ xs r =
    MatchResult r (λ _. (δ : ParamMap) × (collect_arguments p γ xs [] ≡ done δ)) (λ e. collect_arguments p γ xs [] ≡ refused (refusal_of e))

-- a node without the AlignUp nodes around it whose alignment is 0 or 1
unfoldable pub unwrap : IrNode → IrNode
unwrap (IrNode.ZeroSize a m) = IrNode.ZeroSize a m
unwrap (IrNode.Const a m v) = IrNode.Const a m v
unwrap (IrNode.FieldRef a m path parameter) = IrNode.FieldRef a m path parameter
unwrap (IrNode.AlignUp a m alignment n) = cond (leb alignment 1) (unwrap n) (IrNode.AlignUp a m alignment n)
unwrap (IrNode.Switch a m tag cases d) = IrNode.Switch a m tag cases d
unwrap (IrNode.CallNested a m type xs) = IrNode.CallNested a m type xs
unwrap (IrNode.Binary a m op l r) = IrNode.Binary a m op l r
unwrap (IrNode.SumOverArray a m c type field) = IrNode.SumOverArray a m c type field

-- the node at r is that; its block is no longer than the other's
pub record Unwrapped {s : List ℕ} {at : ℕ} (a : Accepted s 128 144 at) (r : ℕ) : Type 0 where
  pub node : Accepted s 128 144 r
  pub short : le4 s r ≤ le4 s at
  pub is : node_of (tree node) ≡ unwrap (node_of (tree a))

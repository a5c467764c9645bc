-- The tree of a layout has the grammar's shape.
use Prim.Native.Nat.{suc, ◌+◌, ◌<◌}
use mathlib.Core.Path.{◌≡◌, refl}
use mathlib.Core.List.{List, [], ◌∷◌}
use mathlib.Core.Option.{Option, some, none}
use mathlib.Core.Bool.{Bool, true, false}
use native.Mathlib.Omega.{arith}
use lib.ListN.{length}
use Rattle.blocks.specs.Name.{Name}
use Rattle.blocks.specs.Grammar.{grammar, node_table, find_row, parts_of}
use Rattle.blocks.specs.Tree.{Tree, name, num, cons}
use Rattle.roundtrip.specs.Shape.{Form, Shaped, BlockShaped, form_of, forms_of, times}
use Rattle.ir.specs.Ir.{NodeMetadata, IrParameter, IrArgument, BinaryOp, IrNode, SwitchCases, DefaultNode, TypeIr}
use Rattle.ir.specs.Layout.{flag_tree, optional_tree, entries_tree, parameter_tree, argument_tree, op_kind, node_tree, cases_tree, default_tree, case_count, type_ir_tree, layout_tree, operations, Form as Kind, form_of as kind_of}

-- ---- parts

-- an optional text
text_shaped : (x : Option Name) → Shaped (Form.optional Form.text 1) (optional_tree name x)
text_shaped (some n) = Shaped.optional {v = 1} (omega arith) Shaped.text
text_shaped none = Shaped.optional {v = 0} (omega arith) Shaped.nothing

-- a flag
flag_shaped : (b : Bool) → Shaped (Form.number 1) (flag_tree b)
flag_shaped true = Shaped.number
flag_shaped false = Shaped.number

-- a list of blocks, if each is shaped
entries_shaped : {A : Type 0} (f : A → Tree) → ((a : A) → BlockShaped (f a)) → (xs : List A) → Shaped (times (length xs) Form.block) (entries_tree f xs)
unfolding times entries_tree
entries_shaped f h [] = Shaped.nothing
entries_shaped f h (x ∷ xs) = Shaped.both (h x) (entries_shaped f h xs)

-- a parameter
parameter_shaped : (p : IrParameter) → BlockShaped (parameter_tree p)
unfolding form_of forms_of parts_of find_row grammar
parameter_shaped p = Shaped.block {k = 162} (omega arith) (Shaped.both Shaped.text (Shaped.both (text_shaped p.description) (Shaped.both (flag_shaped p.derived) Shaped.nothing)))

-- a list of parameters, with which a case and a type tree end
parameters_shaped : (ps : List IrParameter) → Shaped (Form.both (Form.list Form.block) Form.nothing) (cons (cons (num 2 (length ps)) (entries_tree parameter_tree ps)) Tree.nil)
parameters_shaped ps = Shaped.both (Shaped.list (entries_shaped parameter_tree parameter_shaped ps)) Shaped.nothing

-- an argument
argument_shaped : (x : IrArgument) → BlockShaped (argument_tree x)
unfolding form_of forms_of parts_of find_row grammar
argument_shaped x = Shaped.block {k = 164} (omega arith) (Shaped.both Shaped.text (Shaped.both Shaped.text Shaped.nothing))

-- ---- nodes

-- the metadata, then the other parts
meta_shaped : (m : NodeMetadata) {f : Form} {t : Tree} → Shaped f t
    → Shaped (Form.both (Form.number 8) (Form.both (Form.optional Form.text 1) f)) (cons (num 8 m.alignment) (cons (optional_tree name m.size_expr) t))
meta_shaped m p = Shaped.both Shaped.number (Shaped.both (text_shaped m.size_expr) p)

-- the metadata, then two operands
abbrev two : Form
two = Form.both (Form.number 8) (Form.both (Form.optional Form.text 1) (Form.both Form.block (Form.both Form.block Form.nothing)))

-- the ten kinds of two operands: each is a number of 2 bytes, has these parts, and is read as its operation
pub operation : (o : BinaryOp) → (op_kind o < 65536) × (two ≡ forms_of (parts_of (op_kind o))) × (kind_of (op_kind o) ≡ Kind.binary o)
unfolding form_of forms_of parts_of node_table kind_of operations
operation BinaryOp.AddChecked = (omega arith, refl, refl)
operation BinaryOp.SubChecked = (omega arith, refl, refl)
operation BinaryOp.MulChecked = (omega arith, refl, refl)
operation BinaryOp.DivChecked = (omega arith, refl, refl)
operation BinaryOp.ModChecked = (omega arith, refl, refl)
operation BinaryOp.BitAnd = (omega arith, refl, refl)
operation BinaryOp.BitOr = (omega arith, refl, refl)
operation BinaryOp.BitXor = (omega arith, refl, refl)
operation BinaryOp.LeftShift = (omega arith, refl, refl)
operation BinaryOp.RightShift = (omega arith, refl, refl)

mutual
  unfolding form_of forms_of parts_of find_row grammar node_table times node_tree

  -- a node
  node_shaped : (n : IrNode) → BlockShaped (node_tree n)
  node_shaped (IrNode.ZeroSize at m) = Shaped.block {k = 128} (omega arith) (meta_shaped m Shaped.nothing)
  node_shaped (IrNode.Const at m v) = Shaped.block {k = 129} (omega arith) (meta_shaped m (Shaped.both Shaped.number Shaped.nothing))
  node_shaped (IrNode.FieldRef at m p x) = Shaped.block {k = 130} (omega arith) (meta_shaped m (Shaped.both Shaped.text (Shaped.both (text_shaped x) Shaped.nothing)))
  node_shaped (IrNode.AlignUp at m a n) = Shaped.block {k = 131} (omega arith) (meta_shaped m (Shaped.both Shaped.number (Shaped.both (node_shaped n) Shaped.nothing)))
  node_shaped (IrNode.Switch at m t cs d) =
      Shaped.block {k = 132} (omega arith) (meta_shaped m (Shaped.both Shaped.text (Shaped.both (Shaped.list (cases_shaped cs)) (Shaped.both (default_shaped d) Shaped.nothing))))
  node_shaped (IrNode.CallNested at m t xs) =
      Shaped.block {k = 133} (omega arith) (meta_shaped m (Shaped.both Shaped.text (Shaped.both (Shaped.list (entries_shaped argument_tree argument_shaped xs)) Shaped.nothing)))
  node_shaped (IrNode.Binary at m o l r) = Shaped.block (operation o).0 (rw (operation o).1 at (meta_shaped m (Shaped.both (node_shaped l) (Shaped.both (node_shaped r) Shaped.nothing))))
  node_shaped (IrNode.SumOverArray at m c t f) = Shaped.block {k = 144} (omega arith) (meta_shaped m (Shaped.both (node_shaped c) (Shaped.both Shaped.text (Shaped.both Shaped.text Shaped.nothing))))

  -- the cases of a switch
  cases_shaped : (cs : SwitchCases) → Shaped (times (case_count cs) Form.block) (cases_tree cs)
  cases_shaped SwitchCases.no_case = Shaped.nothing
  cases_shaped (SwitchCases.case v n ps cs) =
      let e : 1 + case_count cs ≡ suc (case_count cs) = omega arith in
      rw e (Shaped.both (Shaped.block {k = 163} (omega arith) (Shaped.both Shaped.number (Shaped.both (node_shaped n) (parameters_shaped ps)))) (cases_shaped cs))

  -- its default node
  default_shaped : (d : DefaultNode) → Shaped (Form.optional Form.block 1) (default_tree d)
  default_shaped DefaultNode.no_default = Shaped.optional {v = 0} (omega arith) Shaped.nothing
  default_shaped (DefaultNode.or_else n) = Shaped.optional {v = 1} (omega arith) (node_shaped n)

-- ---- layouts

-- a type tree
type_shaped : (t : TypeIr) → BlockShaped (type_ir_tree t)
unfolding form_of forms_of parts_of find_row grammar
type_shaped t =
    Shaped.block {k = 161} (omega arith) (Shaped.both Shaped.text (Shaped.both Shaped.number (Shaped.both (node_shaped t.root) (parameters_shaped t.parameters))))

-- a layout has the grammar's shape: so what is read of its writing is the layout itself
pub shaped : (ts : List TypeIr) → BlockShaped (layout_tree ts)
unfolding form_of forms_of parts_of find_row grammar layout_tree
shaped ts = Shaped.block {k = 160} (omega arith) (Shaped.both (Shaped.list (entries_shaped type_ir_tree type_shaped ts)) Shaped.nothing)

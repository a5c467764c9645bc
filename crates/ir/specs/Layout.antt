-- From the tree of a layout (kinds 128 to 144, 160 to 164) to its type trees, and back.
use Rattle.std.specs.Prelude.{ℕ, ◌+◌, ◌-◌, Bool, true, false, cond, List, [], ◌∷◌, eqb, length, get_or}
use Rattle.std.proofs.Math.Option.{Option, some, none}
use Rattle.blocks.specs.Grammar.{within}
use Rattle.blocks.specs.Tree.{Tree, name, num, block, nil, cons, View, other, item, pair, first, body, kind, offset, number, text, part, flag, optional, listed, view, rest_view, item_or, part_or, part_view}
use Rattle.ir.specs.Ir.{NodeMetadata, IrParameter, IrArgument, BinaryOp, IrNode, SwitchCases, DefaultNode, TypeIr, aligned, unplaced}

-- ---- reading

-- "Each begins with its metadata: alignment, flag with size text or without."
abbrev pub meta_of : Tree → NodeMetadata
meta_of t = record { alignment = number (part 0 t); size_expr = optional text (part 1 t) }

abbrev pub parameter_of : Tree → IrParameter
parameter_of t = record { name = text (part 0 (body t)); description = optional text (part 1 (body t)); derived = flag (part 2 (body t)) }

abbrev pub argument_of : Tree → IrArgument
argument_of t = record { at = offset t; name = text (part 0 (body t)); value = text (part 1 (body t)) }

-- what a block of a layout stands for: a node (128 to 144), a case (163)
pub data Thing : Type 0 where
  node : IrNode → Thing
  case : ℕ → IrNode → List IrParameter → Thing
  nothing : Thing

abbrev pub no_node : IrNode
no_node = IrNode.ZeroSize unplaced (aligned 0)

abbrev pub as_node : Thing → IrNode
as_node (Thing.node n) = n
as_node (Thing.case v n ps) = no_node
as_node Thing.nothing = no_node

abbrev pub with_case : Thing → SwitchCases → SwitchCases
with_case (Thing.node n) cs = cs
with_case (Thing.case v n ps) cs = SwitchCases.case v n ps cs
with_case Thing.nothing cs = cs

unfoldable pub cases_in : View Thing → SwitchCases
cases_in other = SwitchCases.no_case
cases_in (item a) = SwitchCases.no_case
cases_in (pair a b) = with_case (item_or Thing.nothing a) (cases_in b)

-- the node in the part with this number
abbrev pub node_in : ℕ → View Thing → IrNode
node_in i v = as_node (part_or Thing.nothing i v)

abbrev pub default_in : Tree → View Thing → DefaultNode
default_in t v = cond (flag (first t)) (DefaultNode.or_else (as_node (item_or Thing.nothing (rest_view v)))) DefaultNode.no_default

unfoldable pub operations : List BinaryOp
operations =
    BinaryOp.AddChecked ∷ BinaryOp.SubChecked ∷ BinaryOp.MulChecked ∷ BinaryOp.DivChecked ∷ BinaryOp.ModChecked ∷
    BinaryOp.BitAnd ∷ BinaryOp.BitOr ∷ BinaryOp.BitXor ∷ BinaryOp.LeftShift ∷ BinaryOp.RightShift ∷ []

-- "Nodes: 128 plus the place in `IrNode` (ZeroSize 128 to SumOverArray 144)."
pub data Form : Type 0 where
  zero_size const field_ref align_up switch call_nested sum_over_array case unknown : Form
  binary : BinaryOp → Form

unfoldable pub form_of : ℕ → Form
form_of k =
    cond (eqb k 128) Form.zero_size
    (cond (eqb k 129) Form.const
    (cond (eqb k 130) Form.field_ref
    (cond (eqb k 131) Form.align_up
    (cond (eqb k 132) Form.switch
    (cond (eqb k 133) Form.call_nested
    (cond (within 134 143 k) (Form.binary (get_or operations (k - 134) BinaryOp.AddChecked))
    (cond (eqb k 144) Form.sum_over_array
    (cond (eqb k 163) Form.case
    Form.unknown))))))))

-- at: the block's offset; t: its parts; v: what the blocks among them stand for
unfoldable pub make_thing : Form → ℕ → Tree → View Thing → Thing
make_thing Form.zero_size at t v = Thing.node (IrNode.ZeroSize at (meta_of t))
make_thing Form.const at t v = Thing.node (IrNode.Const at (meta_of t) (number (part 2 t)))
make_thing Form.field_ref at t v = Thing.node (IrNode.FieldRef at (meta_of t) (text (part 2 t)) (optional text (part 3 t)))
make_thing Form.align_up at t v = Thing.node (IrNode.AlignUp at (meta_of t) (number (part 2 t)) (node_in 3 v))
make_thing Form.switch at t v = Thing.node (IrNode.Switch at (meta_of t) (text (part 2 t)) (cases_in (rest_view (part_view 3 v))) (default_in (part 4 t) (part_view 4 v)))
make_thing Form.call_nested at t v = Thing.node (IrNode.CallNested at (meta_of t) (text (part 2 t)) (listed argument_of (part 3 t)))
make_thing (Form.binary o) at t v = Thing.node (IrNode.Binary at (meta_of t) o (node_in 2 v) (node_in 3 v))
make_thing Form.sum_over_array at t v = Thing.node (IrNode.SumOverArray at (meta_of t) (node_in 2 v) (text (part 3 t)) (text (part 4 t)))
make_thing Form.case at t v = Thing.case (number (part 0 t)) (node_in 1 v) (listed parameter_of (part 2 t))
make_thing Form.unknown at t v = Thing.nothing

unfoldable pub thing_of : Tree → View Thing → Thing
thing_of b v = make_thing (form_of (kind b)) (offset b) (body b) v

-- the node of a block 128 to 144
unfoldable pub node_of : Tree → IrNode
node_of t = as_node (item_or Thing.nothing (view thing_of t))

abbrev pub type_ir_of : Tree → TypeIr
type_ir_of t = record {
  type_name = text (part 0 (body t));
  alignment = number (part 1 (body t));
  root = node_of (part 2 (body t));
  parameters = listed parameter_of (part 3 (body t));
}

-- "160 layout: count, 161 type trees"
unfoldable pub layout_of : Tree → List TypeIr
layout_of t = listed type_ir_of (part 0 (body t))

-- ---- writing

abbrev pub flag_tree : Bool → Tree
flag_tree true = num 1 1
flag_tree false = num 1 0

abbrev pub optional_tree : {A : Type 0} → (A → Tree) → Option A → Tree
optional_tree f (some a) = cons (num 1 1) (f a)
optional_tree f none = cons (num 1 0) nil

unfoldable pub entries_tree : {A : Type 0} → (A → Tree) → List A → Tree
entries_tree f [] = nil
entries_tree f (a ∷ as') = cons (f a) (entries_tree f as')

abbrev pub list_tree : {A : Type 0} → (A → Tree) → List A → Tree
list_tree f as' = cons (num 2 (length as')) (entries_tree f as')

abbrev pub parameter_tree : IrParameter → Tree
parameter_tree p = block unplaced 162 (cons (name p.name) (cons (optional_tree name p.description) (cons (flag_tree p.derived) nil)))

abbrev pub argument_tree : IrArgument → Tree
argument_tree a = block unplaced 164 (cons (name a.name) (cons (name a.value) nil))

abbrev pub op_kind : BinaryOp → ℕ
op_kind BinaryOp.AddChecked = 134
op_kind BinaryOp.SubChecked = 135
op_kind BinaryOp.MulChecked = 136
op_kind BinaryOp.DivChecked = 137
op_kind BinaryOp.ModChecked = 138
op_kind BinaryOp.BitAnd = 139
op_kind BinaryOp.BitOr = 140
op_kind BinaryOp.BitXor = 141
op_kind BinaryOp.LeftShift = 142
op_kind BinaryOp.RightShift = 143

-- a node of a kind: its metadata, then its other parts
abbrev pub node_block : ℕ → NodeMetadata → Tree → Tree
node_block k m t = block unplaced k (cons (num 8 m.alignment) (cons (optional_tree name m.size_expr) t))

unfoldable mutual
  pub node_tree : IrNode → Tree
  node_tree (IrNode.ZeroSize at m) = node_block 128 m nil
  node_tree (IrNode.Const at m v) = node_block 129 m (cons (num 8 v) nil)
  node_tree (IrNode.FieldRef at m p x) = node_block 130 m (cons (name p) (cons (optional_tree name x) nil))
  node_tree (IrNode.AlignUp at m a n) = node_block 131 m (cons (num 8 a) (cons (node_tree n) nil))
  node_tree (IrNode.Switch at m t cs d) = node_block 132 m (cons (name t) (cons (cons (num 2 (case_count cs)) (cases_tree cs)) (cons (default_tree d) nil)))
  node_tree (IrNode.CallNested at m t xs) = node_block 133 m (cons (name t) (cons (list_tree argument_tree xs) nil))
  node_tree (IrNode.Binary at m o l r) = node_block (op_kind o) m (cons (node_tree l) (cons (node_tree r) nil))
  node_tree (IrNode.SumOverArray at m c t f) = node_block 144 m (cons (node_tree c) (cons (name t) (cons (name f) nil)))

  pub cases_tree : SwitchCases → Tree
  cases_tree SwitchCases.no_case = nil
  cases_tree (SwitchCases.case v n ps cs) = cons (block unplaced 163 (cons (num 8 v) (cons (node_tree n) (cons (list_tree parameter_tree ps) nil)))) (cases_tree cs)

  pub default_tree : DefaultNode → Tree
  default_tree DefaultNode.no_default = cons (num 1 0) nil
  default_tree (DefaultNode.or_else n) = cons (num 1 1) (node_tree n)

  pub case_count : SwitchCases → ℕ
  case_count SwitchCases.no_case = 0
  case_count (SwitchCases.case v n ps cs) = 1 + case_count cs

abbrev pub type_ir_tree : TypeIr → Tree
type_ir_tree t =
    block unplaced 161 (cons (name t.type_name) (cons (num 8 t.alignment) (cons (node_tree t.root) (cons (list_tree parameter_tree t.parameters) nil))))

unfoldable pub layout_tree : List TypeIr → Tree
layout_tree ts = block unplaced 160 (cons (list_tree type_ir_tree ts) nil)

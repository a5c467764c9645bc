-- What is read back from the tree of a layout: the same types, each block with an offset, each number modulo what its
-- 8 bytes hold.
use Prim.Native.Nat.{ℕ, ◌%◌, ◌^◌, ◌≤◌}
use mathlib.Core.Path.{◌≡◌, refl, ap₂}
use mathlib.Core.Bool.{Bool, true, false}
use mathlib.Core.List.{List, [], ◌∷◌}
use mathlib.Core.Option.{Option, some, none}
use lib.ListN.{length}
use Rattle.errors.specs.Refusal.{done}
use Rattle.blocks.specs.Name.{Name}
use Rattle.blocks.specs.Tree.{Tree, name, text, part, flag, optional, entries, view, part_or, part_view}
use Rattle.blocks.specs.Read.{read_layout}
use Rattle.blocks.specs.Write.{write}
use Rattle.roundtrip.specs.Placed.{placed}
use Rattle.roundtrip.specs.Shape.{cut}
use Rattle.roundtrip.proofs.Unique.{unique}
use Rattle.ir.specs.Ir.{NodeMetadata, IrParameter, IrArgument, BinaryOp, IrNode, SwitchCases, DefaultNode, TypeIr}
use Rattle.ir.specs.Layout.{parameter_of, argument_of, cases_in, default_in, form_of, make_thing, thing_of, node_of, type_ir_of, layout_of, flag_tree, optional_tree, entries_tree, parameter_tree, argument_tree, node_tree, cases_tree, default_tree, type_ir_tree, layout_tree}
use Rattle.compat.specs.Nodes.{SameArguments}
use Rattle.compat.proofs.Shapes.{operation, shaped}

-- ---- what is read, against what was written

-- what 8 bytes hold of a number
abbrev pub held : ℕ → ℕ
held v = v % 256 ^ 8

-- what is read of metadata
abbrev pub held_meta : NodeMetadata → NodeMetadata
held_meta m = record { alignment = held m.alignment; size_expr = m.size_expr }

mutual
  -- a node that was written, and what is read of it
  pub data NodeReread : IrNode → IrNode → Type 0 where
    ZeroSize : (a b : ℕ) (m : NodeMetadata) → NodeReread (IrNode.ZeroSize a m) (IrNode.ZeroSize b (held_meta m))
    Const : (a b : ℕ) (m : NodeMetadata) (v : ℕ) → NodeReread (IrNode.Const a m v) (IrNode.Const b (held_meta m) (held v))
    FieldRef : (a b : ℕ) (m : NodeMetadata) (p : Name) (x : Option Name) → NodeReread (IrNode.FieldRef a m p x) (IrNode.FieldRef b (held_meta m) p x)
    AlignUp : {n n' : IrNode} (a b : ℕ) (m : NodeMetadata) (v : ℕ) → NodeReread n n' → NodeReread (IrNode.AlignUp a m v n) (IrNode.AlignUp b (held_meta m) (held v) n')
    Switch : {cs cs' : SwitchCases} {d d' : DefaultNode} (a b : ℕ) (m : NodeMetadata) (t : Name) → CasesReread cs cs' → DefaultReread d d'
        → NodeReread (IrNode.Switch a m t cs d) (IrNode.Switch b (held_meta m) t cs' d')
    CallNested : {xs ys : List IrArgument} (a b : ℕ) (m : NodeMetadata) (n : Name) → SameArguments xs ys → NodeReread (IrNode.CallNested a m n xs) (IrNode.CallNested b (held_meta m) n ys)
    Binary : {l l' r r' : IrNode} (a b : ℕ) (m : NodeMetadata) (o : BinaryOp) → NodeReread l l' → NodeReread r r' → NodeReread (IrNode.Binary a m o l r) (IrNode.Binary b (held_meta m) o l' r')
    SumOverArray : {c c' : IrNode} (a b : ℕ) (m : NodeMetadata) (t f : Name) → NodeReread c c' → NodeReread (IrNode.SumOverArray a m c t f) (IrNode.SumOverArray b (held_meta m) c' t f)

  -- the same of cases
  pub data CasesReread : SwitchCases → SwitchCases → Type 0 where
    no_case : CasesReread SwitchCases.no_case SwitchCases.no_case
    case : {n n' : IrNode} {cs cs' : SwitchCases} (v : ℕ) (ps : List IrParameter) → NodeReread n n' → CasesReread cs cs'
        → CasesReread (SwitchCases.case v n ps cs) (SwitchCases.case (held v) n' ps cs')

  -- and of a default node
  pub data DefaultReread : DefaultNode → DefaultNode → Type 0 where
    no_default : DefaultReread DefaultNode.no_default DefaultNode.no_default
    or_else : {n n' : IrNode} → NodeReread n n' → DefaultReread (DefaultNode.or_else n) (DefaultNode.or_else n')

-- a type tree that was written, and what is read of it
pub record TypeReread (t u : TypeIr) : Type 0 where
  pub named : u.type_name ≡ t.type_name
  pub alignment : u.alignment ≡ held t.alignment
  pub root : NodeReread t.root u.root
  pub parameters : u.parameters ≡ t.parameters

-- type trees, each with what is read of it
pub data LayoutReread : List TypeIr → List TypeIr → Type 0 where
  empty : LayoutReread [] []
  more : {t u : TypeIr} {ts us : List TypeIr} → TypeReread t u → LayoutReread ts us → LayoutReread (t ∷ ts) (u ∷ us)

-- ---- parts

-- what reading finds of a tree that was written from `at` on
abbrev back : ℕ → Tree → Tree
back at t = placed at (cut t)

-- an optional text is read back
text_back : (x : Option Name) (at : ℕ) → optional text (back at (optional_tree name x)) ≡ x
unfolding placed cut
text_back (some n) at = refl
text_back none at = refl

-- a flag is read back
flag_back : (b : Bool) (at : ℕ) → flag (back at (flag_tree b)) ≡ b
unfolding placed cut
flag_back true at = refl
flag_back false at = refl

-- a parameter is read back
parameter_back : (p : IrParameter) (at : ℕ) → parameter_of (back at (parameter_tree p)) ≡ p
unfolding placed cut part
parameter_back p at = rw (text_back, flag_back)

-- so is a list of them
parameters_back : (ps : List IrParameter) (at : ℕ) → entries parameter_of (back at (entries_tree parameter_tree ps)) ≡ ps
unfolding placed cut entries entries_tree
parameters_back [] at = refl
parameters_back (p ∷ ps) at = ap₂ (λ (x : IrParameter) (xs : List IrParameter). x ∷ xs) (parameter_back p _) (parameters_back ps _)

-- arguments are read back, but for their offsets
arguments_back : (xs : List IrArgument) (at : ℕ) → SameArguments xs (entries argument_of (back at (entries_tree argument_tree xs)))
unfolding placed cut entries entries_tree part
arguments_back [] at = SameArguments.none
arguments_back (x ∷ xs) at = SameArguments.more _ _ x.name x.value (arguments_back xs _)

-- ---- nodes

mutual
  unfolding placed cut part view part_or part_view cases_in form_of make_thing thing_of node_of node_tree

  -- a node is read back
  node_back : (n : IrNode) (at : ℕ) → NodeReread n (node_of (back at (node_tree n)))
  node_back (IrNode.ZeroSize a m) at = rw text_back (NodeReread.ZeroSize a at m)
  node_back (IrNode.Const a m v) at = rw text_back (NodeReread.Const a at m v)
  node_back (IrNode.FieldRef a m p x) at = rw (text_back m.size_expr, text_back x) (NodeReread.FieldRef a at m p x)
  node_back (IrNode.AlignUp a m v n) at = rw text_back (NodeReread.AlignUp a at m v (node_back n _))
  node_back (IrNode.Switch a m t cs d) at = rw text_back (NodeReread.Switch a at m t (cases_back cs _) (default_back d _))
  node_back (IrNode.CallNested a m t xs) at = rw text_back (NodeReread.CallNested a at m t (arguments_back xs _))
  node_back (IrNode.Binary a m o l r) at = rw ((operation o).2, text_back) (NodeReread.Binary a at m o (node_back l _) (node_back r _))
  node_back (IrNode.SumOverArray a m c t f) at = rw text_back (NodeReread.SumOverArray a at m t f (node_back c _))

  -- so are the cases of a switch
  cases_back : (cs : SwitchCases) (at : ℕ) → CasesReread cs (cases_in (view thing_of (back at (cases_tree cs))))
  cases_back SwitchCases.no_case at = CasesReread.no_case
  cases_back (SwitchCases.case v n ps cs) at = rw parameters_back (CasesReread.case v ps (node_back n _) (cases_back cs _))

  -- and its default node
  default_back : (d : DefaultNode) (at : ℕ) → DefaultReread d (default_in (back at (default_tree d)) (view thing_of (back at (default_tree d))))
  default_back DefaultNode.no_default at = DefaultReread.no_default
  default_back (DefaultNode.or_else n) at = DefaultReread.or_else (node_back n _)

-- ---- layouts

-- and the type trees of a layout
types_back : (ts : List TypeIr) (at : ℕ) → LayoutReread ts (entries type_ir_of (back at (entries_tree type_ir_tree ts)))
unfolding placed cut part entries entries_tree
types_back [] at = LayoutReread.empty
types_back (t ∷ ts) at = LayoutReread.more (record { named = refl; alignment = refl; root = node_back t.root _; parameters = parameters_back t.parameters _ }) (types_back ts _)

-- and the layout
pub read_back : (ts : List TypeIr) → LayoutReread ts (layout_of (placed 0 (cut (layout_tree ts))))
unfolding placed cut part layout_of layout_tree
read_back ts = types_back ts _

-- what is read from the writing of a layout
pub layout_read : (ts : List TypeIr) (l : Tree) → length (write (layout_tree ts)) ≤ 65536 → read_layout (write (layout_tree ts)) ≡ done l → LayoutReread ts (layout_of l)
layout_read ts l s e = rw (unique 256 160 (layout_tree ts) l (shaped ts) s e) (read_back ts)

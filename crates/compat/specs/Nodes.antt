-- For the proof of demand 3: a node and the same node with cases added behind the last of some switches. Offsets may
-- differ. Each called name is known.
use Rattle.std.specs.Prelude.{ℕ, ◌≡◌, List, [], ◌∷◌}
use Rattle.std.proofs.Math.Option.{Option}
use Rattle.errors.specs.Refusal.{done}
use Rattle.blocks.specs.Name.{Name}
use Rattle.ir.specs.Ir.{NodeMetadata, IrParameter, IrArgument, BinaryOp, IrNode, SwitchCases, DefaultNode, TypeIr}
use Rattle.interpreter.specs.Eval.{lookup_type}

-- arguments that differ at most in their offsets
pub data SameArguments : List IrArgument → List IrArgument → Type 0 where
  none : SameArguments [] []
  more : {xs ys : List IrArgument} (a b : ℕ) (n v : Name) → SameArguments xs ys → SameArguments (record { at = a; name = n; value = v } ∷ xs) (record { at = b; name = n; value = v } ∷ ys)

module _ (Known : Name → Type 0) where
  mutual
    pub data NodeExtended : IrNode → IrNode → Type 0 where
      ZeroSize : (a b : ℕ) (m : NodeMetadata) → NodeExtended (IrNode.ZeroSize a m) (IrNode.ZeroSize b m)
      Const : (a b : ℕ) (m : NodeMetadata) (v : ℕ) → NodeExtended (IrNode.Const a m v) (IrNode.Const b m v)
      FieldRef : (a b : ℕ) (m : NodeMetadata) (p : Name) (x : Option Name) → NodeExtended (IrNode.FieldRef a m p x) (IrNode.FieldRef b m p x)
      AlignUp : {n n' : IrNode} (a b : ℕ) (m : NodeMetadata) (v : ℕ) → NodeExtended n n' → NodeExtended (IrNode.AlignUp a m v n) (IrNode.AlignUp b m v n')
      Switch : {cs cs' : SwitchCases} (a b : ℕ) (m : NodeMetadata) (t : Name) → CasesExtended cs cs' → NodeExtended (IrNode.Switch a m t cs DefaultNode.no_default) (IrNode.Switch b m t cs' DefaultNode.no_default)
      CallNested : {xs ys : List IrArgument} (a b : ℕ) (m : NodeMetadata) (n : Name) → Known n → SameArguments xs ys → NodeExtended (IrNode.CallNested a m n xs) (IrNode.CallNested b m n ys)
      Binary : {l l' r r' : IrNode} (a b : ℕ) (m : NodeMetadata) (o : BinaryOp) → NodeExtended l l' → NodeExtended r r' → NodeExtended (IrNode.Binary a m o l r) (IrNode.Binary b m o l' r')
      SumOverArray : {c c' : IrNode} (a b : ℕ) (m : NodeMetadata) (t f : Name) → NodeExtended c c' → NodeExtended (IrNode.SumOverArray a m c t f) (IrNode.SumOverArray b m c' t f)

    pub data CasesExtended : SwitchCases → SwitchCases → Type 0 where
      added_cases : (cs : SwitchCases) → CasesExtended SwitchCases.no_case cs
      case : {n n' : IrNode} {cs cs' : SwitchCases} (v : ℕ) (ps : List IrParameter) → NodeExtended n n' → CasesExtended cs cs' → CasesExtended (SwitchCases.case v n ps cs) (SwitchCases.case v n' ps cs')

-- a name that a layout has
pub record Found (types : List TypeIr) (n : Name) : Type 0 where
  pub place : ℕ
  pub type : TypeIr
  pub found : lookup_type 0 n types ≡ done (place, type)

-- a type of the old layout, extended in the new one
pub record TypeExtended (old new : List TypeIr) (n : Name) (t : TypeIr) : Type 0 where
  pub place : ℕ
  pub type : TypeIr
  pub found : lookup_type 0 n new ≡ done (place, type)
  pub named : t.type_name ≡ type.type_name
  pub parameters : t.parameters ≡ type.parameters
  pub root : NodeExtended (Found old) t.root type.root

-- every name that the old layout has, the new layout has, extended
abbrev pub LayoutExtended : List TypeIr → List TypeIr → Type 0
LayoutExtended old new = (n : Name) (i : ℕ) (t : TypeIr) → lookup_type 0 n old ≡ done (i, t) → TypeExtended old new n t

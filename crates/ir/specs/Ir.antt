-- ir.rs: `IrNode` and parts. "Endianness is always Little in built nodes and is not stored. The serde forms are left out."
use Rattle.std.specs.Prelude.{ℕ, Bool, List}
use Rattle.std.proofs.Math.Option.{Option, none}
use Rattle.blocks.specs.Name.{Name}

-- "alignment, flag with size text or without"
pub record NodeMetadata : Type 0 where
  pub alignment : ℕ
  pub size_expr : Option Name

-- "every default alignment comes from `NodeMetadata::default_alignment`"
abbrev pub default_alignment : ℕ
default_alignment = 1

-- `NodeMetadata::aligned`
abbrev pub aligned : ℕ → NodeMetadata
aligned a = record { alignment = a; size_expr = none }

-- `NodeMetadata::default`
abbrev pub default_metadata : NodeMetadata
default_metadata = aligned default_alignment

-- "162 parameter: name, flag with description, derived flag"
pub record IrParameter : Type 0 where
  pub name : Name
  pub description : Option Name
  pub derived : Bool

-- "164 argument: name, value name"; at: the offset of its block
pub record IrArgument : Type 0 where
  pub at : ℕ
  pub name : Name
  pub value : Name

-- AddChecked 134 to RightShift 143, in `IrNode` order
pub data BinaryOp : Type 0 where
  AddChecked SubChecked MulChecked DivChecked ModChecked BitAnd BitOr BitXor LeftShift RightShift : BinaryOp

-- Each node begins with the offset of its block in the layout, which refusals name, and its metadata; then its fields in
-- ir.rs order. The ten nodes of two operands are one.
mutual
  pub data IrNode : Type 0 where
    ZeroSize : ℕ → NodeMetadata → IrNode
    -- value
    Const : ℕ → NodeMetadata → ℕ → IrNode
    -- path, parameter
    FieldRef : ℕ → NodeMetadata → Name → Option Name → IrNode
    -- alignment, node
    AlignUp : ℕ → NodeMetadata → ℕ → IrNode → IrNode
    -- tag, cases, default
    Switch : ℕ → NodeMetadata → Name → SwitchCases → DefaultNode → IrNode
    -- type_name, arguments
    CallNested : ℕ → NodeMetadata → Name → List IrArgument → IrNode
    -- left, right
    Binary : ℕ → NodeMetadata → BinaryOp → IrNode → IrNode → IrNode
    -- count, element_type_name, field_name
    SumOverArray : ℕ → NodeMetadata → IrNode → Name → Name → IrNode

  -- `SwitchCase`: tag_value, node, parameters
  pub data SwitchCases : Type 0 where
    no_case : SwitchCases
    case : ℕ → IrNode → List IrParameter → SwitchCases → SwitchCases

  pub data DefaultNode : Type 0 where
    no_default : DefaultNode
    or_else : IrNode → DefaultNode

-- A node that is built has no place in a layout yet: reading gives it one, and writing does not look at it.
abbrev pub unplaced : ℕ
unplaced = 0

-- "161 type trees (name, alignment, root, count, parameters)"
pub record TypeIr : Type 0 where
  pub type_name : Name
  pub alignment : ℕ
  pub root : IrNode
  pub parameters : List IrParameter

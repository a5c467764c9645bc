-- The expression kinds that become nodes of two operands.
use Rattle.std.specs.Prelude.{ℕ, ◌≤◌, ◌≡◌, Option, Some, None}
use Rattle.std.proofs.Math.Option.{some, none}
use Rattle.ir.specs.Ir.{BinaryOp}
use Rattle.ir.specs.Layout.{op_kind}
use Rattle.builder.specs.Nodes.{operation_of}

-- an expression kind, and the node kind of its operation
pub record Operation (k kind : ℕ) : Type 0 where
  pub low : 68 ≤ k
  pub high : k ≤ 78
  pub op : BinaryOp
  pub is : operation_of k ≡ some op
  pub node : op_kind op ≡ kind
  pub least : 128 ≤ kind
  pub most : kind ≤ 144

-- an expression kind and what it becomes: the node kind of its operation, if it has one
pub data Operates (k : ℕ) : Option ℕ → Type 0 where
  operation : {kind : ℕ} → Operation k kind → Operates k (Some kind)
  other : operation_of k ≡ none → Operates k None

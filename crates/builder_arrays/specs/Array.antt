-- An array's node, part by part.
use Rattle.std.specs.Prelude.{ℕ, ◌+◌, ◌-◌, List, ◌++◌}
use Rattle.blocks.specs.Bytes.{bytes}
use Rattle.blocks.specs.Name.{Name}
use Rattle.blocks.specs.Tree.{num}
use Rattle.blocks.specs.Write.{write}
use Rattle.expr.specs.Expr.{ExprKind}
use Rattle.resolved.specs.Resolved.{Owner, Head, ResolvedTypeKind}
use Rattle.ir.specs.Ir.{IrNode}
use Rattle.builder.specs.Registry.{Build, ◌>>=◌, give, extend_with}
use Rattle.builder.specs.Nodes.{build_expr_ir, sum_over_array}
use Rattle.wire.specs.Poke.{Wrote}
use Rattle.builder_nodes.specs.Built.{node_start}

-- An AlignUp node and in it a node of a kind, both as far as their metadata.
pub record Opened (xs : List ℕ) (at kind alignment : ℕ) (ys : List ℕ) (q : ℕ) : Type 0 where
  pub one : List ℕ
  pub align : Wrote xs at (node_start 131 alignment ++ write (num 8 alignment)) one (at + 23)
  pub node : Wrote one (at + 23) (node_start kind alignment) ys q

-- the count, and then the element's references entered
unfoldable pub counted : Name → Name → ExprKind → List Owner → Build IrNode
counted owner prefix e os = do
  count ← build_expr_ir owner prefix e
  _ ← extend_with os
  give count

-- a jagged array of variable elements
unfoldable pub summed : Head → Name → Name → ExprKind → ResolvedTypeKind → Build IrNode
summed h owner prefix e k = do
  count ← build_expr_ir owner prefix e
  sum_over_array h owner count k

-- the lengths of both nodes
pub record Closed (xs : List ℕ) (at end : ℕ) (ys : List ℕ) : Type 0 where
  pub inner : List ℕ
  pub p : ℕ
  pub q : ℕ
  pub one : Wrote xs (at + 23) (bytes 4 (end - (at + 23) - 4)) inner p
  pub two : Wrote inner at (bytes 4 (end - at - 4)) ys q

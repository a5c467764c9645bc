-- `ir_nodes::node_part` meets its contract: a digit of the row. Assumes nothing.
use Rattle.ir_nodes.proofs.Rows.{part_at}
use native.Mathlib.Omega.{arith}
use borrow.Author.Rules.{rules}
use Rattle.ir_nodes.proofs.node_part.Goals as goal

pub returns : goal.returns
returns c = part_at _ _ c.node_row.ensures

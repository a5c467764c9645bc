-- `ir_nodes::behind_metadata` meets its contract: an entry of the table. Assumes nothing.
use Rattle.ir_nodes.proofs.Rows.{node_row}
use borrow.Author.Rules.{rules}
use Rattle.ir_nodes.proofs.behind_metadata.Goals as goal

pub returns : goal.returns
returns c = node_row _ c.requires.0 c.requires.1

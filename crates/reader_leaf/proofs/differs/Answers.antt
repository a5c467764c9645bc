-- The search has found no block of the name.
use Rattle.reader_leaf.proofs.Laws.{differs_is}
use Rattle.reader_leaf.proofs.differs.Goals as goal

pub returns : goal.returns
returns c = differs_is _ c.block_named.ensures c.name_at.ensures _ c.is_none.ensures

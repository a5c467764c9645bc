-- The first block of the name is the type tree.
use Rattle.lookup.proofs.Types.{layout_stands, tree_found}
use Rattle.lookup.proofs.Distinct.{whole}
use Rattle.lookup.proofs.lookup_type.Goals as goal

pub read2-requires : goal.read2-requires
read2-requires c = (whole c.requires.1).inside

pub block_named-requires : goal.block_named-requires
block_named-requires c = layout_stands _ _ c.requires.1 c.read2.ensures.0

pub returns : goal.returns
returns c = tree_found c.read2.ensures.0 c.block_named.ensures

-- The first block of the name is the type's, and its offset is kept.
use Rattle.lookup.proofs.Types.{set_list, set_stands, type_there, type_missing}
use Rattle.lookup.proofs.get_type_info.Goals as goal

pub read2-requires : goal.read2-requires
read2-requires c = (set_list c.requires.1).0

pub block_named-requires : goal.block_named-requires
block_named-requires c = set_stands _ _ c.requires.1 c.read2.ensures.0

pub returns : goal.returns
returns c = type_there c.read2.ensures.0 c.block_named.ensures c.in_ok-found.was

pub returns-in_err-found : goal.returns-in_err-found
returns-in_err-found c =
    rw c.from_residual.ensures (type_missing c.read2.ensures.0 c.block_named.ensures c.in_err-found.was)

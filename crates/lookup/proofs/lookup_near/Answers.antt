-- The names are distinct, so that a block of the name is the first of it.
use Rattle.lookup.proofs.Distinct.{whole}
use Rattle.lookup.proofs.Near.{stands_behind, stands_before, found_behind, found_before}
use Rattle.lookup.proofs.lookup_near.Goals as goal

pub read2-requires : goal.read2-requires
read2-requires c = (whole c.requires.0.1).inside

pub block_named-requires : goal.block_named-requires
block_named-requires c =
    stands_behind _ _ _ c.requires.0.1 c.requires.1 _ c.read2.ensures.0

pub returns-in-Some : goal.returns-in-Some
returns-in-Some c =
    found_behind c.read2.ensures.0 c.requires.1 c.block_named.ensures c.in-Some.is

pub block_named-requires-in-None : goal.block_named-requires-in-None
block_named-requires-in-None c = stands_before _ _ _ c.requires.0.1 c.requires.1

pub returns-in-None : goal.returns-in-None
returns-in-None c =
    found_before c.read2.ensures.0 c.requires.1 c.block_named.ensures c.in-None.is c.block_named-in-None.ensures

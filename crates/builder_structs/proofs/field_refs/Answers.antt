-- The sum of the struct's references for the field, if it has some.
use Rattle.builder_structs.proofs.Field.{paths_found, refs_missing, refs_found}
use Rattle.builder_structs.proofs.field_refs.Goals as goal

pub put_sum-requires : goal.put_sum-requires
put_sum-requires c = record { field = c.requires.field; list = paths_found c.in-Some.ensures.paths_found c.requires.refs }

pub returns-in-Some-clause-builds : goal.returns-in-Some-clause-builds
returns-in-Some-clause-builds c = refs_found _ _ _ c.name_at-owner.ensures c.in-Some.ensures.paths_found c.put_sum.ensures.builds

pub returns-in-None-clause-builds : goal.returns-in-None-clause-builds
returns-in-None-clause-builds c = refs_missing _ _ _ c.name_at-owner.ensures c.in-None.ensures.paths_found

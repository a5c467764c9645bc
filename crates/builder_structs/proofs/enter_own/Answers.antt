-- The references are those of the type's head.
use Rattle.builder_structs.proofs.Field.{own_entered}
use Rattle.builder_structs.proofs.enter_own.Goals as goal

pub extend_with-requires : goal.extend_with-requires
extend_with-requires c = (c.requires.0, (c.type_head-references.ensures c.requires.1).references)

pub returns-clause-kept : goal.returns-clause-kept
returns-clause-kept c = own_entered _ c.type_head-references.ensures c.extend_with.ensures.kept

-- behind the owner's mark that of the rest of a canonical name
use Rattle.builder_registry.proofs.NameMarks.{mark_path}
use Rattle.builder_registry.proofs.mark_name.Goals as goal

pub returns-in-None-clause-mark_value : goal.returns-in-None-clause-mark_value
returns-in-None-clause-mark_value c = mark_path _ _ c.made_of.ensures c.owner_at-owner.ensures.value c.mark_owner-start.ensures c.held_at.ensures.result_value c.path_of.ensures.result_value c.in-None.is c.canonical_mark-mark.ensures

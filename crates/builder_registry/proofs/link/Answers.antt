-- the normal path's slot is linked, and the alias's, or this is left out
use Rattle.builder_registry.proofs.Index.{linking_both, linking_one}
use Rattle.builder_registry.proofs.link.Goals as goal

pub returns-in-Some : goal.returns-in-Some
returns-in-Some c = linking_both _ c.requires.0 _ _ _ c.link.ensures _ _ c.link-in-Some.ensures _ c.in-Some.is

pub returns-in_default : goal.returns-in_default
returns-in_default c = linking_one _ c.requires.0 _ _ _ c.link.ensures c.link.auto.table c.requires.1 _ c.in_default.is

-- the owner's made parameter has one key
use Rattle.builder_registry.proofs.Keys.{word_made}
use Rattle.builder_registry.proofs.has_key.Goals as goal

pub returns-in-Some : goal.returns-in-Some
returns-in-Some c = word_made _ _ _ _ _ c.requires c.if-not-mine.false c.made_of.ensures c.in-Some.is c.made_has.ensures

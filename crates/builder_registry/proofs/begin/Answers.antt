-- the part of the words behind the entries is an empty table
use Rattle.builder_registry.proofs.Index.{index_none}
use Rattle.builder_registry.proofs.begin.Goals as goal

pub returns : goal.returns
returns c = index_none c.args.words.now c.clear.new.table c.requires c.clear.auto.table c.clear.ensures

-- The tag's name is the first part behind the metadata.
use Rattle.interpreter_leaves.proofs.Nodes.{switch_tag, tag_is}
use Rattle.interpreter_leaves.proofs.tag.Goals as goal

pub found-requires : goal.found-requires
found-requires c = ((switch_tag c.first_part-p.ensures c.requires.0 c.requires.1).0, c.requires.2)

pub returns-clause-result_value : goal.returns-clause-result_value
returns-clause-result_value c = tag_is c.found.result c.first_part-p.ensures c.requires.1 c.found.ensures.result_value

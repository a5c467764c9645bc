-- The value is the first part behind the metadata.
use mathlib.Core.Path.{◌∙◌}
use Rattle.interpreter_leaves.proofs.Nodes.{const_at, const_is}
use Rattle.interpreter_leaves.proofs.constant.Goals as goal

pub read8-requires : goal.read8-requires
read8-requires c = (const_at c.first_part-p.ensures c.requires.0 c.requires.1).0

pub returns : goal.returns
returns c = const_is c.first_part-p.ensures c.requires.1 (c.of.ensures ∙ c.read8.ensures)
